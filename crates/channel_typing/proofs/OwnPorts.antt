-- The port that is found by the index of its name among those of ports and channels.
use Rattle.std.proofs.Common.{◌≡◌, ℕ, zero, suc, ◌+◌, ◌≤◌, Bool, true, false, List, [], ◌∷◌, ◌++◌, map, length, refl, ap, sym, ◌∙◌, append_assoc, length-append, arith}
use Rattle.std.specs.Prelude.{Some, None, slice_get, if◌then◌else◌}
use Rattle.std.proofs.lemmas.List.{length_push}
use Rattle.design_tree.specs.declared.leaves.Name.{Name}
use Rattle.design_tree.specs.declared.declarations.ModulePort.{ModulePort}
use Rattle.name_tables.specs.Labels.{Label, same_label}
use Rattle.name_tables.specs.Lists.{index_from, index_in}
use Rattle.check_rules.specs.Scopes.{and_then, is_name, find_port}
use Rattle.check_rules.specs.References.{named}
use Rattle.design_scopes.specs.Tables.{port_label}

get_past : (ports : List ModulePort) (k : ℕ) → length ports ≤ k → slice_get ports k ≡ None
get_past [] k high = refl
get_past (p ∷ ports) zero high = absurd (omega arith)
get_past (p ∷ ports) (suc k) high = get_past ports k (omega arith)

get_seam : (front : List ModulePort) (p : ModulePort) (ports : List ModulePort) → slice_get (front ++ p ∷ ports) (length front) ≡ Some p
get_seam [] p ports = refl
get_seam (q ∷ front) p ports = get_seam front p ports

beyond : (label : Label) (i : ℕ) (rest : List Label) (ports : List ModulePort) → length ports ≤ i → and_then (index_from label i rest) (slice_get ports) ≡ None
beyond label i [] ports high = refl
beyond label i (x ∷ rest) ports high = tested (same_label label x) (beyond label (i + 1) rest ports (omega arith))
  where
    tested : (b : Bool) → and_then (index_from label (i + 1) rest) (slice_get ports) ≡ None → and_then (if b then Some i else index_from label (i + 1) rest) (slice_get ports) ≡ None
    tested true later = get_past ports i high
    tested false later = later

found_from : (name : Name) (front ports : List ModulePort) (rest : List Label) (i : ℕ) → i ≡ length front
    → and_then (index_from (named name).label i (map port_label ports ++ rest)) (slice_get (front ++ ports)) ≡ find_port name ports
found_from name front [] rest i e = beyond (named name).label i rest (front ++ []) (omega (arith, length-append front []))
found_from name front (p ∷ ports) rest i e =
    tested (is_name name p.name)
    (ap (λ l. and_then (index_from (named name).label (i + 1) (map port_label ports ++ rest)) (slice_get l)) (sym (append_assoc front (p ∷ []) ports))
    ∙ found_from name (front ++ p ∷ []) ports rest (i + 1) (ap (λ k. k + 1) e ∙ sym (length_push front p)))
  where
    tested : (b : Bool) → and_then (index_from (named name).label (i + 1) (map port_label ports ++ rest)) (slice_get (front ++ p ∷ ports)) ≡ find_port name ports
        → and_then (if b then Some i else index_from (named name).label (i + 1) (map port_label ports ++ rest)) (slice_get (front ++ p ∷ ports)) ≡ (if b then Some p else find_port name ports)
    tested true later = ap (slice_get (front ++ p ∷ ports)) e ∙ get_seam front p ports
    tested false later = later

pub port_found : (name : Name) (ports : List ModulePort) (rest : List Label) → and_then (index_in (named name).label (map port_label ports ++ rest)) (slice_get ports) ≡ find_port name ports
port_found name ports rest = found_from name [] ports rest 0 refl
