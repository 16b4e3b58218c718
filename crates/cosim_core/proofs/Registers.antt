-- The numbers of registers, read one after another.
use Rattle.std.proofs.Common.{◌≡◌, ℕ, zero, suc, ◌+◌, ◌<◌, true, List, [], ◌∷◌, ◌++◌, length, drop, get_or, sym, ◌∙◌, ap, subst, append_assoc, append-nil, arith}
use Rattle.std.specs.List.{AllByRecursion}
use Rattle.std.specs.Prelude.{if◌then◌else◌}
use Rattle.netlist.specs.declared.net.Net.{Net}
use Rattle.netlist.specs.declared.net.Net.TheVariants.{Not}
use Rattle.netlist.specs.Nets.{is_register}
use Rattle.netlist.specs.Plans.{net_at, is_register_at}
use Rattle.session_rules.specs.Registers.{register_places, places_are_registers}
use Rattle.cosim_core.proofs.Walks.{drop_read, drop_end}

all_at : (P : ℕ → Type 0) (xs : List ℕ) (k : ℕ) → AllByRecursion P xs → k < length xs → P (get_or xs k 0)
all_at P [] k all lt = absurd (omega arith)
all_at P (x ∷ xs) zero all lt = all.0
all_at P (x ∷ xs) (suc k) all lt = all_at P xs k all.1 (omega arith)

pub place_at : (nets : List Net) (places : List ℕ) (k : ℕ) → places ≡ register_places 0 nets → k < length places → is_register_at nets (get_or places k 0) ≡ true
place_at nets places k is lt =
    all_at (λ place. is_register_at nets place ≡ true) places k
    (subst (λ (ps : List ℕ). AllByRecursion (λ place. is_register_at nets place ≡ true) ps) (sym is) (places_are_registers nets)) lt

pub noted_more : (nets : List Net) (places places' whole : List ℕ) (k : ℕ) (net : Net) → k < length nets → net ≡ net_at nets k → places' ≡ places ++ (if is_register net then k ∷ [] else [])
    → places ++ register_places k (drop k nets) ≡ whole → places' ++ register_places (k + 1) (drop (k + 1) nets) ≡ whole
noted_more nets places places' whole k net lt read more rest =
    let left : List ℕ = register_places (k + 1) (drop (k + 1) nets) in
    ap (λ (l : List ℕ). l ++ left) more
    ∙ (append_assoc places (if is_register net then k ∷ [] else []) left
    ∙ (ap (λ (n : Net). places ++ ((if is_register n then k ∷ [] else []) ++ left)) read
    ∙ (ap (λ (l : List Net). places ++ register_places k l) (sym (drop_read nets k (Not 0) lt)) ∙ rest)))

pub noted_done : (nets : List Net) (places whole : List ℕ) (k : ℕ) → k ≡ length nets → places ++ register_places k (drop k nets) ≡ whole → places ≡ whole
noted_done nets places whole k all rest = sym (append-nil places) ∙ (ap (λ (l : List Net). places ++ register_places k l) (sym (drop_end nets k all)) ∙ rest)
