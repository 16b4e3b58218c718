-- What is found in the tables of a body is what its references refer to.
use Rattle.std.proofs.Common.{◌≡◌, ℕ, zero, suc, ◌+◌, ◌<◌, ◌≤◌, Bool, true, false, ◌||◌, List, [], ◌∷◌, ◌++◌, map, length, refl, ap, sym, ◌∙◌, append_assoc, arith}
use Rattle.std.specs.Prelude.{Option, Some, None, is_some, option_copied, slice_get, if◌then◌else◌}
use Rattle.std.specs.List.{flat_map, list_any}
use Rattle.std.specs.Borrow.{Bor}
use Rattle.std.proofs.lemmas.List.{length-map, length_push}
use Rattle.design_tree.specs.declared.leaves.Name.{Name}
use Rattle.design_tree.specs.declared.leaves.ApplicationId.{ApplicationId}
use Rattle.design_tree.specs.declared.statements.Statement.{Statement}
use Rattle.design_tree.specs.declared.statements.Statement.TheVariants as S
use Rattle.design_tree.specs.declared.declarations.ModulePort.{ModulePort}
use Rattle.name_tables.specs.Labels.{same_label}
use Rattle.name_tables.specs.Lists.{index_from, index_in}
use Rattle.name_tables.specs.ListLaws.{found_from}
use Rattle.check_rules.specs.declared.referent.Resolution.{Resolution}
use Rattle.check_rules.specs.declared.referent.Resolution.TheVariants.{To, Undeclared}
use Rattle.check_rules.specs.declared.referent.Referent.TheVariants as K
use Rattle.check_rules.specs.Scopes.{Scope, and_then, find_id, find_port}
use Rattle.check_rules.specs.References.{named, id_named, channels_of, own_name, is_among}
use Rattle.design_scopes.specs.declared.body.Body.{Body}
use Rattle.design_scopes.specs.declared.body_names.BodyNames.{BodyNames}
use Rattle.design_scopes.specs.declared.declared.Declared.{Declared}
use Rattle.design_scopes.specs.Bodies.{referred}
use Rattle.design_scopes.specs.Tables.{port_label, name_label}
use Rattle.design_scopes.specs.Resolving.{scope_in, IsNamesOf, id_labels, id_owners, own_of, own_at_index, port_or_channel}
use Rattle.design_scopes.proofs.Finding.{or_else, index_append, index_within, get_seam, get_past, find_named}
use Rattle.design_scopes.specs.Flat.{map_flat, flat_map_of_map}

-- ---- the owner of an application id

found_step : {A : Type 0} (b : Bool) (i : ℕ) (front : List A) (x : A) (xs : List A) (o : Option ℕ) (r : Option A) → i ≡ length front → and_then o (slice_get (front ++ x ∷ xs)) ≡ r
    → and_then (if b then Some i else o) (slice_get (front ++ x ∷ xs)) ≡ (if b then Some x else r)
found_step true i front x xs o r e later = ap (slice_get (front ++ x ∷ xs)) e ∙ get_seam front x xs
found_step false i front x xs o r e later = later

owner_from : (id : ApplicationId) (front sts : List Statement) (i : ℕ) → i ≡ length front
    → and_then (index_from (id_named id).label i (flat_map id_labels sts)) (slice_get (front ++ flat_map id_owners sts)) ≡ find_id id sts
owner_from id front [] i e = refl
owner_from id front (S.Request at service port own ∷ sts) i e =
    let s = S.Request at service port own in
    found_step (same_label (id_named id).label (id_named own).label) i front s (flat_map id_owners sts) (index_from (id_named id).label (i + 1) (flat_map id_labels sts)) (find_id id sts) e
    (ap (λ l. and_then (index_from (id_named id).label (i + 1) (flat_map id_labels sts)) (slice_get l)) (sym (append_assoc front (s ∷ []) (flat_map id_owners sts)))
    ∙ owner_from id (front ++ s ∷ []) sts (i + 1) (ap (λ k. k + 1) e ∙ sym (length_push front s)))
owner_from id front (S.Instance at own body bindings ∷ sts) i e =
    let s = S.Instance at own body bindings in
    found_step (same_label (id_named id).label (id_named own).label) i front s (flat_map id_owners sts) (index_from (id_named id).label (i + 1) (flat_map id_labels sts)) (find_id id sts) e
    (ap (λ l. and_then (index_from (id_named id).label (i + 1) (flat_map id_labels sts)) (slice_get l)) (sym (append_assoc front (s ∷ []) (flat_map id_owners sts)))
    ∙ owner_from id (front ++ s ∷ []) sts (i + 1) (ap (λ k. k + 1) e ∙ sym (length_push front s)))
owner_from id front (S.Channels at names operation ∷ sts) i e = owner_from id front sts i e
owner_from id front (S.Drive at sink source ∷ sts) i e = owner_from id front sts i e

copied_get : {A : Type 0} (xs : List (Bor A)) (o : Option ℕ) → option_copied (and_then o (slice_get xs)) ≡ and_then o (slice_get (referred xs))
copied_get xs None = refl
copied_get [] (Some k) = refl
copied_get (x ∷ xs) (Some zero) = refl
copied_get (x ∷ xs) (Some (suc k)) = copied_get xs (Some k)

pub owner_found : (id : ApplicationId) (b : Body) (n : BodyNames) (o : Option ℕ) → IsNamesOf b n → o ≡ index_in (id_named id).label n.ids
    → option_copied (and_then o (slice_get n.owners)) ≡ find_id id (referred b.statements)
owner_found id b n o names e =
    copied_get n.owners o
    ∙ (λ i. and_then ((e ∙ ap (index_in (id_named id).label) (names.ids_are ∙ sym (flat_map_of_map id_labels (λ (s : Bor Statement). s.now) b.statements))) i)
    (slice_get ((names.owners_are ∙ sym (flat_map_of_map id_owners (λ (s : Bor Statement). s.now) b.statements)) i)))
    ∙ owner_from id [] (referred b.statements) 0 refl

-- ---- a name of the body's own

any_of_map : {A B : Type 0} (test : B → Bool) (f : A → B) (xs : List A) → list_any test (map f xs) ≡ list_any (λ x. test (f x)) xs
any_of_map test f [] = refl
any_of_map test f (x ∷ xs) = ap (λ b. test (f x) || b) (any_of_map test f xs)

get_some : {A : Type 0} (xs : List A) (k : ℕ) → k < length xs → is_some (slice_get xs k) ≡ true
get_some [] k low = absurd (omega arith)
get_some (x ∷ xs) zero low = refl
get_some (x ∷ xs) (suc k) low = get_some xs k (omega arith)

channels_are : (b : Body) → flat_map (λ s. map name_label (channels_of s.now)) b.statements ≡ map name_label (flat_map channels_of (referred b.statements))
channels_are b = sym (map_flat name_label channels_of (referred b.statements) ∙ flat_map_of_map (λ s. map name_label (channels_of s)) (λ (s : Bor Statement). s.now) b.statements)

-- a name that is a port's
of_port : (scope : Scope) (ports : List ModulePort) (name : Name) (o : Option ModulePort) → is_some o ≡ true → port_or_channel o ≡ own_name scope name o
of_port scope ports name None e = absurd (cc)
of_port scope ports name (Some p) e = refl

-- a name that is none
of_channel : (scope : Scope) (ports : List ModulePort) (name : Name) (o : Option ℕ) → ((k : ℕ) → o ≡ Some k → length ports ≤ k) → is_some o ≡ is_among name (flat_map channels_of scope.statements)
    → own_at_index ports name o ≡ own_name scope name None
of_channel scope ports name None past e = ap (λ b. if b then To K.Channel else Undeclared name.at) e
of_channel scope ports name (Some k) past e = ap port_or_channel (get_past ports k (past k refl)) ∙ ap (λ b. if b then To K.Channel else Undeclared name.at) e

own_parts : (scope : Scope) (name : Name) (ports : List ModulePort) (o p : Option ℕ) → and_then o (slice_get ports) ≡ find_port name ports → ((k : ℕ) → o ≡ Some k → k < length ports)
    → ((k : ℕ) → p ≡ Some k → length ports ≤ k) → is_some p ≡ is_among name (flat_map channels_of scope.statements) → own_at_index ports name (or_else o p) ≡ own_name scope name (find_port name ports)
own_parts scope name ports (Some k) p found low past e = of_port scope ports name (slice_get ports k) (get_some ports k (low k refl)) ∙ ap (own_name scope name) found
own_parts scope name ports None p found low past e = of_channel scope ports name p past e ∙ ap (own_name scope name) found

pub own_found : (d : Declared) (b : Body) (name : Name) → own_of b name ≡ own_name (scope_in d b) name (find_port name b.ports.now)
own_found d b name =
    let label = (named name).label in
    let ports = b.ports.now in
    let channels = flat_map channels_of (referred b.statements) in
    let n = 0 + length (map port_label ports) in
    let many : length (map port_label ports) ≡ length ports = length-map ports port_label in
    ap (λ l. own_at_index ports name (index_in label (map port_label ports ++ l))) (channels_are b)
    ∙ ap (own_at_index ports name) (index_append label 0 (map port_label ports) (map name_label channels))
    ∙ own_parts (scope_in d b) name ports (index_in label (map port_label ports)) (index_from label n (map name_label channels)) (find_named name (λ p. p.name) ports)
    (λ k e. let high = (index_within label 0 k (map port_label ports) e).1 in omega arith) (λ k e. let low = (index_within label n k (map name_label channels) e).0 in omega arith)
    (found_from label n (map name_label channels) ∙ any_of_map (same_label label) name_label channels)
