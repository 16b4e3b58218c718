-- What is not used: the steps of the walk, and that its places are those of the rule.
use Rattle.std.proofs.Common.{◌≡◌, ℕ, min, Bool, true, false, not, ◌&&◌, ◌||◌, List, [], ◌∷◌, ◌++◌, map, refl, ap, sym, ◌∙◌, subst, append_assoc, arith}
use Rattle.std.specs.Prelude.{Option, Some, None, filter, if◌then◌else◌, Contains}
use Rattle.std.specs.List.{flat_map, list_any}
use Rattle.std.specs.Borrow.{Bor}
use Rattle.std.proofs.lemmas.List.{append-nil}
use Rattle.design_tree.specs.declared.statements.Statement.{Statement}
use Rattle.design_tree.specs.declared.statements.Statement.TheVariants as S
use Rattle.design_tree.specs.declared.declarations.Member.{Member}
use Rattle.design_tree.specs.declared.declarations.ModulePort.{ModulePort}
use Rattle.design_tree.specs.declared.declarations.Declaration.{Declaration}
use Rattle.design_tree.specs.declared.top.Top.{Top}
use Rattle.name_tables.specs.Labels.{Label, Occurrence, label_at}
use Rattle.name_tables.specs.FirstPlaces.{earlier, least_from, least, Reports}
use Rattle.name_tables.specs.Lists.{stands, missing}
use Rattle.name_tables.specs.ListLaws.{missing_are, are_missing}
use Rattle.name_tables.specs.PlaceLaws.{least_from-append, least_tells}
use Rattle.check_rules.specs.Scopes.{Scope, scopes, bundle_of, find_module}
use Rattle.check_rules.specs.References.{named, part_label}
use Rattle.check_rules.specs.DeclaredTwice.{port_named}
use Rattle.check_rules.specs.Directions.{ports_of}
use Rattle.check_rules.specs.Uses.{is_out, is_in, members_of, declared_by, binds_due, scope_due, used_in, Due, BreaksUnused}
use Rattle.design_scopes.specs.declared.body.Body.{Body}
use Rattle.design_scopes.specs.declared.declared.Declared.{Declared}
use Rattle.design_scopes.specs.Bodies.{referred, scope_of, AreBodies}
use Rattle.design_scopes.specs.Tables.{port_label}
use Rattle.design_scopes.specs.Resolving.{scope_in, AreDeclared}
use Rattle.design_names.specs.UnusedPlaces.{missing_one, binding_label, place_where, unused_by, unbound_by, used_labels, body_unused}
use Rattle.design_scopes.specs.Flat.{flat_map_flat, flat_map_of_map, contains_flat, flat_contains}
use Rattle.statement_checks.specs.Walks.{least_three}
use Rattle.design_names.proofs.RuleLaws.{used_of, same_scope}

-- ---- the walk

pub unused_step : (d : Declared) (b : Body) (first ports parts last : Option ℕ) (used : List Label) (sts : List (Bor Statement)) → sts ≡ b.statements → used ≡ used_labels sts
    → ports ≡ least_from first (flat_map (λ p. missing_one used (port_named p)) b.ports.now) → parts ≡ least_from ports (flat_map (λ s. unused_by (scope_in d b) used s.now) sts)
    → last ≡ least_from parts (flat_map (λ s. unbound_by (scope_in d b) s.now) sts) → last ≡ least_from first (body_unused d b)
unused_step d b first ports parts last used sts same labels one two three =
    let u : used ≡ used_labels b.statements = labels ∙ ap used_labels same in
    let a = λ (l : List Label). flat_map (λ p. missing_one l (port_named p)) b.ports.now in
    let p = λ (l : List Label) (xs : List (Bor Statement)). flat_map (λ s. unused_by (scope_in d b) l s.now) xs in
    let q = λ (xs : List (Bor Statement)). flat_map (λ s. unbound_by (scope_in d b) s.now) xs in
    three ∙ ap (λ o. least_from o (q sts)) (two ∙ ap (λ o. least_from o (p used sts)) one) ∙ least_three first (a used) (p used sts) (q sts)
    ∙ (λ i. least_from first (a (u i) ++ (p (u i) (same i) ++ q (same i))))

-- ---- one place for all

min_twice : (a b : ℕ) → min (min a b) b ≡ min a b
min_twice a b = grind arith

min_same : (a : ℕ) → min a a ≡ a
min_same a = grind arith

earlier_twice : (first : Option ℕ) (at : ℕ) → earlier (earlier first at) at ≡ earlier first at
earlier_twice None at = ap Some (min_same at)
earlier_twice (Some f) at = ap Some (min_twice f at)

-- whether one is lacking decides the least place of those that are, since all have the same
pub any_missing : {A : Type 0} (g : A → Label) (at : ℕ) (used : List Label) (xs : List A) (first : Option ℕ)
    → least_from first (missing used (map (λ x. record { label = g x; at = at }) xs)) ≡ least_from first (place_where (list_any (λ x. not (stands (g x) used)) xs) at)
any_missing g at used [] first = refl
any_missing {A} g at used (x ∷ xs) first = tested (stands (g x) used) (any_missing g at used xs first) (any_missing g at used xs (earlier first at)) (list_any (λ y. not (stands (g y) used)) xs)
  where
    rest : List ℕ
    rest = missing used (map {A = A} {B = Occurrence} (λ y. record { label = g y; at = at }) xs)

    tested : (b : Bool) → least_from first rest ≡ least_from first (place_where (list_any (λ y. not (stands (g y) used)) xs) at)
        → least_from (earlier first at) rest ≡ least_from (earlier first at) (place_where (list_any (λ y. not (stands (g y) used)) xs) at) → (c : Bool)
        → least_from first ((if b then [] else at ∷ []) ++ rest) ≡ least_from first (place_where (not b || list_any (λ y. not (stands (g y) used)) xs) at)
    tested true later again c = later
    tested false later again c = again ∙ either (list_any (λ y. not (stands (g y) used)) xs)
      where
        either : (e : Bool) → least_from (earlier first at) (place_where e at) ≡ earlier first at
        either true = earlier_twice first at
        either false = refl

any_filter : {A : Type 0} (test other : A → Bool) (xs : List A) → list_any other (filter test xs) ≡ list_any (λ x. test x && other x) xs
any_filter test other [] = refl
any_filter test other (x ∷ xs) = tested (test x) (any_filter test other xs)
  where
    tested : (b : Bool) → list_any other (filter test xs) ≡ list_any (λ y. test y && other y) xs
        → list_any other (if b then x ∷ filter test xs else filter test xs) ≡ (b && other x) || list_any (λ y. test y && other y) xs
    tested true later = ap (λ l. other x || l) later
    tested false later = later

-- ---- missing names, in parts

missing-append : (known : List Label) (xs ys : List Occurrence) → missing known (xs ++ ys) ≡ missing known xs ++ missing known ys
missing-append known [] ys = refl
missing-append known (x ∷ xs) ys = ap (λ l. missing_one known x ++ l) (missing-append known xs ys) ∙ sym (append_assoc (missing_one known x) (missing known xs) (missing known ys))

missing-flat : {A : Type 0} (known : List Label) (G : A → List Occurrence) (xs : List A) → missing known (flat_map G xs) ≡ flat_map (λ x. missing known (G x)) xs
missing-flat known G [] = refl
missing-flat known G (x ∷ xs) = missing-append known (G x) (flat_map G xs) ∙ ap (λ l. missing known (G x) ++ l) (missing-flat known G xs)

missing-map : {A : Type 0} (known : List Label) (f : A → Occurrence) (xs : List A) → missing known (map f xs) ≡ flat_map (λ x. missing_one known (f x)) xs
missing-map known f [] = refl
missing-map known f (x ∷ xs) = ap (λ l. missing_one known (f x) ++ l) (missing-map known f xs)

-- ---- lists of places of which the least is the same

-- from any place found before
abbrev pub SameLeast : List ℕ → List ℕ → Type 0
SameLeast xs ys = (first : Option ℕ) → least_from first xs ≡ least_from first ys

same_parts : (a b c d : List ℕ) → SameLeast a b → SameLeast c d → SameLeast (a ++ c) (b ++ d)
same_parts a b c d one two first = least_from-append first a c ∙ two (least_from first a) ∙ ap (λ f. least_from f d) (one first) ∙ sym (least_from-append first b d)

same_flat : {A : Type 0} (F G : A → List ℕ) (xs : List A) → ((x : A) → SameLeast (F x) (G x)) → SameLeast (flat_map F xs) (flat_map G xs)
same_flat F G [] same = λ first. refl
same_flat F G (x ∷ xs) same = same_parts (F x) (G x) (flat_map F xs) (flat_map G xs) (same x) (same_flat F G xs same)

same_list : (xs ys : List ℕ) → xs ≡ ys → SameLeast xs ys
same_list xs ys e first = ap (least_from first) e

-- ---- what a statement declares

abbrev due_missing : Due → List ℕ
due_missing d = missing d.used d.due

declared_unused : (scope : Scope) (used : List Label) (s : Statement) → SameLeast (missing used (declared_by scope s)) (unused_by scope used s)
declared_unused scope used (S.Request at service port id) first = any_missing (λ (m : Member). part_label id m.name) at used (members_of (bundle_of scope service port)) first
declared_unused scope used (S.Instance at id body bindings) first =
    let ports = ports_of (find_module body scope.modules) in
    any_missing (λ (p : ModulePort). part_label id p.name) at used (filter is_out ports) first
    ∙ ap (λ b. least_from first (place_where b at)) (any_filter is_out (λ (p : ModulePort). not (stands (part_label id p.name) used)) ports)
declared_unused scope used (S.Channels at names operation) first = ap (least_from first) (missing-map used named names)
declared_unused scope used (S.Drive at sink source) first = refl

due_unbound : (scope : Scope) (s : Statement) → SameLeast (flat_map due_missing (binds_due scope s)) (unbound_by scope s)
due_unbound scope (S.Request at service port id) first = refl
due_unbound scope (S.Instance at id body bindings) first =
    let ports = ports_of (find_module body scope.modules) in
    let bound = map binding_label bindings in
    ap (least_from first) (append-nil (missing bound (map (λ (p : ModulePort). record { label = port_label p; at = at }) (filter is_in ports))))
    ∙ any_missing port_label at bound (filter is_in ports) first ∙ ap (λ b. least_from first (place_where b at)) (any_filter is_in (λ (p : ModulePort). not (stands (port_label p) bound)) ports)
due_unbound scope (S.Channels at names operation) first = refl
due_unbound scope (S.Drive at sink source) first = refl

-- ---- the places of a body

abbrev scope_missing : Scope → List ℕ
scope_missing scope = flat_map due_missing (scope_due scope)

body_least : (declarations : List Declaration) (d : Declared) → AreDeclared declarations d → (b : Body) → SameLeast (scope_missing (scope_of declarations b)) (body_unused d b)
body_least declarations d are b =
    let scope = scope_in d b in
    let sts = b.statements in
    let used = used_labels sts in
    let ports = map port_named b.ports.now in
    let known : map label_at (used_in scope) ≡ used = ap (map label_at) (used_of b) in
    let parts : missing used (ports ++ flat_map (declared_by scope) (referred sts)) ≡ flat_map (λ p. missing_one used (port_named p)) b.ports.now ++ flat_map (λ (s : Bor Statement). missing used (declared_by scope s.now)) sts =
    missing-append used ports (flat_map (declared_by scope) (referred sts))
    ∙ (λ i. missing-map used port_named b.ports.now i
    ++ (missing-flat used (declared_by scope) (referred sts) ∙ flat_map_of_map (λ s. missing used (declared_by scope s)) (λ (s : Bor Statement). s.now) sts) i) in
    let binds : flat_map due_missing (flat_map (binds_due scope) (referred sts)) ≡ flat_map (λ (s : Bor Statement). flat_map due_missing (binds_due scope s.now)) sts =
    flat_map_flat due_missing (binds_due scope) (referred sts) ∙ flat_map_of_map (λ s. flat_map due_missing (binds_due scope s)) (λ (s : Bor Statement). s.now) sts in
    let a = flat_map (λ p. missing_one used (port_named p)) b.ports.now in
    let x = flat_map (λ (s : Bor Statement). missing used (declared_by scope s.now)) sts in
    let y = flat_map (λ (s : Bor Statement). flat_map due_missing (binds_due scope s.now)) sts in
    let p = flat_map (λ (s : Bor Statement). unused_by scope used s.now) sts in
    let q = flat_map (λ (s : Bor Statement). unbound_by scope s.now) sts in
    let lists : scope_missing (scope_of declarations b) ≡ a ++ (x ++ y) =
    ap scope_missing (same_scope declarations d b are)
    ∙ (λ i. missing (known i) (ports ++ flat_map (declared_by scope) (referred sts)) ++ flat_map due_missing (flat_map (binds_due scope) (referred sts)))
    ∙ (λ i. parts i ++ binds i) ∙ append_assoc a x y in
    let steps : SameLeast (a ++ (x ++ y)) (a ++ (p ++ q)) =
    same_parts a a (x ++ y) (p ++ q) (λ first. refl)
    (same_parts x p y q (same_flat (λ (s : Bor Statement). missing used (declared_by scope s.now)) (λ (s : Bor Statement). unused_by scope used s.now) sts (λ s. declared_unused scope used s.now))
    (same_flat (λ (s : Bor Statement). flat_map due_missing (binds_due scope s.now)) (λ (s : Bor Statement). unbound_by scope s.now) sts (λ s. due_unbound scope s.now))) in
    λ first. ap (least_from first) lists ∙ steps first

-- ---- the rule

unused_sound : (bodies : List Scope) (at : ℕ) → Contains (flat_map scope_missing bodies) at → BreaksUnused bodies at
unused_sound bodies at c =
    let scope = contains_flat scope_missing bodies at c in
    let due = contains_flat due_missing (scope_due scope.item) at scope.one in
    record { names = due.item; one = flat_contains scope_due bodies scope.item due.item scope.there due.there; missing = missing_are due.item.used due.item.due at due.one }

unused_complete : (bodies : List Scope) (at : ℕ) → BreaksUnused bodies at → Contains (flat_map scope_missing bodies) at
unused_complete bodies at h =
    let scope = contains_flat scope_due bodies h.names h.one in
    flat_contains scope_missing bodies scope.item at scope.there (flat_contains due_missing (scope_due scope.item) h.names at scope.one (are_missing h.names.used h.names.due at h.missing))

pub reports_unused : (declarations : List Declaration) (top : Top) (d : Declared) (bodies : List Body) (first : Option ℕ) → AreDeclared declarations d → AreBodies declarations top bodies
    → first ≡ least (flat_map (body_unused d) bodies) → Reports (BreaksUnused (scopes declarations top)) first
reports_unused declarations top d bodies first are_declared are e =
    let all = scopes declarations top in
    let lists : flat_map scope_missing all ≡ flat_map (λ b. scope_missing (scope_of declarations b)) bodies = ap (flat_map scope_missing) (sym are) ∙ flat_map_of_map scope_missing (scope_of declarations) bodies in
    let same : least (flat_map scope_missing all) ≡ least (flat_map (body_unused d) bodies) =
    ap least lists ∙ same_flat (λ b. scope_missing (scope_of declarations b)) (body_unused d) bodies (body_least declarations d are_declared) None in
    subst (Reports (BreaksUnused all)) (same ∙ sym e) (least_tells (BreaksUnused all) (flat_map scope_missing all) (unused_sound all) (unused_complete all))
