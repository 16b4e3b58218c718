-- The totals that the walk over the bodies makes are those of the design.
use Rattle.std.proofs.Common.{◌≡◌, ℕ, zero, suc, ◌+◌, ◌-◌, ◌<◌, ◌≤◌, Bool, true, false, List, [], ◌∷◌, ◌++◌, map, length, take, refl, ap, sym, ◌∙◌, subst, append_assoc, arith}
use Rattle.std.specs.Prelude.{Option, Some, None, unwrap_or, min, slice_get, if◌then◌else◌}
use Rattle.std.specs.Borrow.{Bor}
use Rattle.std.proofs.lemmas.List.{map-append, length_push}
use Rattle.design_tree.specs.declared.leaves.Name.{Name}
use Rattle.design_tree.specs.declared.statements.Statement.{Statement}
use Rattle.design_tree.specs.declared.statements.Statement.TheVariants as S
use Rattle.design_tree.specs.declared.declarations.Bundle.{Bundle}
use Rattle.design_tree.specs.declared.declarations.Service.{Service}
use Rattle.design_tree.specs.declared.declarations.Module.{Module}
use Rattle.design_tree.specs.declared.declarations.Declaration.{Declaration}
use Rattle.design_tree.specs.declared.top.Top.{Top}
use Rattle.name_tables.specs.Labels.{Label, same_label}
use Rattle.name_tables.specs.Lists.{index_from}
use Rattle.name_tables.specs.FirstPlaces.{Reports}
use Rattle.check_rules.specs.Scopes.{Scope, and_then, is_name, bundle_of, bundles_of, services_of, modules_of, module_scope, module_scopes, top_scope}
use Rattle.check_rules.specs.References.{named}
use Rattle.check_rules.specs.Uses.{members_of}
use Rattle.check_rules.specs.Totals.{sized, in_all, member_total, Measured, measured_of, statement_total, body_total, measured_from, measured, top_total, Exceeds}
use Rattle.design_scopes.specs.declared.body.Body.{Body}
use Rattle.design_scopes.specs.declared.declared.Declared.{Declared}
use Rattle.design_scopes.specs.Bodies.{referred, scope_of}
use Rattle.design_scopes.specs.Tables.{module_label, name_label}
use Rattle.design_scopes.specs.Flat.{map_of_map}
use Rattle.design_scopes.specs.Resolving.{AreDeclared, AreTables, scope_in}
use Rattle.design_totals.specs.declared.capped.CappedTotals.{CappedTotals}
use Rattle.design_totals.specs.Capped.{capped_totals, no_totals, joined, joined_from, found_totals, statement_capped, body_capped, capped_bodies, last_of}
use Rattle.design_totals.proofs.CappedLaws.{capped-both, capped_all}

-- ---- the module of a name, among those that are known

some_one : {A : Type 0} (a b : A) → Some a ≡ Some b → a ≡ b
some_one a b e = cc

index_low : (label : Label) (i k : ℕ) (xs : List Label) → index_from label i xs ≡ Some k → i ≤ k
index_low label i k [] e = absurd (cc)
index_low label i k (x ∷ xs) e = tested (same_label label x) (index_low label (i + 1) k xs) e
  where
    tested : (b : Bool) → (index_from label (i + 1) xs ≡ Some k → i + 1 ≤ k) → (if b then Some i else index_from label (i + 1) xs) ≡ Some k → i ≤ k
    tested true later h = let same : i ≡ k = some_one i k h in omega arith
    tested false later h = let low = later h in omega arith

get_past : {A : Type 0} (xs : List A) (k : ℕ) → length xs ≤ k → slice_get xs k ≡ None
get_past [] k high = refl
get_past (x ∷ xs) zero high = absurd (omega arith)
get_past (x ∷ xs) (suc k) high = get_past xs k (omega arith)

get_seam : {A : Type 0} (front : List A) (x : A) (xs : List A) → slice_get (front ++ x ∷ xs) (length front) ≡ Some x
get_seam [] x xs = refl
get_seam (y ∷ front) x xs = get_seam front x xs

append_none : {A : Type 0} (xs : List A) → xs ++ [] ≡ xs
append_none [] = refl
append_none (x ∷ xs) = ap (λ l. x ∷ l) (append_none xs)

abbrev measured_label : Measured → Label
measured_label m = name_label m.name

abbrev measured_capped : Measured → CappedTotals
measured_capped m = capped_totals m.totals

abbrev at_index : List CappedTotals → Option ℕ → CappedTotals
at_index known index = unwrap_or (and_then index (slice_get known)) no_totals

none_here : (label : Label) (rest : List Label) (front : List CappedTotals) (i : ℕ) → i ≡ length front → at_index (front ++ []) (index_from label i rest) ≡ no_totals
none_here label rest front i e = tested (index_from label i rest) refl
  where
    tested : (o : Option ℕ) → index_from label i rest ≡ o → at_index (front ++ []) o ≡ no_totals
    tested None h = refl
    tested (Some k) h =
        let low = index_low label i k rest h in
        ap (λ g. unwrap_or g no_totals) (ap (λ l. slice_get l k) (append_none front) ∙ get_past front k (omega arith))

found_from : (name : Name) (rest : List Label) (front : List CappedTotals) (known : List Measured) (i : ℕ) → i ≡ length front
    → at_index (front ++ map measured_capped known) (index_from (named name).label i (map measured_label known ++ rest)) ≡ capped_totals (measured_of name known)
found_from name rest front [] i e = none_here (named name).label rest front i e
found_from name rest front (m ∷ ms) i e =
    tested (is_name name m.name)
    (ap (λ l. at_index l (index_from (named name).label (i + 1) (map measured_label ms ++ rest))) (sym (append_assoc front (measured_capped m ∷ []) (map measured_capped ms)))
    ∙ found_from name rest (front ++ measured_capped m ∷ []) ms (i + 1) (ap (λ k. k + 1) e ∙ sym (length_push front (measured_capped m))))
  where
    tested : (b : Bool) → at_index (front ++ measured_capped m ∷ map measured_capped ms) (index_from (named name).label (i + 1) (map measured_label ms ++ rest)) ≡ capped_totals (measured_of name ms)
        → at_index (front ++ measured_capped m ∷ map measured_capped ms) (if b then Some i else index_from (named name).label (i + 1) (map measured_label ms ++ rest))
        ≡ capped_totals (if b then m.totals else measured_of name ms)
    tested true later = ap (λ g. unwrap_or g no_totals) (ap (slice_get (front ++ measured_capped m ∷ map measured_capped ms)) e ∙ get_seam front (measured_capped m) (map measured_capped ms))
    tested false later = later

-- the names of the known modules stand first among those of all modules
found_known : (name : Name) (labels rest : List Label) (known : List Measured) → labels ≡ map measured_label known ++ rest
    → found_totals labels (map measured_capped known) name ≡ capped_totals (measured_of name known)
found_known name labels rest known e = ap (λ l. found_totals l (map measured_capped known) name) e ∙ found_from name rest [] known 0 refl

-- ---- a statement, a body, the bodies

statement_law : (scope : Scope) (labels rest : List Label) (known : List Measured) → labels ≡ map measured_label known ++ rest → (s : Statement)
    → statement_capped scope labels (map measured_capped known) s ≡ capped_totals (statement_total scope known s)
statement_law scope labels rest known e (S.Request at service port id) =
    ap (joined (capped_totals (sized 1))) (capped_all member_total (members_of (bundle_of scope service port))) ∙ capped-both (sized 1) (in_all (map member_total (members_of (bundle_of scope service port))))
statement_law scope labels rest known e (S.Instance at id body bindings) =
    ap (joined (capped_totals (sized 1))) (found_known body labels rest known e) ∙ capped-both (sized 1) (measured_of body known)
statement_law scope labels rest known e (S.Channels at names operation) = refl
statement_law scope labels rest known e (S.Drive at sink source) = refl

-- a body, as its scope has it
abbrev scope_capped : List Label → List CappedTotals → Scope → CappedTotals
scope_capped labels known scope = joined_from no_totals (map (statement_capped scope labels known) scope.statements)

scope_law : (scope : Scope) (labels rest : List Label) (known : List Measured) → labels ≡ map measured_label known ++ rest
    → scope_capped labels (map measured_capped known) scope ≡ capped_totals (body_total known scope)
scope_law scope labels rest known e =
    (λ i. joined_from no_totals (map (λ s. statement_law scope labels rest known e s i) scope.statements)) ∙ capped_all (statement_total scope known) scope.statements

-- the bodies, as their scopes have them
abbrev capped_scopes : List Label → List CappedTotals → List Scope → List CappedTotals
capped_scopes labels known [] = known
capped_scopes labels known (s ∷ ss) = capped_scopes labels (known ++ scope_capped labels known s ∷ []) ss

same_scope : (declarations : List Declaration) (d : Declared) (b : Body) → AreDeclared declarations d → scope_in d b ≡ scope_of declarations b
same_scope declarations d b are = λ i. record {
  bundles = are.bundles_are i;
  services = are.services_are i;
  modules = take b.before (are.modules_are i);
  ports = b.ports.now;
  statements = referred b.statements;
  implements = referred b.implements;
}

body_scope : (declarations : List Declaration) (d : Declared) (labels : List Label) (known : List CappedTotals) (b : Body) → AreDeclared declarations d
    → body_capped d labels known b ≡ scope_capped labels known (scope_of declarations b)
body_scope declarations d labels known b are =
    ap (joined_from no_totals) (sym (map_of_map (statement_capped (scope_in d b) labels known) (λ (r : Bor Statement). r.now) b.statements))
    ∙ ap (scope_capped labels known) (same_scope declarations d b are)

bodies_scopes : (declarations : List Declaration) (d : Declared) (labels : List Label) (known : List CappedTotals) (bodies : List Body) → AreDeclared declarations d
    → capped_bodies d labels known bodies ≡ capped_scopes labels known (map (scope_of declarations) bodies)
bodies_scopes declarations d labels known [] are = refl
bodies_scopes declarations d labels known (b ∷ bs) are =
    ap (λ t. capped_bodies d labels (known ++ t ∷ []) bs) (body_scope declarations d labels known b are)
    ∙ bodies_scopes declarations d labels (known ++ scope_capped labels known (scope_of declarations b) ∷ []) bs are

abbrev measure : List Bundle → List Service → List Module → List Measured → Module → Measured
measure bundles services before known m = record { name = m.name; totals = body_total known (module_scope bundles services before m) }

-- the modules, and what comes after them
modules_law : (bundles : List Bundle) (services : List Service) (labels : List Label) (before : List Module) (known : List Measured) (ms : List Module) (ss : List Scope)
    → labels ≡ map measured_label known ++ map module_label ms
    → capped_scopes labels (map measured_capped known) (module_scopes bundles services before ms ++ ss) ≡ capped_scopes labels (map measured_capped (measured_from bundles services before known ms)) ss
modules_law bundles services labels before known [] ss e = refl
modules_law bundles services labels before known (m ∷ ms) ss e =
    let one = measure bundles services before known m in
    let here : scope_capped labels (map measured_capped known) (module_scope bundles services before m) ≡ measured_capped one =
    scope_law (module_scope bundles services before m) labels (map module_label (m ∷ ms)) known e in
    ap (λ k. capped_scopes labels k (module_scopes bundles services (before ++ m ∷ []) ms ++ ss))
    (ap (λ t. map measured_capped known ++ t ∷ []) here ∙ sym (map-append measured_capped known (one ∷ [])))
    ∙ modules_law bundles services labels (before ++ m ∷ []) (known ++ one ∷ []) ms ss
    (e ∙ sym (append_assoc (map measured_label known) (module_label m ∷ []) (map module_label ms)) ∙ ap (λ l. l ++ map module_label ms) (sym (map-append measured_label known (one ∷ []))))

-- the names of the modules are those of what is measured
names_kept : (bundles : List Bundle) (services : List Service) (before : List Module) (known : List Measured) (ms : List Module)
    → map measured_label known ++ map module_label ms ≡ map measured_label (measured_from bundles services before known ms)
names_kept bundles services before known [] = append_none (map measured_label known)
names_kept bundles services before known (m ∷ ms) =
    let one = measure bundles services before known m in
    sym (append_assoc (map measured_label known) (module_label m ∷ []) (map module_label ms)) ∙ ap (λ l. l ++ map module_label ms) (sym (map-append measured_label known (one ∷ [])))
    ∙ names_kept bundles services (before ++ m ∷ []) (known ++ one ∷ []) ms

last_pushed : (known : List CappedTotals) (t : CappedTotals) → last_of (known ++ t ∷ []) ≡ t
last_pushed known t =
    ap (λ g. unwrap_or g no_totals)
    (ap (slice_get (known ++ t ∷ [])) (let long = length_push known t in let at : length (known ++ t ∷ []) - 1 ≡ length known = omega arith in at) ∙ get_seam known t [])

-- The last body's totals are the top's.
pub top_law : (declarations : List Declaration) (top : Top) (d : Declared) (labels : List Label) (bodies : List Body) (totals : CappedTotals) → AreTables declarations top d bodies
    → labels ≡ map module_label (modules_of declarations) → totals ≡ last_of (capped_bodies d labels [] bodies) → totals ≡ capped_totals (top_total declarations top)
top_law declarations top d labels bodies totals are named_are e =
    let bundles = bundles_of declarations in
    let services = services_of declarations in
    let ms = modules_of declarations in
    let known = measured declarations in
    let all : capped_bodies d labels [] bodies ≡ map measured_capped known ++ scope_capped labels (map measured_capped known) (top_scope declarations top) ∷ [] =
    bodies_scopes declarations d labels [] bodies are.declared_are ∙ ap (capped_scopes labels []) are.bodies_are
    ∙ modules_law bundles services labels [] [] ms (top_scope declarations top ∷ []) named_are in
    let complete : labels ≡ map measured_label known ++ [] = named_are ∙ names_kept bundles services [] [] ms ∙ sym (append_none (map measured_label known)) in
    e ∙ ap last_of all ∙ last_pushed (map measured_capped known) (scope_capped labels (map measured_capped known) (top_scope declarations top))
    ∙ scope_law (top_scope declarations top) labels [] known complete

-- ---- what is reported

cap_exceeds : (limit n : ℕ) → limit < min (limit + 1) n → limit < n
cap_exceeds limit n h = grind arith

exceeds_cap : (limit n : ℕ) → limit < n → limit < min (limit + 1) n
exceeds_cap limit n h = grind arith

-- A count that stops at one above its limit exceeds it where the count itself does.
pub reports_capped : (limit n count : ℕ) (top : Top) (first : Option ℕ) → count ≡ min (limit + 1) n → Reports (Exceeds limit count top) first → Reports (Exceeds limit n top) first
reports_capped limit n count top None e r = λ at h. r at (record { above = subst (λ c. limit < c) (sym e) (exceeds_cap limit n h.above); stands = h.stands })
reports_capped limit n count top (Some at) e r = record {
  here = record { above = cap_exceeds limit n (subst (λ c. limit < c) e r.here.above); stands = r.here.stands };
  first = λ other h. r.first other (record { above = subst (λ c. limit < c) (sym e) (exceeds_cap limit n h.above); stands = h.stands });
}
