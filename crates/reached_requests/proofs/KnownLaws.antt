-- What a module reaches is what its body reaches over the modules before it.
use Rattle.std.proofs.Common.{◌≡◌, ℕ, zero, suc, Bool, true, false, ◌+◌, ◌<◌, ◌≤◌, ◌⊎◌, inl, inr, List, [], ◌∷◌, ◌++◌, map, length, take, drop, refl, ap, sym, ◌∙◌, append_assoc, append-nil, arith}
use Rattle.std.specs.Prelude.{Option, Some, None, find, flat_map, slice_get, if◌then◌else◌}
use Rattle.std.specs.Option.{option_map}
use Rattle.std.proofs.lemmas.List.{map-append, take-append-le, length-append, length-map, drop_all}
use Rattle.std.proofs.lemmas.Option.{slice_get-map, slice_get_within}
use Rattle.design_tree.specs.declared.leaves.Name.{Name}
use Rattle.design_tree.specs.declared.statements.Statement.{Statement}
use Rattle.design_tree.specs.declared.declarations.Declaration.{Declaration}
use Rattle.design_tree.specs.declared.top.Top.{Top}
use Rattle.design_tree.specs.declared.top.TopItem.{TopItem}
use Rattle.std.specs.Borrow.{Bor}
use Rattle.check_rules.specs.Scopes.{modules_of, statement_in}
use Rattle.std.proofs.lemmas.Grind.{flat_map-append}
use Rattle.design_tree.specs.declared.declarations.Module.{Module}
use Rattle.name_tables.specs.Labels.{Label, same_label}
use Rattle.name_tables.specs.Lists.{index_in, index_from}
use Rattle.check_rules.specs.References.{named}
use Rattle.reached_requests.specs.Requests.{Reached, Known, inside, requests_found, is_called, requests_in, requests_by, body_requests, known_from, known_of, requests_of}
use Rattle.reached_requests.specs.Modules.{referred, module_label}
use Rattle.reached_requests.proofs.Finding.{find_below, find_behind, find_nowhere}

-- ---- the modules are those of the list

abbrev source_of : Known → Module
source_of k = k.source

sources_from : (before : List Known) (modules : List Module) → map source_of (known_from before modules) ≡ map source_of before ++ modules
unfolding known_from
sources_from before [] = sym (append-nil (map source_of before))
sources_from before (m ∷ more) =
    let new : Known = record { source = m; requests = body_requests before m.body } in
    sources_from (before ++ new ∷ []) more
    ∙ ap (λ front. front ++ more) (map-append source_of before (new ∷ []))
    ∙ append_assoc (map source_of before) (m ∷ []) more

sources_are : (modules : List Module) → map source_of (known_of modules) ≡ modules
sources_are modules = sources_from [] modules

-- ---- each reaches what its body does over those before it

abbrev AreOver : List Known → Type 0
AreOver known = (k : ℕ) (entry : Known) → slice_get known k ≡ Some entry → entry.requests ≡ body_requests (take k known) entry.source.body

get_front : {A : Type 0} (xs ys : List A) (k : ℕ) → k < length xs → slice_get (xs ++ ys) k ≡ slice_get xs k
get_front [] ys k low = absurd (omega arith)
get_front (x ∷ xs) ys zero low = refl
get_front (x ∷ xs) ys (suc k) low = get_front xs ys k (omega arith)

get_last : {A : Type 0} (xs : List A) (x y : A) (k : ℕ) → k ≡ length xs → slice_get (xs ++ x ∷ []) k ≡ Some y → x ≡ y
get_last [] x y zero at e = cc
get_last [] x y (suc k) at e = absurd (omega arith)
get_last (z ∷ xs) x y zero at e = absurd (omega arith)
get_last (z ∷ xs) x y (suc k) at e = get_last xs x y k (omega arith) e

below_or_last : (k n : ℕ) → k < n + 1 → (k < n) ⊎ (k ≡ n)
below_or_last k n low = grind arith

over_one_more : (before : List Known) (m : Module) → AreOver before → AreOver (before ++ record { source = m; requests = body_requests before m.body } ∷ [])
over_one_more before m over k entry here =
    elim (below_or_last k (length before) (let long = length-append before (new ∷ []) in let low = slice_get_within (before ++ new ∷ []) k entry here in omega arith)) [
      | inl front ↦ over k entry (sym (get_front before (new ∷ []) k front) ∙ here) ∙ ap (λ known. body_requests known entry.source.body) (sym (take-append-le k before (new ∷ []) (omega arith)))
      | inr last ↦
          let same : new ≡ entry = get_last before new entry k last here in
          let taken : take k (before ++ new ∷ []) ≡ before = take-append-le k before (new ∷ []) (omega arith) ∙ ap (λ n. take n before) last ∙ take-all before in
          ap (λ e. e.requests) (sym same) ∙ ap (λ e. body_requests before e.source.body) same ∙ ap (λ known. body_requests known entry.source.body) (sym taken)
    ]
  where
    new : Known
    new = record { source = m; requests = body_requests before m.body }

    take-all : (xs : List Known) → take (length xs) xs ≡ xs
    take-all [] = refl
    take-all (x ∷ xs) = ap (λ l. x ∷ l) (take-all xs)

over_from : (before : List Known) (modules : List Module) → AreOver before → AreOver (known_from before modules)
unfolding known_from
over_from before [] over = over
over_from before (m ∷ more) over = over_from (before ++ record { source = m; requests = body_requests before m.body } ∷ []) more (over_one_more before m over)

over_none : AreOver []
over_none k entry here = absurd (let low = slice_get_within [] k entry here in omega arith)

known_over : (modules : List Module) → AreOver (known_of modules)
known_over modules = over_from [] modules over_none

-- ---- what a name reaches

abbrev known_label : Known → Label
known_label k = module_label k.source

map_map : (known : List Known) → map known_label known ≡ map module_label (map source_of known)
map_map [] = refl
map_map (k ∷ known) = ap (λ l. known_label k ∷ l) (map_map known)

labels_are : (modules : List Module) → map known_label (known_of modules) ≡ map module_label modules
labels_are modules = map_map (known_of modules) ∙ ap (map module_label) (sources_are modules)

pub requests_here : (name : Name) (levels number : ℕ) (modules : List Module) (m : Module) → index_in (named name).label (map module_label modules) ≡ Some number → number < levels → slice_get modules number ≡ Some m
    → body_requests (take number (known_of modules)) m.body ≡ requests_in name (take levels (known_of modules))
requests_here name levels number modules m at low here =
    let found : find (is_called name) (take levels all) ≡ slice_get all number = find_below (named name).label known_label all levels 0 number (ap (index_in (named name).label) (labels_are modules) ∙ at ∙ ap Some (omega arith)) low in
    let source : option_map source_of (slice_get all number) ≡ Some m = sym (slice_get-map source_of all number) ∙ ap (λ l. slice_get l number) (sources_are modules) ∙ here in
    by_entry (slice_get all number) refl source ∙ ap requests_found (sym found)
  where
    all : List Known
    all = known_of modules

    by_entry : (o : Option Known) → slice_get all number ≡ o → option_map source_of o ≡ Some m → body_requests (take number all) m.body ≡ requests_found o
    by_entry None e source = absurd (cc)
    by_entry (Some entry) e source =
        let same : entry.source ≡ m = some_one entry.source m source in
        ap (λ s. body_requests (take number all) s.body) (sym same) ∙ sym (known_over modules number entry e)
      where
        some_one : (a b : Module) → Some a ≡ Some b → a ≡ b
        some_one a b e = cc

pub requests_behind : (name : Name) (levels number : ℕ) (modules : List Module) → index_in (named name).label (map module_label modules) ≡ Some number → levels ≤ number → [] ≡ requests_in name (take levels (known_of modules))
requests_behind name levels number modules at high =
    ap requests_found (sym (find_behind (named name).label known_label (known_of modules) levels 0 number (ap (index_in (named name).label) (labels_are modules) ∙ at) (omega (arith, high))))

pub requests_nowhere : (name : Name) (levels : ℕ) (modules : List Module) → index_in (named name).label (map module_label modules) ≡ None → [] ≡ requests_in name (take levels (known_of modules))
requests_nowhere name levels modules at =
    ap requests_found (sym (find_nowhere (named name).label known_label (known_of modules) levels 0 (ap (index_in (named name).label) (labels_are modules) ∙ at)))

some_index : (a b : ℕ) → Some a ≡ Some b → a ≡ b
some_index a b e = cc

-- a name that is found has an index within the list
found_stands : (label : Label) (modules : List Module) (i j : ℕ) → index_from label i (map module_label modules) ≡ Some (i + j) → slice_get modules j ≡ None → ⊥
found_stands label [] i j e none = absurd (cc)
found_stands label (m ∷ more) i zero e none = absurd (cc)
found_stands label (m ∷ more) i (suc j) e none = tested (same_label label (module_label m)) (λ h. found_stands label more (i + 1) j h none) e
  where
    next : i + suc j ≡ i + 1 + j
    next = omega arith

    tested : (b : Bool) → (index_from label (i + 1) (map module_label more) ≡ Some (i + 1 + j) → ⊥) → (if b then Some i else index_from label (i + 1) (map module_label more)) ≡ Some (i + suc j) → ⊥
    tested true later h = let same : i ≡ i + suc j = some_index i (i + suc j) h in omega arith
    tested false later h = later (h ∙ ap Some next)

pub requests_past : (name : Name) (levels number : ℕ) (modules : List Module) → index_in (named name).label (map module_label modules) ≡ Some number → slice_get modules number ≡ None → [] ≡ requests_in name (take levels (known_of modules))
requests_past name levels number modules at past = absurd (found_stands (named name).label modules 0 number (at ∙ ap Some (omega arith)) past)

-- ---- requests behind prefixes

pub inside_inside : (outer inner : List ℕ) (requests : List Reached) → map (inside (outer ++ inner)) requests ≡ map (inside outer) (map (inside inner) requests)
inside_inside outer inner [] = refl
inside_inside outer inner (r ∷ rs) = λ i. one r i ∷ inside_inside outer inner rs i
  where
    one : (r : Reached) → inside (outer ++ inner) r ≡ inside outer (inside inner r)
    one r = ap (λ id. record { id = id; service = r.service; port = r.port; at = r.at }) (append_assoc outer inner r.id)

pub inside_none : (requests : List Reached) → map (inside []) requests ≡ requests
inside_none [] = refl
inside_none (r ∷ rs) = ap (λ l. r ∷ l) (inside_none rs)

pub known_length : (modules : List Module) → take (length modules) (known_of modules) ≡ known_of modules
known_length modules = ap (λ n. take n (known_of modules)) (ap length (sym (sources_are modules)) ∙ length-map (known_of modules) source_of) ∙ all_taken (known_of modules)
  where
    all_taken : (xs : List Known) → take (length xs) xs ≡ xs
    all_taken [] = refl
    all_taken (x ∷ xs) = ap (λ l. x ∷ l) (all_taken xs)

-- an instance reaches what its module's body does, behind its own id
pub instance_added : (known : List Known) (outer inner prefix : List ℕ) (number : ℕ) (statements body : List Statement) (requests old new : List Reached) → prefix ≡ outer ++ inner → statements ≡ body → body_requests (take number known) body ≡ requests
    → new ≡ old ++ map (inside prefix) (body_requests (take number known) statements) → new ≡ old ++ map (inside outer) (map (inside inner) requests)
instance_added known outer inner prefix number statements body requests old new behind are reach added =
    added ∙ ap (λ p. old ++ map (inside p) (body_requests (take number known) statements)) behind
    ∙ ap (λ rs. old ++ rs) (inside_inside outer inner (body_requests (take number known) statements) ∙ ap (λ rs. map (inside outer) (map (inside inner) rs)) (ap (body_requests (take number known)) are ∙ reach))

pub top_done : (declarations : List Declaration) (top : Top) (sources : List (Bor Module)) (items : List TopItem) (levels index : ℕ) (new : List Reached) → referred sources ≡ modules_of declarations → levels ≡ length sources → items ≡ top.body → length items ≤ index
    → new ++ body_requests (take levels (known_of (referred sources))) (flat_map statement_in (drop index items)) ≡ body_requests (take levels (known_of (referred sources))) (flat_map statement_in items)
    → new ≡ requests_of declarations top
top_done declarations top sources items levels index new modules_are many items_are ended added =
    let all : take levels (known_of (referred sources)) ≡ known_of (modules_of declarations) =
    ap (λ n. take n (known_of (referred sources))) (many ∙ sym (length-map sources (λ r. r.now))) ∙ known_length (referred sources) ∙ ap known_of modules_are in
    let none : body_requests (take levels (known_of (referred sources))) (flat_map statement_in (drop index items)) ≡ [] = ap (λ l. body_requests (take levels (known_of (referred sources))) (flat_map statement_in l)) (drop_all index items ended) in
    sym (append-nil new) ∙ ap (λ l. new ++ l) (sym none) ∙ added ∙ ap (λ known. body_requests known (flat_map statement_in items)) all ∙ ap (λ l. body_requests (known_of (modules_of declarations)) (flat_map statement_in l)) items_are

pub one_statement : (known : List Known) (s : Statement) → map (inside []) (requests_by known s) ≡ body_requests known (s ∷ [])
one_statement known s = inside_none (requests_by known s) ∙ sym (append-nil (requests_by known s))

pub items_left : (known : List Known) (old new : List Reached) (item : TopItem) (items : List TopItem) → new ≡ old ++ body_requests known (statement_in item)
    → new ++ body_requests known (flat_map statement_in items) ≡ old ++ body_requests known (flat_map statement_in (item ∷ items))
items_left known old new item items e =
    ap (λ l. l ++ body_requests known (flat_map statement_in items)) e
    ∙ append_assoc old (body_requests known (statement_in item)) (body_requests known (flat_map statement_in items))
    ∙ ap (λ l. old ++ l) (sym (flat_map-append (requests_by known) (statement_in item) (flat_map statement_in items)))
