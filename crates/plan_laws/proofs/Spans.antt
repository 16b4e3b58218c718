-- Sums over channels that stand one after the other.
use Rattle.std.proofs.Common.{◌≡◌, ℕ, zero, suc, ◌+◌, false, List, [], ◌∷◌, ◌++◌, Some, map, length, refl, ap, sym, ◌∙◌, subst, arith}
use Rattle.std.specs.Prelude.{replicate, unwrap_or, if◌then◌else◌}
use Rattle.std.proofs.lemmas.List.{append_assoc, append-nil, length-append, length-map, length-replicate, map-append}
use Rattle.name_tables.specs.Labels.{Label, same_label}
use Rattle.name_tables.specs.Lists.{stands, index_from, index_in}
use Rattle.name_tables.specs.LabelLaws.{same_label-refl}
use Rattle.flat_design.specs.Laying.{count_up}
use Rattle.flat_design.specs.FlatLaws.{total}
use Rattle.body_plans.specs.Channels.{Channel, no_name, under_name, name_of, endpoint_of, under_endpoint, places_of, place_in}
use Rattle.body_plans.specs.Plans.{endpoint_places}
use Rattle.plan_laws.specs.Ahead.{IsBlock}
use Rattle.plan_laws.specs.Once.{sum_of, AreNamedOnce}
use Rattle.plan_laws.proofs.Places.{index_start, block_places}

pub total-append : (f : ℕ → ℕ) (xs ys : List ℕ) → total f (xs ++ ys) ≡ total f xs + total f ys
total-append f [] ys = omega arith
total-append f (x ∷ xs) ys = let more = total-append f xs ys in omega arith

pub sum_of-append : {A : Type 0} (f : A → ℕ) (xs ys : List A) → sum_of f (xs ++ ys) ≡ sum_of f xs + sum_of f ys
sum_of-append f [] ys = omega arith
sum_of-append f (x ∷ xs) ys = let more = sum_of-append f xs ys in omega arith

total-count_up : (f : ℕ → ℕ) (n a b : ℕ) → total f (count_up n (a + b)) ≡ total f (count_up n a) + total f (count_up (n + a) b)
total-count_up f n zero b = let e : zero + b ≡ b = omega arith in let g : n + zero ≡ n = omega arith in ap (λ m. total f (count_up n m)) e ∙ ap (λ m. total f (count_up m b)) (sym g) ∙ nothing (total f (count_up (n + zero) b))
  where
    nothing : (m : ℕ) → m ≡ 0 + m
    nothing m = omega arith
total-count_up f n (suc a) b =
    let e : suc a + b ≡ suc (a + b) = omega arith in
    let g : n + 1 + a ≡ n + suc a = omega arith in
    let more = total-count_up f (n + 1) a b in
    let same = ap (λ m. total f (count_up m b)) g in
    let whole : total f (count_up n (suc a + b)) ≡ f n + total f (count_up (n + 1) (a + b)) = ap (λ m. total f (count_up n m)) e in
    omega arith

-- the sum over the places of some channels, before which others stand
abbrev pub span : (ℕ → ℕ) → List Channel → List Channel → ℕ
span f before cs = total f (count_up (length before) (length cs))

pub span-append : (f : ℕ → ℕ) (before xs ys : List Channel) → span f before (xs ++ ys) ≡ span f before xs + span f (before ++ xs) ys
span-append f before xs ys =
    ap (λ n. total f (count_up (length before) n)) (length-append xs ys) ∙ total-count_up f (length before) (length xs) (length ys)
    ∙ ap (λ n. total f (count_up (length before) (length xs)) + total f (count_up n (length ys))) (sym (length-append before xs))

-- f at the place of a name
abbrev pub at_name : (ℕ → ℕ) → List Channel → Label → ℕ
at_name f cs label = f (place_in (map name_of cs) label)

place_of_name : (all before after : List Channel) (label : Label) → all ≡ before ++ under_name label ∷ after → stands label (map name_of before) ≡ false → place_in (map name_of all) label ≡ length before
place_of_name all before after label e new =
    let labels : map name_of all ≡ map name_of before ++ label ∷ map name_of after = ap (map name_of) e ∙ map-append name_of before (under_name label ∷ after) in
    let n : ℕ = length (map name_of before) in
    let found : index_in label (map name_of all) ≡ Some n
    = ap (index_in label) labels ∙ index_start label (map name_of before) (label ∷ map name_of after) new
    ∙ ap (λ t. if t then Some n else index_from label (n + 1) (map name_of after)) (same_label-refl label) in
    let same : n ≡ length before = length-map before name_of in
    let at : place_in (map name_of all) label ≡ n = ap (λ o. unwrap_or o 0) found in
    at ∙ same

-- channels under names, each of which is no other's
pub named_span : {A : Type 0} (name : A → Label) (real : (x : A) → same_label (name x) no_name ≡ false) (f : ℕ → ℕ) (all before after : List Channel) (xs : List A)
    → AreNamedOnce all → all ≡ before ++ (map (λ x. under_name (name x)) xs ++ after) → span f before (map (λ x. under_name (name x)) xs) ≡ sum_of (at_name f all) (map name xs)
named_span name real f all before after [] once e = refl
named_span name real f all before after (x ∷ xs) once e =
    let rest : List Channel = map (λ y. under_name (name y)) xs in
    let here : place_in (map name_of all) (name x) ≡ length before = place_of_name all before (rest ++ after) (name x) e (once.new before (rest ++ after) (name x) e (real x)) in
    let more = named_span name real f all (before ++ under_name (name x) ∷ []) after xs once (e ∙ sym (append_assoc before (under_name (name x) ∷ []) (rest ++ after))) in
    let longer : length (before ++ under_name (name x) ∷ []) ≡ length before + 1 = length-append before (under_name (name x) ∷ []) in
    let moved : total f (count_up (length before + 1) (length rest)) ≡ sum_of (at_name f all) (map name xs) = ap (λ n. total f (count_up n (length rest))) (sym longer) ∙ more in
    ap (λ n. f n + total f (count_up (length before + 1) (length rest))) (sym here) ∙ ap (λ n. f (place_in (map name_of all) (name x)) + n) moved

-- endpoints of one side of an instance
pub block_span : (f : ℕ → ℕ) (all before after : List Channel) (label : Label) (n : ℕ) → all ≡ before ++ (replicate n (under_endpoint label) ++ after) → stands label (map endpoint_of before) ≡ false
    → span f before (replicate n (under_endpoint label)) ≡ total f (endpoint_places (places_of all) label n)
block_span f all before after label n e new =
    let b : IsBlock all label n = record { before = before; after = after; split = e; first = new } in
    let places : endpoint_places (places_of all) label n ≡ count_up (length before) n = subst (λ xs. endpoint_places (places_of xs) label n ≡ count_up (length before) n) (append-nil all) (block_places all [] label n b) in
    ap (λ k. total f (count_up (length before) k)) (length-replicate n (under_endpoint label)) ∙ ap (total f) (sym places)
