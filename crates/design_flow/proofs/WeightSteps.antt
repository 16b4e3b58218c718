-- The weights of channels, element by element from the last one.
use Rattle.std.specs.Prelude.{◌≡◌, ℕ, zero, suc, ◌+◌, ◌-◌, ◌<◌, ◌≤◌, ◌==◌, ◌||◌, max, Bool, true, false, if◌then◌else◌, List, [], ◌∷◌, ◌++◌, length, get_or, replicate, map, take, drop, slice_get, slice_set, refl}
use Rattle.std.proofs.Common.{sym, ◌∙◌, ap, subst, arith}
use Rattle.std.proofs.lemmas.Bool.Decides.{nat_tests}
use Rattle.std.proofs.lemmas.List.{set_past, length-set, get_or-set_other, get_or-replicate, length-replicate, take_more, take_all, take-append-drop, length-map, get_or-map}
use Rattle.std.proofs.lemmas.Grind.{get_or-set_at}
use Rattle.std.proofs.Math.Seq.{drop-cons}
use Rattle.std.proofs.Math.ListN.{drop_of_length-le}
use Rattle.element_rows.specs.StreamLemmas.{channels_grow}
use Rattle.element_laws.specs.Elements.{Element, output_count}
use Rattle.element_laws.specs.Elements.Element.{stage, fifo, as_fifo, as_vr, map_by, scan_by, fork, join}
use Rattle.element_rows.specs.Flat.{Placed, channel_count, sum_below, among}
use Rattle.element_load.specs.Load.{input_weight, weight}
use Rattle.netlist.specs.declared.part.Part.{Part}
use Rattle.flat_design.specs.declared.element.Element as F
use Rattle.design_flow.specs.Elements.{element_at, placed_of}
use Rattle.design_flow.specs.Weights.{capped, put_all, greatest, AreWeightsOf}

-- ---- capped sums
capped_more : (a b x y : ℕ) → capped a ≡ capped b → x ≡ capped y → capped (a + (1 + x)) ≡ capped (b + (1 + y))
capped_more a b x y same is = omega arith

pub branches_capped : (f g : ℕ → ℕ) (n : ℕ) → ((k : ℕ) → k < n → g k ≡ capped (f k)) → capped (sum_below (λ k. 1 + g k) n) ≡ capped (sum_below (λ k. 1 + f k) n)
branches_capped f g zero e = refl
branches_capped f g (suc n) e =
    capped_more (sum_below (λ k. 1 + g k) n) (sum_below (λ k. 1 + f k) n) (g n) (f n) (branches_capped f g n (λ k h. e k (omega arith))) (e n (omega arith))

pub input_capped : (element : Element) (f g : ℕ → ℕ) → ((k : ℕ) → k < output_count element → g k ≡ capped (f k)) → capped (input_weight element g) ≡ capped (input_weight element f)
input_capped stage f g e = let h : g 0 ≡ capped (f 0) = e 0 (omega arith) in omega arith
input_capped (fifo depth) f g e = let h : g 0 ≡ capped (f 0) = e 0 (omega arith) in omega arith
input_capped as_fifo f g e = let h : g 0 ≡ capped (f 0) = e 0 (omega arith) in omega arith
input_capped as_vr f g e = let h : g 0 ≡ capped (f 0) = e 0 (omega arith) in omega arith
input_capped (map_by body) f g e = let h : g 0 ≡ capped (f 0) = e 0 (omega arith) in omega arith
input_capped (scan_by step start) f g e = let h : g 0 ≡ capped (f 0) = e 0 (omega arith) in omega arith
input_capped (fork branches) f g e = branches_capped f g branches e
input_capped join f g e = refl

-- ---- putting
pub put_length : (xs places : List ℕ) (x : ℕ) → length (put_all xs places x) ≡ length xs
put_length xs [] x = refl
put_length xs (p ∷ ps) x = put_length (slice_set xs p x) ps x ∙ length-set xs p x

pub put_get : (xs places : List ℕ) (x c : ℕ) → c < length xs → get_or (put_all xs places x) c 0 ≡ (if among c places then x else get_or xs c 0)
put_get xs [] x c h = refl
put_get xs (p ∷ ps) x c h =
    put_get (slice_set xs p x) ps x c (subst (λ n. c < n) (sym (length-set xs p x)) h) ∙ by_test (c == p) refl
  where
    either : (b : Bool) → (if b then x else x) ≡ x
    either true = refl
    either false = refl

    by_test : (b : Bool) → (c == p) ≡ b → (if among c ps then x else get_or (slice_set xs p x) c 0) ≡ (if b || among c ps then x else get_or xs c 0)
    by_test true e =
        let at : c ≡ p = grind (arith, nat_tests) in
        ap (λ y. if among c ps then x else y) (get_or-set_at xs p c x 0 at (omega arith)) ∙ either (among c ps)
    by_test false e = ap (λ y. if among c ps then x else y) (get_or-set_other xs p c x 0 (λ at. apart e at))
      where
        apart : (c == p) ≡ false → c ≡ p → ⊥
        apart e at = grind (arith, nat_tests)

-- one place more
pub put_more : (old weights places : List ℕ) (x i p : ℕ) → i < length places → p ≡ get_or places i p → put_all weights (drop i places) x ≡ put_all old places x
    → put_all (slice_set weights p x) (drop (i + 1) places) x ≡ put_all old places x
put_more old weights places x i p within is so_far =
    let next : drop i places ≡ p ∷ drop (i + 1) places = drop-cons places i p within ∙ ap (λ q. q ∷ drop (suc i) places) (sym is) ∙ ap (λ n. p ∷ drop n places) (let e : suc i ≡ i + 1 = omega arith in e) in
    ap (λ ps. put_all weights ps x) (sym next) ∙ so_far

pub put_beyond : (old weights places : List ℕ) (x i p : ℕ) → i < length places → p ≡ get_or places i p → length weights ≤ p → put_all weights (drop i places) x ≡ put_all old places x
    → put_all weights (drop (i + 1) places) x ≡ put_all old places x
put_beyond old weights places x i p within is past so_far =
    ap (λ ws. put_all ws (drop (i + 1) places) x) (sym (set_past weights p x past)) ∙ put_more old weights places x i p within is so_far

pub put_done : (old weights places : List ℕ) (x i : ℕ) → length places ≤ i → put_all weights (drop i places) x ≡ put_all old places x → weights ≡ put_all old places x
put_done old weights places x i past so_far = sym (ap (λ ps. put_all weights ps x) (drop_of_length-le places past)) ∙ so_far

-- ---- the walk over the elements, from the last one
-- Before the first `at` elements of a row, which make channels below `made`.
pub record IsWeighing (servers : ℕ) (row : List Placed) (clients : List ℕ) (made at : ℕ) (weights : List ℕ) : Type 0 where
  pub upto : made ≡ channel_count servers (take at row)
  pub count : length weights ≡ channel_count servers row
  pub each : (c : ℕ) → c < length weights → get_or weights c 0 ≡ capped (weight made (drop at row) clients c)

count-append : (made : ℕ) (xs ys : List Placed) → channel_count made (xs ++ ys) ≡ channel_count (channel_count made xs) ys
count-append made [] ys = refl
count-append made (x ∷ xs) ys = count-append (made + output_count x.element) xs ys

count_split : (servers : ℕ) (row : List Placed) (i : ℕ) → channel_count servers row ≡ channel_count (channel_count servers (take i row)) (drop i row)
count_split servers row i = ap (channel_count servers) (sym (take-append-drop i row)) ∙ count-append servers (take i row) (drop i row)

pub weighing_starts : (servers : ℕ) (row : List Placed) (clients : List ℕ) (made at : ℕ) → made ≡ channel_count servers row → at ≡ length row
    → IsWeighing servers row clients made at (put_all (replicate made 0) clients 2)
weighing_starts servers row clients made at total end = record {
  upto = total ∙ ap (channel_count servers) (sym (take_all at row (omega arith)));
  count = put_length (replicate made 0) clients 2 ∙ length-replicate made 0 ∙ total;
  each = λ c h.
      let within : c < made = subst (λ n. c < n) (put_length (replicate made 0) clients 2 ∙ length-replicate made 0) h in
      put_get (replicate made 0) clients 2 c (subst (λ n. c < n) (sym (length-replicate made 0)) within)
      ∙ ap (λ w. if among c clients then 2 else w) (get_or-replicate made c 0 0 within)
      ∙ small (among c clients)
      ∙ ap (λ es. capped (weight made es clients c)) (sym (drop_of_length-le row {i = at} (omega arith)));
}
  where
    small : (b : Bool) → ◌≡◌ {A = ℕ} (if b then 2 else 0) (capped (if b then 2 else 0))
    small true = omega arith
    small false = omega arith

-- the channels that the element before makes are there
pub weighing_within : (servers : ℕ) (row : List Placed) (clients : List ℕ) (made i : ℕ) (weights : List ℕ) (placed : Placed) → IsWeighing servers row clients made (i + 1) weights → i < length row → placed ≡ get_or row i placed
    → (made ≡ channel_count servers (take i row) + output_count placed.element) × (made ≤ length weights)
weighing_within servers row clients made i weights placed w within is = (
  w.upto ∙ ap (channel_count servers) (take_more row i placed within) ∙ count-append servers (take i row) (get_or row i placed ∷ [])
      ∙ ap (λ p. channel_count servers (take i row) + output_count p.element) (sym is),
  let split : channel_count servers row ≡ channel_count (channel_count servers (take (i + 1) row)) (drop (i + 1) row) = count_split servers row (i + 1) in
      let grows : channel_count servers (take (i + 1) row) ≤ channel_count (channel_count servers (take (i + 1) row)) (drop (i + 1) row) = channels_grow (channel_count servers (take (i + 1) row)) (drop (i + 1) row) in
      let upto : made ≡ channel_count servers (take (i + 1) row) = w.upto in
      let count : length weights ≡ channel_count servers row = w.count in
      omega arith,
)

pub weighing_more : (servers : ℕ) (row : List Placed) (clients : List ℕ) (made less i x : ℕ) (weights new : List ℕ) (placed : Placed) → IsWeighing servers row clients made (i + 1) weights → i < length row → placed ≡ get_or row i placed
    → less ≡ made - output_count placed.element → x ≡ capped (input_weight placed.element (λ k. get_or weights (less + k) 0)) → new ≡ put_all weights placed.sources x
    → IsWeighing servers row clients less i new
weighing_more servers row clients made less i x weights new placed w within is fewer weighs put =
    let there = weighing_within servers row clients made i weights placed w within is in
    let made_is : made ≡ channel_count servers (take i row) + output_count placed.element = there.0 in
    let room : made ≤ length weights = there.1 in
    let less_is : less + output_count placed.element ≡ made = omega arith in
    let count : length new ≡ length weights = ap length put ∙ put_length weights placed.sources x in
    let next : drop i row ≡ placed ∷ drop (i + 1) row = drop-cons row i placed within ∙ ap (λ q. q ∷ drop (suc i) row) (sym is) ∙ ap (λ n. placed ∷ drop n row) (let e : suc i ≡ i + 1 = omega arith in e) in
    let later : ℕ → ℕ = weight made (drop (i + 1) row) clients in
    let input : x ≡ capped (input_weight placed.element (λ k. later (less + k)))
    = weighs ∙ input_capped placed.element (λ k. later (less + k)) (λ k. get_or weights (less + k) 0) (λ k h. w.each (less + k) (omega arith)) in
    record {
      upto = omega arith;
      count = count ∙ w.count;
      each = λ c h.
          ap (λ l. get_or l c 0) put ∙ put_get weights placed.sources x c (omega arith)
          ∙ by_test (among c placed.sources) c x later less placed input (w.each c (omega arith))
          ∙ ap (λ m. capped (if among c placed.sources then input_weight placed.element (λ k. weight m (drop (i + 1) row) clients (less + k)) else weight m (drop (i + 1) row) clients c)) (sym less_is)
          ∙ ap (λ es. capped (weight less es clients c)) (sym next);
    }
  where
    by_test : (b : Bool) (c x : ℕ) (later : ℕ → ℕ) (less : ℕ) (placed : Placed) → x ≡ capped (input_weight placed.element (λ k. later (less + k))) → get_or weights c 0 ≡ capped (later c)
        → (if b then x else get_or weights c 0) ≡ capped (if b then input_weight placed.element (λ k. later (less + k)) else later c)
    by_test true c x later less placed input other = input
    by_test false c x later less placed input other = other

pub weighing_ends : (servers : ℕ) (row : List Placed) (clients : List ℕ) (made : ℕ) (weights : List ℕ) → IsWeighing servers row clients made 0 weights → AreWeightsOf servers row clients weights
weighing_ends servers row clients made weights w = record { count = w.count; each = λ c h. w.each c h ∙ ap (λ m. capped (weight m row clients c)) w.upto }

-- ---- the greatest
greatest-append : (xs : List ℕ) (n : ℕ) → greatest (xs ++ n ∷ []) ≡ max (greatest xs) n
greatest-append [] n = omega arith
greatest-append (x ∷ xs) n = let rest : greatest (xs ++ n ∷ []) ≡ max (greatest xs) n = greatest-append xs n in omega arith

greatest_more : (xs : List ℕ) (i d : ℕ) → i < length xs → greatest (take (i + 1) xs) ≡ max (greatest (take i xs)) (get_or xs i d)
greatest_more xs i d within = ap greatest (take_more xs i d within) ∙ greatest-append (take i xs) (get_or xs i d)

-- one weight more, which is greater than those before it, or is not
pub greatest_next : (xs : List ℕ) (i d so_far : ℕ) → i < length xs → so_far ≡ greatest (take i xs) → so_far < get_or xs i d → get_or xs i d ≡ greatest (take (i + 1) xs)
greatest_next xs i d so_far within is greater = let more : greatest (take (i + 1) xs) ≡ max (greatest (take i xs)) (get_or xs i d) = greatest_more xs i d within in omega arith

pub greatest_same : (xs : List ℕ) (i d so_far : ℕ) → i < length xs → so_far ≡ greatest (take i xs) → get_or xs i d ≤ so_far → so_far ≡ greatest (take (i + 1) xs)
greatest_same xs i d so_far within is less = let more : greatest (take (i + 1) xs) ≡ max (greatest (take i xs)) (get_or xs i d) = greatest_more xs i d within in omega arith

-- ---- the same over the elements of a flat list
entry : (parts : List Part) (elements : List F.Element) (i : ℕ) (e : F.Element) → i < length elements → e ≡ get_or elements i e
    → placed_of parts e ≡ get_or (map (placed_of parts) elements) i (placed_of parts e)
entry parts elements i e within is = ap (placed_of parts) is ∙ sym (get_or-map (placed_of parts) elements i e (placed_of parts e) within)

pub walk_starts : (servers : ℕ) (parts : List Part) (elements : List F.Element) (clients : List ℕ) (made at : ℕ) (zeros weights : List ℕ) → made ≡ channel_count servers (map (placed_of parts) elements)
    → at ≡ length elements → zeros ≡ replicate made 0 → weights ≡ put_all zeros clients 2 → IsWeighing servers (map (placed_of parts) elements) clients made at weights
walk_starts servers parts elements clients made at zeros weights total end none put =
    subst (IsWeighing servers (map (placed_of parts) elements) clients made at) (sym (put ∙ ap (λ z. put_all z clients 2) none))
    (weighing_starts servers (map (placed_of parts) elements) clients made at total (end ∙ sym (length-map elements (placed_of parts))))

before : (servers : ℕ) (row : List Placed) (clients : List ℕ) (made at : ℕ) (weights : List ℕ) → 0 < at → IsWeighing servers row clients made at weights → IsWeighing servers row clients made (at - 1 + 1) weights
before servers row clients made at weights some w = subst (λ n. IsWeighing servers row clients made n weights) (let e : at ≡ at - 1 + 1 = omega arith in e) w

pub walk_within : (servers : ℕ) (parts : List Part) (elements : List F.Element) (clients : List ℕ) (made at : ℕ) (weights : List ℕ) (e : F.Element)
    → IsWeighing servers (map (placed_of parts) elements) clients made at weights → 0 < at → at ≤ length elements → e ≡ get_or elements (at - 1) e
    → (output_count (element_at (slice_get parts e.part)) ≤ made) × (made ≤ length weights)
walk_within servers parts elements clients made at weights e w some within is =
    let there = weighing_within servers (map (placed_of parts) elements) clients made (at - 1) weights (placed_of parts e) (before servers (map (placed_of parts) elements) clients made at weights some w)
    (let long : length (map (placed_of parts) elements) ≡ length elements = length-map elements (placed_of parts) in omega arith) (entry parts elements (at - 1) e (omega arith) is) in
    let made_is : made ≡ channel_count servers (take (at - 1) (map (placed_of parts) elements)) + output_count (element_at (slice_get parts e.part)) = there.0 in
    (omega arith, there.1)

pub walk_more : (servers : ℕ) (parts : List Part) (elements : List F.Element) (clients : List ℕ) (made less at x : ℕ) (weights new : List ℕ) (e : F.Element)
    → IsWeighing servers (map (placed_of parts) elements) clients made at weights → 0 < at → at ≤ length elements → e ≡ get_or elements (at - 1) e
    → less ≡ made - output_count (element_at (slice_get parts e.part)) → x ≡ capped (input_weight (element_at (slice_get parts e.part)) (λ k. get_or weights (less + k) 0)) → new ≡ put_all weights e.sources x
    → IsWeighing servers (map (placed_of parts) elements) clients less (at - 1) new
walk_more servers parts elements clients made less at x weights new e w some within is fewer weighs put =
    weighing_more servers (map (placed_of parts) elements) clients made less (at - 1) x weights new (placed_of parts e) (before servers (map (placed_of parts) elements) clients made at weights some w)
    (let long : length (map (placed_of parts) elements) ≡ length elements = length-map elements (placed_of parts) in omega arith) (entry parts elements (at - 1) e (omega arith) is) fewer weighs put
