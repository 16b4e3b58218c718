-- How great a weight can be.
use Rattle.std.specs.Prelude.{◌≡◌, ℕ, zero, suc, ◌+◌, ◌*◌, ◌<◌, ◌≤◌, ◌==◌, ◌||◌, Bool, true, false, if◌then◌else◌, List, [], ◌∷◌, length, refl}
use Rattle.std.proofs.Common.{◌⊎◌, inl, inr, ap, arith}
use Rattle.std.proofs.lemmas.Bool.{cases_lt}
use Rattle.std.proofs.lemmas.Bool.Decides.{nat_tests}
use Rattle.element_laws.specs.Elements.{Element, input_count, output_count}
use Rattle.element_laws.specs.Elements.Element.{stage, fifo, as_fifo, as_vr, map_by, scan_by, fork, join}
use Rattle.element_rows.specs.Flat.{Placed, TakesEarlier, sum_below, among}
use Rattle.element_rows.specs.SumLemmas.{sums_same, sums_below, sum_split}
use Rattle.element_load.specs.Load.{input_weight, weight}

-- what an element adds to the weights of its outputs at most: one for each of them
abbrev pub added : List Placed → ℕ
added [] = 0
added (placed ∷ row) = output_count placed.element + added row

-- The weights of the to-server channels are at most one for each channel that an element makes, and two for each to-client endpoint.
abbrev pub WeightsFit : Type 0
WeightsFit = (servers : ℕ) (row : List Placed) (clients : List ℕ) → TakesEarlier servers row → (channel : ℕ) → channel < servers
    → weight servers row clients channel ≤ added row + 2 * length clients

-- ---- sums
sum_plus : (f g : ℕ → ℕ) (n : ℕ) → sum_below (λ c. f c + g c) n ≡ sum_below f n + sum_below g n
sum_plus f g zero = refl
sum_plus f g (suc n) = let before : sum_below (λ c. f c + g c) n ≡ sum_below f n + sum_below g n = sum_plus f g n in omega arith

-- so much at one channel, and nothing elsewhere
abbrev only_at : ℕ → ℕ → ℕ → ℕ
only_at channel w c = if c == channel then w else 0

nothing_before : (channel w n : ℕ) → n ≤ channel → sum_below (only_at channel w) n ≡ 0
nothing_before channel w zero h = refl
nothing_before channel w (suc n) h =
    let before : sum_below (only_at channel w) n ≡ 0 = nothing_before channel w n (omega arith) in
    let counted : Bool → ℕ = λ b. if b then w else 0 in
    let here : only_at channel w n ≡ 0 = ap counted (let e : (n == channel) ≡ false = grind (arith, nat_tests) in e) in
    omega arith

once_at : (channel w n : ℕ) → sum_below (only_at channel w) n ≤ w
once_at channel w zero = omega arith
once_at channel w (suc n) = by_cases (n == channel) refl (once_at channel w n) (nothing_before channel w n)
  where
    by_cases : (b : Bool) → (n == channel) ≡ b → sum_below (only_at channel w) n ≤ w → (n ≤ channel → sum_below (only_at channel w) n ≡ 0) → sum_below (only_at channel w) n + (if b then w else 0) ≤ w
    by_cases true e before none = let at : n ≡ channel = grind (arith, nat_tests) in let zero_before : sum_below (only_at channel w) n ≡ 0 = none (omega arith) in omega arith
    by_cases false e before none = omega arith

-- ---- at the end of the list
client_weights : (clients : List ℕ) (n : ℕ) → sum_below (λ c. if among c clients then 2 else 0) n ≤ 2 * length clients
client_weights [] n = none n
  where
    none : (n : ℕ) → sum_below (λ c. 0) n ≤ 0
    none zero = omega arith
    none (suc n) = let before : sum_below (λ c. 0) n ≤ 0 = none n in omega arith
client_weights (x ∷ xs) n =
    let each : (c : ℕ) → c < n → (if among c (x ∷ xs) then 2 else 0) ≤ only_at x 2 c + (if among c xs then 2 else 0) = λ c h. by_cases (c == x) (among c xs) in
    let sums : sum_below (λ c. if among c (x ∷ xs) then 2 else 0) n ≤ sum_below (λ c. only_at x 2 c + (if among c xs then 2 else 0)) n = sums_below _ _ n each in
    let split : sum_below (λ c. only_at x 2 c + (if among c xs then 2 else 0)) n ≡ sum_below (only_at x 2) n + sum_below (λ c. if among c xs then 2 else 0) n = sum_plus (only_at x 2) (λ c. if among c xs then 2 else 0) n in
    let one : sum_below (only_at x 2) n ≤ 2 = once_at x 2 n in
    let rest : sum_below (λ c. if among c xs then 2 else 0) n ≤ 2 * length xs = client_weights xs n in
    omega arith
  where
    by_cases : (a b : Bool) → (if a || b then 2 else 0) ≤ (if a then 2 else 0) + (if b then 2 else 0)
    by_cases true b = omega arith
    by_cases false b = omega arith

-- ---- at an element
-- An input weighs at most the sum of its outputs, and one more for each of these.
input_at_most : (element : Element) (outputs : ℕ → ℕ) → input_weight element outputs ≤ sum_below outputs (output_count element) + output_count element
input_at_most stage outputs = omega arith
input_at_most (fifo depth) outputs = omega arith
input_at_most as_fifo outputs = omega arith
input_at_most as_vr outputs = omega arith
input_at_most (map_by f) outputs = omega arith
input_at_most (scan_by step start) outputs = omega arith
input_at_most (fork branches) outputs = branch branches
  where
    branch : (n : ℕ) → sum_below (λ k. 1 + outputs k) n ≤ sum_below outputs n + n
    branch zero = omega arith
    branch (suc n) = let before : sum_below (λ k. 1 + outputs k) n ≤ sum_below outputs n + n = branch n in omega arith
input_at_most join outputs = omega arith

-- One source at most weighs something.
source_at_most : (element : Element) (sources : List ℕ) (w : ℕ) (later : ℕ → ℕ) (n : ℕ) → length sources ≡ input_count element → (element ≡ join → w ≡ 0)
    → sum_below (λ c. if among c sources then w else later c) n ≤ sum_below later n + w
source_at_most element sources w later n count joined = by_length sources count
  where
    by_test : (a : Bool) (x : ℕ) → (if a || false then w else x) ≤ (if a then w else 0) + x
    by_test true x = omega arith
    by_test false x = omega arith

    one : (s : ℕ) → sum_below (λ c. if among c (s ∷ []) then w else later c) n ≤ sum_below later n + w
    one s =
        let sums : sum_below (λ c. if among c (s ∷ []) then w else later c) n ≤ sum_below (λ c. only_at s w c + later c) n = sums_below _ _ n (λ c h. by_test (c == s) (later c)) in
        let split : sum_below (λ c. only_at s w c + later c) n ≡ sum_below (only_at s w) n + sum_below later n = sum_plus (only_at s w) later n in
        let most : sum_below (only_at s w) n ≤ w = once_at s w n in
        omega arith

    none_more : (a : Bool) (x : ℕ) → w ≡ 0 → (if a then w else x) ≤ x
    none_more true x e = omega arith
    none_more false x e = omega arith

    two : (xs : List ℕ) → w ≡ 0 → sum_below (λ c. if among c xs then w else later c) n ≤ sum_below later n + w
    two xs e = let sums : sum_below (λ c. if among c xs then w else later c) n ≤ sum_below later n = sums_below _ _ n (λ c h. none_more (among c xs) (later c) e) in omega arith

    is_join : (e : Element) → input_count e ≡ 2 → e ≡ join
    is_join stage h = absurd (omega arith)
    is_join (fifo depth) h = absurd (omega arith)
    is_join as_fifo h = absurd (omega arith)
    is_join as_vr h = absurd (omega arith)
    is_join (map_by f) h = absurd (omega arith)
    is_join (scan_by step start) h = absurd (omega arith)
    is_join (fork branches) h = absurd (omega arith)
    is_join join h = refl

    at_most_two : (e : Element) → (input_count e ≡ 1) ⊎ (input_count e ≡ 2)
    at_most_two stage = inl refl
    at_most_two (fifo depth) = inl refl
    at_most_two as_fifo = inl refl
    at_most_two as_vr = inl refl
    at_most_two (map_by f) = inl refl
    at_most_two (scan_by step start) = inl refl
    at_most_two (fork branches) = inl refl
    at_most_two join = inr refl

    by_length : (xs : List ℕ) → length xs ≡ input_count element → sum_below (λ c. if among c xs then w else later c) n ≤ sum_below later n + w
    by_length [] h = elim (at_most_two element) [ inl e ↦ absurd (omega arith) | inr e ↦ absurd (omega arith) ]
    by_length (s ∷ []) h = one s
    by_length (s ∷ t ∷ rest) h = elim (at_most_two element) [ inl e ↦ absurd (omega arith) | inr e ↦ two (s ∷ t ∷ rest) (joined (is_join element e)) ]

join_is_nothing : (element : Element) (outputs : ℕ → ℕ) → element ≡ join → input_weight element outputs ≡ 0
join_is_nothing element outputs e = ap (λ x. input_weight x outputs) e

-- ---- over a row
all_weights : (made : ℕ) (row : List Placed) (clients : List ℕ) → TakesEarlier made row → sum_below (weight made row clients) made ≤ added row + 2 * length clients
all_weights made [] clients takes =
    let same : sum_below (weight made [] clients) made ≡ sum_below (λ c. if among c clients then 2 else 0) made = sums_same _ _ made (λ c h. refl) in
    let most : sum_below (λ c. if among c clients then 2 else 0) made ≤ 2 * length clients = client_weights clients made in
    omega arith
all_weights made (placed ∷ row) clients takes =
    let later : ℕ → ℕ = weight (made + output_count placed.element) row clients in
    let w : ℕ = input_weight placed.element (λ k. later (made + k)) in
    let same : sum_below (weight made (placed ∷ row) clients) made ≡ sum_below (λ c. if among c placed.sources then w else later c) made = sums_same _ _ made (λ c h. refl) in
    let here : sum_below (λ c. if among c placed.sources then w else later c) made ≤ sum_below later made + w
    = source_at_most placed.element placed.sources w later made takes.0 (join_is_nothing placed.element (λ k. later (made + k))) in
    let most : w ≤ sum_below (λ k. later (made + k)) (output_count placed.element) + output_count placed.element = input_at_most placed.element (λ k. later (made + k)) in
    let split : sum_below later (made + output_count placed.element) ≡ sum_below later made + sum_below (λ k. later (made + k)) (output_count placed.element) = sum_split later made (output_count placed.element) in
    let rest : sum_below later (made + output_count placed.element) ≤ added row + 2 * length clients = all_weights (made + output_count placed.element) row clients takes.2 in
    omega arith

one_of_sum : (f : ℕ → ℕ) (n c : ℕ) → c < n → f c ≤ sum_below f n
one_of_sum f zero c h = absurd (omega arith)
one_of_sum f (suc n) c h = elim (cases_lt c n) [ inl lt ↦ (let before : f c ≤ sum_below f n = one_of_sum f n c lt in omega arith) | inr le ↦ (let e : c ≡ n = omega arith in let same : f c ≡ f n = ap f e in omega arith) ]

pub weights_fit : WeightsFit
weights_fit servers row clients takes channel within =
    let one : weight servers row clients channel ≤ sum_below (weight servers row clients) servers = one_of_sum (weight servers row clients) servers channel within in
    let all : sum_below (weight servers row clients) servers ≤ added row + 2 * length clients = all_weights servers row clients takes in
    omega arith
