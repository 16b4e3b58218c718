-- The weights that are computed from the end of a flat list are those of the relation.
use Rattle.std.specs.Prelude.{◌≡◌, ℕ, zero, suc, ◌+◌, ◌<◌, ◌≤◌, ◌==◌, ◌||◌, Bool, true, false, List, [], ◌∷◌, length, get_or, if◌then◌else◌, refl}
use Rattle.std.proofs.Common.{sym, ◌∙◌, ap, arith, subst}
use Rattle.std.proofs.lemmas.Bool.Decides.{nat_tests}
use Rattle.element_laws.specs.Elements.{Element, input_count, output_count}
use Rattle.element_laws.specs.Elements.Element.{stage, fifo, as_fifo, as_vr, map_by, scan_by, fork, join}
use Rattle.element_rows.specs.Flat.{Placed, source, channel_count, uses, TakesEarlier, total, sum_below, IsFlatList, among}
use Rattle.element_load.specs.Load.{AllCanTake, input_weight, weight, WeighElements, AreWeights}
use Rattle.element_load.specs.BalanceLemmas.{one_input}
use Rattle.element_rows.specs.StreamLemmas.{channels_grow}
use Rattle.element_rows.specs.SumLemmas.{sums_same, total-append}

-- one at a channel, and nothing elsewhere: summed over a list, how often the channel stands there
abbrev is_channel : ℕ → ℕ → ℕ
is_channel channel c = if channel == c then 1 else 0

not_among : (channel : ℕ) (xs : List ℕ) → total (is_channel channel) xs ≡ 0 → among channel xs ≡ false
not_among channel [] e = refl
not_among channel (x ∷ xs) e =
    let rest : among channel xs ≡ false = not_among channel xs (omega arith) in
    by_cases (channel == x) (omega arith) rest
  where
    by_cases : (b : Bool) → ◌≡◌ {A = ℕ} (if b then 1 else 0) 0 → among channel xs ≡ false → (b || among channel xs) ≡ false
    by_cases true e r = absurd (omega arith)
    by_cases false e r = r

is_among : (channel : ℕ) (xs : List ℕ) → among channel xs ≡ true → 0 < total (is_channel channel) xs
is_among channel [] e = absurd (cc)
is_among channel (x ∷ xs) e = by_cases (channel == x) e (is_among channel xs)
  where
    by_cases : (b : Bool) → (b || among channel xs) ≡ true → (among channel xs ≡ true → 0 < total (is_channel channel) xs) → 0 < (if b then 1 else 0) + total (is_channel channel) xs
    by_cases true e r = omega arith
    by_cases false e r = let h : 0 < total (is_channel channel) xs = r e in omega arith

same_channel : (x : ℕ) → (x == x) ≡ true
same_channel x = grind (arith, nat_tests)

first_among : (xs : List ℕ) → 0 < length xs → among (get_or xs 0 0) xs ≡ true
first_among [] h = absurd (omega arith)
first_among (x ∷ xs) h = ap (λ b. b || among x xs) (same_channel x)

elsewhere : (channel c : ℕ) → c < channel → is_channel channel c ≡ 0
elsewhere channel c h = let counted : Bool → ℕ = λ b. if b then 1 else 0 in ap counted (let e : (channel == c) ≡ false = grind (arith, nat_tests) in e)

-- a channel that is made later is none of the sources
later_absent : (made channel : ℕ) (xs : List ℕ) → ((k : ℕ) → k < length xs → get_or xs k 0 < made) → made ≤ channel → total (is_channel channel) xs ≡ 0
later_absent made channel [] below h = refl
later_absent made channel (x ∷ xs) below h =
    let here : x < made = below 0 (omega arith) in
    let rest : total (is_channel channel) xs ≡ 0 = later_absent made channel xs (λ k b. below (suc k) (omega arith)) h in
    let apart : is_channel channel x ≡ 0 = elsewhere channel x (omega arith) in
    omega arith

-- a channel is there once at most
once_below : (channel n : ℕ) → sum_below (is_channel channel) n ≤ 1
once_below channel n = omega (arith, bound channel n)
  where
    none : (channel n : ℕ) → n ≤ channel → sum_below (is_channel channel) n ≡ 0
    none channel zero h = refl
    none channel (suc n) h =
        let before : sum_below (is_channel channel) n ≡ 0 = none channel n (omega arith) in
        let apart : is_channel channel n ≡ 0 = elsewhere channel n (omega arith) in
        omega arith

    bound : (channel n : ℕ) → sum_below (is_channel channel) n ≤ 1
    bound channel zero = omega arith
    bound channel (suc n) = by_cases (channel == n) refl (bound channel n) (none channel n)
      where
        by_cases : (b : Bool) → (channel == n) ≡ b → sum_below (is_channel channel) n ≤ 1 → (n ≤ channel → sum_below (is_channel channel) n ≡ 0) → sum_below (is_channel channel) n + (if b then 1 else 0) ≤ 1
        by_cases true e before early = let at : channel ≡ n = grind (arith, nat_tests) in omega (arith, early (omega arith))
        by_cases false e before early = omega arith

-- an input's weight is told by those of the outputs
input_weight_same : (element : Element) (f g : ℕ → ℕ) → ((k : ℕ) → k < output_count element → f k ≡ g k) → input_weight element f ≡ input_weight element g
input_weight_same stage f g e = ap (λ w. 1 + w) (e 0 (omega arith))
input_weight_same (fifo depth) f g e = ap (λ w. 1 + w) (e 0 (omega arith))
input_weight_same as_fifo f g e = e 0 (omega arith)
input_weight_same as_vr f g e = e 0 (omega arith)
input_weight_same (map_by h) f g e = e 0 (omega arith)
input_weight_same (scan_by step start) f g e = e 0 (omega arith)
input_weight_same (fork branches) f g e = sums_same (λ k. 1 + f k) (λ k. 1 + g k) branches (λ k h. ap (λ w. 1 + w) (e k h))
input_weight_same join f g e = refl

some_input : (element : Element) → 0 < input_count element
some_input join = omega arith
some_input stage = omega arith
some_input (fifo depth) = omega arith
some_input as_fifo = omega arith
some_input as_vr = omega arith
some_input (map_by f) = omega arith
some_input (scan_by step start) = omega arith
some_input (fork branches) = omega arith

-- The weights of a whole list, seen from its elements from one on: `used` is how often a channel is used before them.
record SeenFrom (whole used : ℕ → ℕ) (made : ℕ) (placed : List Placed) (clients : List ℕ) : Type 0 where
  agrees : (c : ℕ) → used c ≡ 0 → whole c ≡ weight made placed clients c
  once : (c : ℕ) → used c + total (is_channel c) (uses placed) + total (is_channel c) clients ≤ 1
  later : (c : ℕ) → made ≤ c → used c ≡ 0

-- what is then so
record Weighed (whole : ℕ → ℕ) (made : ℕ) (placed : List Placed) (clients : List ℕ) : Type 0 where
  elements : WeighElements whole made placed
  clients_weigh : (c : ℕ) → among c clients ≡ true → whole c ≡ 2

weighed : (placed : List Placed) (whole used : ℕ → ℕ) (made : ℕ) (clients : List ℕ) → TakesEarlier made placed → SeenFrom whole used made placed clients → Weighed whole made placed clients
weighed [] whole used made clients takes seen = record {
  elements = tt;
  clients_weigh = λ c h. seen.agrees c (omega (arith, seen.once c, is_among c clients h)) ∙ ap (λ b. if b then 2 else 0) h;
}
weighed (placed ∷ others) whole used made clients takes seen =
    let count : ℕ = output_count placed.element in
    let later : ℕ → ℕ = weight (made + count) others clients in
    let below : (k : ℕ) → k < length placed.sources → get_or placed.sources k 0 < made = λ k h. takes.1 k (omega (arith, takes.0)) in
    let absent : (c : ℕ) → made ≤ c → total (is_channel c) placed.sources ≡ 0 = λ c h. later_absent made c placed.sources below h in
    let users : (c : ℕ) → total (is_channel c) (uses (placed ∷ others)) ≡ total (is_channel c) placed.sources + total (is_channel c) (uses others) = λ c. total-append (is_channel c) placed.sources (uses others) in
    let own : among (source placed 0) placed.sources ≡ true = first_among placed.sources (omega (arith, takes.0, some_input placed.element)) in
    let unused : used (source placed 0) ≡ 0 = omega (arith, seen.once (source placed 0), users (source placed 0), is_among (source placed 0) placed.sources own) in
    let behind : (c : ℕ) → used c ≡ 0 → total (is_channel c) placed.sources ≡ 0 → whole c ≡ later c =
    λ c u a. seen.agrees c u ∙ ap (λ b. if b then input_weight placed.element (λ k. later (made + k)) else later c) (not_among c placed.sources a) in
    let here : whole (source placed 0) ≡ input_weight placed.element (λ k. whole (made + k)) =
    seen.agrees (source placed 0) unused
    ∙ ap (λ b. if b then input_weight placed.element (λ k. later (made + k)) else later (source placed 0)) own
    ∙ sym (input_weight_same placed.element (λ k. whole (made + k)) (λ k. later (made + k)) (λ k h. behind (made + k) (seen.later (made + k) (omega arith)) (absent (made + k) (omega arith)))) in
    let rest : Weighed whole (made + count) others clients =
    weighed others whole (λ c. used c + total (is_channel c) placed.sources) (made + count) clients takes.2 (record {
      agrees = λ c u. behind c (omega arith) (omega arith);
      once = λ c. omega (arith, seen.once c, users c);
      later = λ c h. omega (arith, seen.later c (omega arith), absent c (omega arith));
    }) in
    record { elements = (here, rest.elements); clients_weigh = rest.clients_weigh }

pub are_weights : (servers : ℕ) (placed : List Placed) (clients : List ℕ) → IsFlatList servers placed clients → AreWeights (weight servers placed clients) servers placed clients
are_weights servers placed clients flat =
    let all : Weighed (weight servers placed clients) servers placed clients =
    weighed placed (weight servers placed clients) (λ c. 0) servers clients flat.earlier (record {
      agrees = λ c u. refl;
      once = λ c. omega (arith, flat.once (is_channel c), once_below c (channel_count servers placed));
      later = λ c h. refl;
    }) in
    record { elements = all.elements; clients_weigh = all.clients_weigh }

-- ---- the other way: weights that stand in the relation are those

in_one : (channel : ℕ) (xs : List ℕ) → length xs ≡ 1 → among channel xs ≡ true → channel ≡ get_or xs 0 0
in_one channel [] e h = absurd (cc)
in_one channel (x ∷ []) e h = by_cases (channel == x) refl h
  where
    by_cases : (b : Bool) → (channel == x) ≡ b → (b || false) ≡ true → channel ≡ x
    by_cases true f h = grind (arith, nat_tests)
    by_cases false f h = absurd (cc)
in_one channel (x ∷ y ∷ xs) e h = absurd (omega arith)

absent_total : (channel : ℕ) (xs : List ℕ) → among channel xs ≡ false → total (is_channel channel) xs ≡ 0
absent_total channel [] e = refl
absent_total channel (x ∷ xs) e = first (channel == x) e (absent_total channel xs)
  where
    first : (b : Bool) → (b || among channel xs) ≡ false → (among channel xs ≡ false → total (is_channel channel) xs ≡ 0) → (if b then 1 else 0) + total (is_channel channel) xs ≡ 0
    first true e rest = absurd (cc)
    first false e rest = let none : total (is_channel channel) xs ≡ 0 = rest e in omega arith

used_among : (channel : ℕ) (xs : List ℕ) → 0 < total (is_channel channel) xs → among channel xs ≡ true
used_among channel xs h = by_cases (among channel xs) refl
  where
    by_cases : (b : Bool) → among channel xs ≡ b → among channel xs ≡ true
    by_cases true e = e
    by_cases false e = absurd (omega (arith, absent_total channel xs e))

-- every channel below a bound is counted there
counted_below : (channel n : ℕ) → channel < n → 0 < sum_below (is_channel channel) n
counted_below channel zero h = absurd (omega arith)
counted_below channel (suc n) h = by_cases (channel == n) refl (counted_below channel n)
  where
    by_cases : (b : Bool) → (channel == n) ≡ b → (channel < n → 0 < sum_below (is_channel channel) n) → 0 < sum_below (is_channel channel) n + (if b then 1 else 0)
    by_cases true e rest = omega arith
    by_cases false e rest = let apart : channel < n = grind (arith, nat_tests) in let before : 0 < sum_below (is_channel channel) n = rest apart in omega arith

-- every channel from one on is used by the elements from one on, or by a client
abbrev UsedFrom : ℕ → ℕ → List Placed → List ℕ → Type 0
UsedFrom made end placed clients = (c : ℕ) → made ≤ c → c < end → 0 < total (is_channel c) (uses placed) + total (is_channel c) clients

unique : (placed : List Placed) (whole : ℕ → ℕ) (made end : ℕ) (clients : List ℕ) → AllCanTake placed → TakesEarlier made placed → channel_count made placed ≡ end → WeighElements whole made placed
    → ((c : ℕ) → among c clients ≡ true → whole c ≡ 2) → UsedFrom made end placed clients
    → (c : ℕ) → 0 < total (is_channel c) (uses placed) + total (is_channel c) clients → whole c ≡ weight made placed clients c
unique [] whole made end clients can takes fits weighs ends used c some =
    let here : among c clients ≡ true = used_among c clients (omega arith) in ends c here ∙ sym (ap (λ b. if b then 2 else 0) here)
unique (placed ∷ others) whole made end clients can takes fits weighs ends used c some =
    by_cases (among c placed.sources) refl
    (unique others whole (made + output_count placed.element) end clients can.1 takes.2 fits weighs.1 ends
    (λ d above below. omega (arith, used d (omega arith) below, users d, absent d (omega arith))))
  where
    below : (k : ℕ) → k < length placed.sources → get_or placed.sources k 0 < made
    below k h = takes.1 k (omega (arith, takes.0))

    absent : (d : ℕ) → made ≤ d → total (is_channel d) placed.sources ≡ 0
    absent d h = later_absent made d placed.sources below h

    users : (d : ℕ) → total (is_channel d) (uses (placed ∷ others)) ≡ total (is_channel d) placed.sources + total (is_channel d) (uses others)
    users d = total-append (is_channel d) placed.sources (uses others)

    by_cases : (b : Bool) → among c placed.sources ≡ b
        → ((d : ℕ) → 0 < total (is_channel d) (uses others) + total (is_channel d) clients → whole d ≡ weight (made + output_count placed.element) others clients d)
        → whole c ≡ (if among c placed.sources then input_weight placed.element (λ k. weight (made + output_count placed.element) others clients (made + k)) else weight (made + output_count placed.element) others clients c)
    by_cases true e rest =
        let grown : made + output_count placed.element ≤ end = subst (λ n. made + output_count placed.element ≤ n) fits (channels_grow (made + output_count placed.element) others) in
        ap whole (in_one c placed.sources (takes.0 ∙ one_input placed.element can.0) e) ∙ weighs.0
        ∙ input_weight_same placed.element (λ k. whole (made + k)) (λ k. weight (made + output_count placed.element) others clients (made + k))
        (λ k h. rest (made + k) (omega (arith, used (made + k) (omega arith) (omega arith), users (made + k), absent (made + k) (omega arith))))
        ∙ sym (ap (λ b. if b then input_weight placed.element (λ k. weight (made + output_count placed.element) others clients (made + k)) else weight (made + output_count placed.element) others clients c) e)
    by_cases false e rest =
        rest c (omega (arith, some, users c, absent_total c placed.sources e))
        ∙ sym (ap (λ b. if b then input_weight placed.element (λ k. weight (made + output_count placed.element) others clients (made + k)) else weight (made + output_count placed.element) others clients c) e)

pub weights_are_only : (whole : ℕ → ℕ) (servers : ℕ) (placed : List Placed) (clients : List ℕ) → IsFlatList servers placed clients → AllCanTake placed → AreWeights whole servers placed clients
    → (c : ℕ) → c < channel_count servers placed → whole c ≡ weight servers placed clients c
weights_are_only whole servers placed clients flat can are c h =
    unique placed whole servers (channel_count servers placed) clients can flat.earlier refl are.elements are.clients_weigh
    (λ d above below. omega (arith, flat.once (is_channel d), counted_below d (channel_count servers placed) below)) c
    (omega (arith, flat.once (is_channel c), counted_below c (channel_count servers placed) h))
