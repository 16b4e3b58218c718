-- The order is that of the definition, and what follows from it.
use Rattle.std.proofs.Common.{◌≡◌, ℕ, zero, suc, ◌+◌, ◌<◌, ◌≤◌, true, false, not, List, [], ◌∷◌, ◌++◌, Option, Some, None, length, get_or, take, refl, ap, sym, ◌∙◌, subst, inl, inr, arith, eqb}
use Rattle.std.specs.Prelude.{◌&&◌, ◌⊎◌, All}
use Rattle.std.specs.List.{IsDistinct}
use Rattle.std.proofs.lemmas.Bool.{false≢true, cases_eq, cases_Bool, cases_lt, or_cases, and_parts, and_cases, not-true, eqb-true, eq-eqb, or_left, or_right}
use Rattle.std.proofs.lemmas.List.{length_push, length-take-le, take_all, take_more, take-append-le, take_at, get_or_append_left, get_or_push, get_or-take}
use Rattle.std.proofs.lemmas.List.Elements.{All-get_or}
use Rattle.std.proofs.lemmas.Map.Keys.{IsDistinct-push, apart_from_distinct}
use Rattle.std.proofs.lemmas.Map.Steps.{length-le_from_distinct_below, le-length_from_below}
use Rattle.std.proofs.lemmas.Cmp.{nat_eq_equiv}
use Rattle.element_order.specs.Orders.{AllBelow, among, all_among, needs_of, is_ready, next_ready, ordered_from, ordered}
use Rattle.element_order.specs.Laws.{IsElementOrder, IsSorted, Depends, IsOnCycle, AllOrders, OneOrder}
use Rattle.element_order.specs.Laws.Depends.{direct, through}
use Rattle.element_order.proofs.Numbers.{among-push, below_among, first_passes, none_passes}
use Rattle.element_order.proofs.Placings.{turn_some, turns_end}

-- ---- places
pub among_at : (xs : List ℕ) (r : ℕ) → r < length xs → among (get_or xs r 0) xs ≡ true
among_at [] r lt = absurd (omega arith)
among_at (x ∷ xs) zero lt = or_left (eqb x x) (among x xs) (eq-eqb x x refl)
among_at (x ∷ xs) (suc r) lt = or_right (eqb (get_or xs r 0) x) (among (get_or xs r 0) xs) (among_at xs r (omega arith))

pub record StandsAt (k : ℕ) (xs : List ℕ) : Type 0 where
  pub place : ℕ
  pub low : place < length xs
  pub there : get_or xs place 0 ≡ k

pub among_place : (k : ℕ) (xs : List ℕ) → among k xs ≡ true → StandsAt k xs
among_place k [] e = absurd (false≢true e)
among_place k (x ∷ xs) e =
    elim (or_cases (eqb k x) (among k xs) e) [
      | inl t ↦ record { place = 0; low = omega arith; there = sym (eqb-true k x t) }
      | inr t ↦ let more = among_place k xs t in record { place = suc more.place; low = (let lt = more.low in omega arith); there = more.there }
    ]

among_front : (xs : List ℕ) (r p : ℕ) → r < p → p ≤ length xs → among (get_or xs r 0) (take p xs) ≡ true
among_front xs r p lt high =
    subst (λ k. among k (take p xs) ≡ true) (get_or-take p xs r 0 lt) (among_at (take p xs) r (let e = length-take-le p xs high in omega arith))

pub record StandsBefore (k p : ℕ) (xs : List ℕ) : Type 0 where
  pub place : ℕ
  pub low : place < p
  pub there : get_or xs place 0 ≡ k

front_place : (k p : ℕ) (xs : List ℕ) → p ≤ length xs → among k (take p xs) ≡ true → StandsBefore k p xs
front_place k p xs high e =
    let at = among_place k (take p xs) e in
    let lt : at.place < p = let count = length-take-le p xs high in let low = at.low in omega arith in
    record { place = at.place; low = lt; there = sym (get_or-take p xs at.place 0 lt) ∙ at.there }

-- ---- what is placed so far
pub record IsSoFar (needs : List (List ℕ)) (placed : List ℕ) : Type 0 where
  pub each : (k : ℕ) → k < length placed → next_ready needs (take k placed) ≡ Some (get_or placed k 0)
  pub distinct : IsDistinct eqb placed
  pub below : (q : ℕ) → among q placed ≡ true → q < length needs

ready_new : (needs : List (List ℕ)) (placed : List ℕ) (i : ℕ) → next_ready needs placed ≡ Some i → (among i placed ≡ false) × (i < length needs)
ready_new needs placed i e =
    let first = first_passes (is_ready needs placed) 0 (length needs) i e in
    let high = first.high in
    (not-true (among i placed) (and_parts (not (among i placed)) (all_among (needs_of needs i) placed) first.passes).0, omega arith)

pub one_more : (needs : List (List ℕ)) (placed : List ℕ) (i : ℕ) → IsSoFar needs placed → next_ready needs placed ≡ Some i → IsSoFar needs (placed ++ i ∷ [])
one_more needs placed i s e = record {
  each = λ k lt.
      elim (cases_lt k (length placed)) [
        | inl low ↦
            ap (next_ready needs) (take-append-le k placed (i ∷ []) (omega arith)) ∙ s.each k low ∙ ap Some (sym (get_or_append_left placed (i ∷ []) 0 k low))
        | inr high ↦
            let is : length placed ≡ k = let count = length_push placed i in omega arith in
            ap (next_ready needs) (take_at placed (i ∷ []) k is) ∙ e ∙ ap Some (sym (get_or_push placed i 0 k is))
      ];
  distinct = IsDistinct-push nat_eq_equiv placed i s.distinct (ready_new needs placed i e).0;
  below = λ q there.
      elim (or_cases (among q placed) (eqb q i) (sym (among-push placed i q) ∙ there)) [
        | inl t ↦ s.below q t
        | inr t ↦ let is : q ≡ i = eqb-true q i t in subst (λ r. r < length needs) (sym is) (ready_new needs placed i e).1
      ];
}

room : (needs : List (List ℕ)) (placed : List ℕ) → IsSoFar needs placed → length placed ≤ length needs
room needs placed s = length-le_from_distinct_below placed (length needs) s.distinct s.below

pub record IsDone (needs : List (List ℕ)) (placed : List ℕ) : Type 0 where
  pub so_far : IsSoFar needs placed
  pub ends : next_ready needs placed ≡ None

done_from : (needs : List (List ℕ)) (turns : ℕ) (placed : List ℕ) → IsSoFar needs placed → length needs ≤ turns + length placed → IsDone needs (ordered_from needs turns placed)
done_from needs zero placed s enough = by_next (next_ready needs placed) refl
  where
    by_next : (o : Option ℕ) → next_ready needs placed ≡ o → IsDone needs (ordered_from needs zero placed)
    by_next None e = subst (IsDone needs) (sym (turns_end needs zero placed e)) (record { so_far = s; ends = e })
    by_next (Some i) e = absurd (let most = room needs (placed ++ i ∷ []) (one_more needs placed i s e) in let count = length_push placed i in omega arith)
done_from needs (suc turns) placed s enough = by_next (λ i more. done_from needs turns (placed ++ i ∷ []) more (let count = length_push placed i in omega arith)) (next_ready needs placed) refl
  where
    by_next : ((i : ℕ) → IsSoFar needs (placed ++ i ∷ []) → IsDone needs (ordered_from needs turns (placed ++ i ∷ []))) → (o : Option ℕ) → next_ready needs placed ≡ o → IsDone needs (ordered_from needs (suc turns) placed)
    by_next go None e = subst (IsDone needs) (sym (turns_end needs (suc turns) placed e)) (record { so_far = s; ends = e })
    by_next go (Some i) e = subst (IsDone needs) (sym (turn_some needs turns placed i e)) (go i (one_more needs placed i s e))

pub ordered_done : (needs : List (List ℕ)) → IsDone needs (ordered needs)
unfolding ordered IsDistinct
ordered_done needs = done_from needs (length needs) [] (record { each = λ k lt. absurd (omega arith); distinct = tt; below = λ q there. absurd (false≢true there) }) (omega arith)

sorted_done : (needs : List (List ℕ)) (placed : List ℕ) → IsSoFar needs placed → IsSorted needs placed
sorted_done needs placed s = record {
  sources = λ k lt.
      let first = first_passes (is_ready needs (take k placed)) 0 (length needs) (get_or placed k 0) (s.each k lt) in
      (and_parts (not (among (get_or placed k 0) (take k placed))) (all_among (needs_of needs (get_or placed k 0)) (take k placed)) first.passes).1;
  distinct = s.distinct;
  below = s.below;
}

-- ---- what is placed does not depend on itself
all_among_at : (k : ℕ) (ds placed : List ℕ) → all_among ds placed ≡ true → among k ds ≡ true → among k placed ≡ true
all_among_at k [] placed all e = absurd (false≢true e)
all_among_at k (d ∷ ds) placed all e =
    let parts = and_parts (among d placed) (all_among ds placed) all in
    elim (or_cases (eqb k d) (among k ds) e) [
      | inl t ↦ subst (λ q. among q placed ≡ true) (sym (eqb-true k d t)) parts.0
      | inr t ↦ all_among_at k ds placed parts.1 t
    ]

before : (needs : List (List ℕ)) (placed : List ℕ) (i k p : ℕ) → IsSorted needs placed → Depends needs i k → p < length placed → get_or placed p 0 ≡ i → among k (take p placed) ≡ true
before needs placed _ _ p s (direct i k h) lt is = all_among_at k (needs_of needs i) (take p placed) (subst (λ q. all_among (needs_of needs q) (take p placed) ≡ true) is (s.sources p lt)) h
before needs placed _ _ p s (through i j k h d) lt is =
    let there = all_among_at j (needs_of needs i) (take p placed) (subst (λ q. all_among (needs_of needs q) (take p placed) ≡ true) is (s.sources p lt)) h in
    let at = front_place j p placed (omega arith) there in
    let low = at.low in
    let more = before needs placed j k at.place s d (omega arith) at.there in
    let first = front_place k at.place placed (omega arith) more in
    let lower = first.low in
    subst (λ q. among q (take p placed) ≡ true) first.there (among_front placed first.place p (omega arith) (omega arith))

pub placed_is_clear : (needs : List (List ℕ)) (placed : List ℕ) (i : ℕ) → IsSorted needs placed → among i placed ≡ true → Depends needs i i → ⊥
placed_is_clear needs placed i s there d =
    let at = among_place i placed there in
    let earlier = front_place i at.place placed (let low = at.low in omega arith) (before needs placed i i at.place s d at.low at.there) in
    let apart = apart_from_distinct eqb placed earlier.place at.place 0 s.distinct earlier.low at.low in
    false≢true (sym apart ∙ eq-eqb (get_or placed earlier.place 0) (get_or placed at.place 0) (earlier.there ∙ sym at.there))

-- ---- where all are placed, each is
all_there : (n : ℕ) (placed : List ℕ) (q : ℕ) → IsDistinct eqb placed → ((k : ℕ) → among k placed ≡ true → k < n) → length placed ≡ n → q < n → among q placed ≡ true
all_there n placed q distinct below count lt =
    elim (cases_Bool (among q placed)) [
      | inl t ↦ t
      | inr f ↦
          let most = length-le_from_distinct_below (placed ++ q ∷ []) n (IsDistinct-push nat_eq_equiv placed q distinct f) below_more in
          let more = length_push placed q in
          absurd (omega arith)
    ]
  where
    below_more : (k : ℕ) → among k (placed ++ q ∷ []) ≡ true → k < n
    below_more k there =
        elim (or_cases (among k placed) (eqb k q) (sym (among-push placed q k) ∙ there)) [
          | inl t ↦ below k t
          | inr t ↦ let is : k ≡ q = eqb-true k q t in subst (λ r. r < n) (sym is) lt
        ]

-- ---- where one is left, one depends on itself
pub record IsLeft (placed : List ℕ) (n : ℕ) : Type 0 where
  pub element : ℕ
  pub low : element < n
  pub out : among element placed ≡ false

left_one : (placed : List ℕ) (n m : ℕ) → m ≤ n → ((q : ℕ) → q < m → among q placed ≡ true) ⊎ IsLeft placed n
left_one placed n zero high = inl (λ q lt. absurd (omega arith))
left_one placed n (suc m) high =
    elim (left_one placed n m (omega arith)) [
      | inl all ↦
          elim (cases_Bool (among m placed)) [
            | inl t ↦ inl (λ q lt. elim (cases_eq q m) [ inl e ↦ subst (λ k. among k placed ≡ true) (sym e) t | inr ne ↦ all q (omega (arith, ne)) ])
            | inr f ↦ inr (record { element = m; low = omega arith; out = f })
          ]
      | inr one ↦ inr one
    ]

pub record IsLeftOut (ds placed : List ℕ) : Type 0 where
  pub need : ℕ
  pub there : among need ds ≡ true
  pub out : among need placed ≡ false

left_out : (ds placed : List ℕ) → all_among ds placed ≡ false → IsLeftOut ds placed
left_out [] placed e = absurd (false≢true (sym e))
left_out (d ∷ ds) placed e =
    elim (and_cases (among d placed) (all_among ds placed) e) [
      | inl f ↦ record { need = d; there = or_left (eqb d d) (among d ds) (eq-eqb d d refl); out = f }
      | inr f ↦ let more = left_out ds placed f in record { need = more.need; there = or_right (eqb more.need d) (among more.need ds) more.there; out = more.out }
    ]

next_need : (needs : List (List ℕ)) (placed : List ℕ) (x : ℕ) → next_ready needs placed ≡ None → x < length needs → among x placed ≡ false → IsLeftOut (needs_of needs x) placed
next_need needs placed x ends low out =
    let not_ready = none_passes (is_ready needs placed) 0 (length needs) ends x (omega arith) (omega arith) in
    left_out (needs_of needs x) placed (sym (ap (λ b. not b && all_among (needs_of needs x) placed) out) ∙ not_ready)

pub follows : (needs : List (List ℕ)) (i j k : ℕ) → Depends needs i j → among k (needs_of needs j) ≡ true → Depends needs i k
follows needs _ _ k (direct i j h) last = through i j k h (direct j k last)
follows needs _ _ k (through i m j h d) last = through i m k h (follows needs m j k d last)

-- a chain of elements that are left, each of which depends on the newest
pub record IsChain (needs : List (List ℕ)) (placed path : List ℕ) (x : ℕ) : Type 0 where
  pub low : x < length needs
  pub out : among x placed ≡ false
  pub distinct : IsDistinct eqb path
  pub below : (q : ℕ) → among q path ≡ true → q < length needs
  pub each : (z : ℕ) → among z path ≡ true → (z ≡ x) ⊎ Depends needs z x

chain_more : (needs : List (List ℕ)) (placed path : List ℕ) (x d : ℕ) → IsChain needs placed path x → d < length needs → among d placed ≡ false → among d path ≡ false → among d (needs_of needs x) ≡ true
    → IsChain needs placed (path ++ d ∷ []) d
chain_more needs placed path x d c low out new need = record {
  low = low;
  out = out;
  distinct = IsDistinct-push nat_eq_equiv path d c.distinct new;
  below = λ q there.
      elim (or_cases (among q path) (eqb q d) (sym (among-push path d q) ∙ there)) [
        | inl t ↦ c.below q t
        | inr t ↦ let is : q ≡ d = eqb-true q d t in subst (λ r. r < length needs) (sym is) low
      ];
  each = λ z there.
      elim (or_cases (among z path) (eqb z d) (sym (among-push path d z) ∙ there)) [
        | inl t ↦
            inr (elim (c.each z t) [
              | inl is ↦ subst (λ q. Depends needs q d) (sym is) (direct x d need)
              | inr dep ↦ follows needs z x d dep need
            ])
        | inr t ↦ inl (eqb-true z d t)
      ];
}

closed_chain : (needs : List (List ℕ)) (placed path : List ℕ) (x d : ℕ) → IsChain needs placed path x → d < length needs → among d path ≡ true → among d (needs_of needs x) ≡ true → IsOnCycle needs
closed_chain needs placed path x d c low there need = record {
  element = d;
  low = low;
  itself = elim (c.each d there) [
    | inl is ↦ subst (λ q. Depends needs q d) (sym is) (direct x d need)
    | inr dep ↦ follows needs d x d dep need
  ];
}

cycle_from : (needs : List (List ℕ)) (placed : List ℕ) → All (AllBelow (length needs)) needs → next_ready needs placed ≡ None → (fuel : ℕ) (path : List ℕ) (x : ℕ) → IsChain needs placed path x → length needs < fuel + length path → IsOnCycle needs
cycle_from needs placed all ends zero path x c enough = absurd (let most = length-le_from_distinct_below path (length needs) c.distinct c.below in omega arith)
cycle_from needs placed all ends (suc fuel) path x c enough =
    let next = next_need needs placed x ends c.low c.out in
    let low = below_among (length needs) next.need (needs_of needs x) (All-get_or (AllBelow (length needs)) needs x [] c.low all) next.there in
    elim (cases_Bool (among next.need path)) [
      | inl t ↦ closed_chain needs placed path x next.need c low t next.there
      | inr f ↦ cycle_from needs placed all ends fuel (path ++ next.need ∷ []) next.need (chain_more needs placed path x next.need c low next.out f next.there) (let count = length_push path next.need in omega arith)
    ]

one_chain : (needs : List (List ℕ)) (placed : List ℕ) (x : ℕ) → x < length needs → among x placed ≡ false → IsChain needs placed (x ∷ []) x
unfolding IsDistinct
one_chain needs placed x low out = record {
  low = low;
  out = out;
  distinct = (tt, tt);
  below = λ q there. subst (λ r. r < length needs) (sym (only q there)) low;
  each = λ z there. inl (only z there);
}
  where
    only : (q : ℕ) → among q (x ∷ []) ≡ true → q ≡ x
    only q there = elim (or_cases (eqb q x) false there) [ inl t ↦ eqb-true q x t | inr f ↦ absurd (false≢true f) ]

some_cycle : (needs : List (List ℕ)) (placed : List ℕ) → All (AllBelow (length needs)) needs → next_ready needs placed ≡ None → length placed < length needs → IsOnCycle needs
some_cycle needs placed all ends few =
    elim (left_one placed (length needs) (length needs) (omega arith)) [
      | inl each ↦ absurd (let least = le-length_from_below placed (length needs) each in omega arith)
      | inr one ↦ cycle_from needs placed all ends (length needs) (one.element ∷ []) one.element (one_chain needs placed one.element one.low one.out) (omega arith)
    ]

pub order_holds : AllOrders
order_holds needs all =
    let done = ordered_done needs in
    let sorted = sorted_done needs (ordered needs) done.so_far in
    record {
      order = record { each = done.so_far.each; ends = done.ends };
      sorted = sorted;
      whole = λ count cycle. placed_is_clear needs (ordered needs) cycle.element sorted (all_there (length needs) (ordered needs) cycle.element sorted.distinct sorted.below count cycle.low) cycle.itself;
      cycle = λ few. some_cycle needs (ordered needs) all done.ends few;
    }

-- ---- there is one order
same_front : (needs : List (List ℕ)) (placed other : List ℕ) → IsElementOrder needs placed → IsElementOrder needs other → (k : ℕ) → k ≤ length placed → k ≤ length other → take k placed ≡ take k other
same_front needs placed other a b zero low high = refl
same_front needs placed other a b (suc k) low high =
    let front = same_front needs placed other a b k (omega arith) (omega arith) in
    let both : Some (get_or placed k 0) ≡ Some (get_or other k 0) = sym (a.each k (omega arith)) ∙ ap (next_ready needs) front ∙ b.each k (omega arith) in
    let next : get_or placed k 0 ≡ get_or other k 0 = cc in
    let one = take_more placed k 0 (omega arith) in
    let two = take_more other k 0 (omega arith) in
    let n : suc k ≡ k + 1 = omega arith in
    ap (λ m. take m placed) n ∙ one ∙ ap (λ xs. xs ++ get_or placed k 0 ∷ []) front ∙ ap (λ x. take k other ++ x ∷ []) next ∙ sym two ∙ ap (λ m. take m other) (sym n)

no_longer : (needs : List (List ℕ)) (placed other : List ℕ) → IsElementOrder needs placed → IsElementOrder needs other → length placed < length other → ⊥
no_longer needs placed other a b lt =
    let front = same_front needs placed other a b (length placed) (omega arith) (omega arith) in
    let whole = take_all (length placed) placed (omega arith) in
    let wrong : None ≡ Some (get_or other (length placed) 0) = sym a.ends ∙ ap (next_ready needs) (sym whole ∙ front) ∙ b.each (length placed) lt in
    absurd (cc)

pub one_order : OneOrder
one_order needs placed other a b =
    let low : length other ≤ length placed = elim (cases_lt (length placed) (length other)) [ inl lt ↦ absurd (no_longer needs placed other a b lt) | inr ge ↦ ge ] in
    let high : length placed ≤ length other = elim (cases_lt (length other) (length placed)) [ inl lt ↦ absurd (no_longer needs other placed b a lt) | inr ge ↦ ge ] in
    sym (take_all (length placed) placed (omega arith)) ∙ same_front needs placed other a b (length placed) (omega arith) high ∙ take_all (length placed) other low
