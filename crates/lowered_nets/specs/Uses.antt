-- No channel of a good flat list is taken twice.
use Rattle.std.specs.Prelude.{◌≡◌, ℕ, zero, suc, ◌+◌, ◌<◌, ◌≤◌, if◌then◌else◌, List, [], ◌∷◌, length, get_or, flat_map, refl}
use Rattle.std.proofs.Common.{ap, arith, inl, inr}
use Rattle.std.proofs.lemmas.Bool.{cases_eq, ne_eqb}
use Rattle.flat_design.specs.declared.element.Element.{Element}
use Rattle.flat_design.specs.declared.element.Flat.{Flat}
use Rattle.flat_design.specs.Laying.{count_up}
use Rattle.flat_design.specs.FlatLaws.{total, sources_in, IsFlatDesign}
use Rattle.channel_lower.specs.Lowering.{element_at, channel_at}
use Rattle.channel_lower.specs.Numbers.{one_at, one_here, total_at, total_append}

-- ---- sums

both_at : (f : ℕ → ℕ) (xs : List ℕ) (i j : ℕ) → i < j → j < length xs → f (get_or xs i 0) + f (get_or xs j 0) ≤ total f xs
both_at f [] i j lt within = absurd (omega (arith, within))
both_at f (x ∷ xs) i zero lt within = absurd (omega (arith, lt))
both_at f (x ∷ xs) zero (suc j) lt within = omega (arith, total_at f xs j (omega (arith, within)))
both_at f (x ∷ xs) (suc i) (suc j) lt within = omega (arith, both_at f xs i j (omega (arith, lt)) (omega (arith, within)))

of_one : (f : ℕ → ℕ) (es : List Element) (k : ℕ) → k < length es → total f (element_at es k).sources ≤ total f (flat_map sources_in es)
of_one f [] k lt = absurd (omega (arith, lt))
of_one f (e ∷ es) zero lt = omega (arith, total_append f e.sources (flat_map sources_in es))
of_one f (e ∷ es) (suc k) lt = omega (arith, total_append f e.sources (flat_map sources_in es), of_one f es k (omega (arith, lt)))

of_both : (f : ℕ → ℕ) (es : List Element) (j k : ℕ) → j < k → k < length es → total f (element_at es j).sources + total f (element_at es k).sources ≤ total f (flat_map sources_in es)
of_both f [] j k lt within = absurd (omega (arith, within))
of_both f (e ∷ es) j zero lt within = absurd (omega (arith, lt))
of_both f (e ∷ es) zero (suc k) lt within = omega (arith, total_append f e.sources (flat_map sources_in es), of_one f es k (omega (arith, within)))
of_both f (e ∷ es) (suc j) (suc k) lt within = omega (arith, total_append f e.sources (flat_map sources_in es), of_both f es j k (omega (arith, lt)) (omega (arith, within)))

-- a number is among those that follow each other once at most
not_here : (c d : ℕ) → (d ≡ c → ⊥) → one_at c d ≡ 0
not_here c d ne = ap (λ b. if b then 1 else 0) (ne_eqb d c ne)

none_above : (c p n : ℕ) → c < p → total (one_at c) (count_up p n) ≡ 0
none_above c p zero lt = refl
none_above c p (suc n) lt = omega (arith, not_here c p (omega (arith, lt)), none_above c (p + 1) n (omega (arith, lt)))

one_at_most : (c p n : ℕ) → total (one_at c) (count_up p n) ≤ 1
one_at_most c p zero = omega arith
one_at_most c p (suc n) =
    elim (cases_eq p c) [
      | inl e ↦ omega (arith, one_here c p e, none_above c (p + 1) n (omega (arith, e)))
      | inr ne ↦ omega (arith, not_here c p ne, one_at_most c (p + 1) n)
    ]

module _ (servers : ℕ) (flat : Flat) (clients : List ℕ) (design : IsFlatDesign servers flat clients) where
  used_once : (c : ℕ) → total (one_at c) (flat_map sources_in flat.elements) ≤ 1
  used_once c = omega (arith, design.once (one_at c), one_at_most c 0 (length flat.widths))

  -- by an element, once
  pub taken_once : (k i j : ℕ) → k < length flat.elements → i < j → j < length (element_at flat.elements k).sources → channel_at (element_at flat.elements k).sources i ≡ channel_at (element_at flat.elements k).sources j → ⊥
  taken_once k i j there lt within e =
      let c : ℕ = channel_at (element_at flat.elements k).sources j in
      let first : one_at c (channel_at (element_at flat.elements k).sources i) ≡ 1 = one_here c (channel_at (element_at flat.elements k).sources i) e in
      let second : one_at c (channel_at (element_at flat.elements k).sources j) ≡ 1 = one_here c (channel_at (element_at flat.elements k).sources j) refl in
      let two = both_at (one_at c) (element_at flat.elements k).sources i j lt within in
      omega (arith, first, second, two, of_one (one_at c) flat.elements k there, used_once c)

  -- and by one element
  pub taken_by_one : (j k a b : ℕ) → j < k → k < length flat.elements → a < length (element_at flat.elements j).sources → b < length (element_at flat.elements k).sources
      → channel_at (element_at flat.elements j).sources a ≡ channel_at (element_at flat.elements k).sources b → ⊥
  taken_by_one j k a b lt there first_there second_there e =
      let c : ℕ = channel_at (element_at flat.elements k).sources b in
      let first : one_at c (channel_at (element_at flat.elements j).sources a) ≡ 1 = one_here c (channel_at (element_at flat.elements j).sources a) e in
      let second : one_at c (channel_at (element_at flat.elements k).sources b) ≡ 1 = one_here c (channel_at (element_at flat.elements k).sources b) refl in
      let some = total_at (one_at c) (element_at flat.elements j).sources a first_there in
      let other = total_at (one_at c) (element_at flat.elements k).sources b second_there in
      omega (arith, first, second, some, other, of_both (one_at c) flat.elements j k lt there, used_once c)
