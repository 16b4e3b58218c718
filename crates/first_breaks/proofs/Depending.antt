-- The test whether an element depends on another decides it.
use Rattle.std.proofs.Common.{◌≡◌, ℕ, zero, suc, ◌<◌, Bool, true, ◌&&◌, List, [], length, refl, ap, sym, ◌∙◌, subst, inl, inr, arith}
use Rattle.std.specs.Prelude.{◌⊎◌}
use Rattle.std.proofs.lemmas.Bool.{false≢true, cases_eq, cases_lt, or_cases, or_left, or_right, and_parts}
use Rattle.std.proofs.lemmas.List.{get_or_past}
use Rattle.element_order.specs.Orders.{among, needs_of}
use Rattle.element_order.specs.Laws.{Depends}
use Rattle.element_order.specs.Laws.Depends.{direct, through}
use Rattle.first_breaks.specs.Dependence.{depends_below, depends_on}
use Rattle.first_breaks.specs.Laws.{EachDepends}

-- ---- what the test finds

dependence_joined : (needs : List (List ℕ)) (i j k : ℕ) → Depends needs i j → Depends needs j k → Depends needs i k
dependence_joined needs i j k (direct first last e) more = through first last k e more
dependence_joined needs i j k (through first m last e rest) more = through first m k e (dependence_joined needs m last k rest more)

both_parts : (a b : Bool) → a && b ≡ true → (a ≡ true) × (b ≡ true)
both_parts a b e = and_parts a b e

depends_sound : (needs : List (List ℕ)) (n i k : ℕ) → depends_below needs n i k ≡ true → Depends needs i k
unfolding depends_below
depends_sound needs zero i k e = direct i k e
depends_sound needs (suc n) i k e = elim (or_cases (depends_below needs n i k) (depends_below needs n i n && depends_below needs n n k) e) [
  | inl here ↦ depends_sound needs n i k here
  | inr by ↦
      let parts = both_parts (depends_below needs n i n) (depends_below needs n n k) by in
      dependence_joined needs i n k (depends_sound needs n i n parts.0) (depends_sound needs n n k parts.1)
]

-- ---- what it misses: nothing

-- a way through `n` itself
by_itself : (needs : List (List ℕ)) (n i k : ℕ) → depends_below needs n i n ≡ true → depends_below needs n n k ≡ true → depends_below needs (suc n) i k ≡ true
unfolding depends_below
by_itself needs n i k first last = or_right (depends_below needs n i k) (depends_below needs n i n && depends_below needs n n k) (rw (first, last) refl)

one_more : (needs : List (List ℕ)) (n i k : ℕ) → depends_below needs n i k ≡ true → depends_below needs (suc n) i k ≡ true
unfolding depends_below
one_more needs n i k e = or_left (depends_below needs n i k) (depends_below needs n i n && depends_below needs n n k) e

-- a way through lower elements, or one that is at `n` in between
record IsSplit (needs : List (List ℕ)) (n i k : ℕ) : Type 0 where
  first : depends_below needs n i n ≡ true
  last : depends_below needs n n k ≡ true

split : (needs : List (List ℕ)) (n i k : ℕ) → depends_below needs (suc n) i k ≡ true → (depends_below needs n i k ≡ true) ⊎ IsSplit needs n i k
unfolding depends_below
split needs n i k e = elim (or_cases (depends_below needs n i k) (depends_below needs n i n && depends_below needs n n k) e) [
  | inl here ↦ inl here
  | inr by ↦ let parts = both_parts (depends_below needs n i n) (depends_below needs n n k) by in inr (record { first = parts.0; last = parts.1 })
]

to_itself : (needs : List (List ℕ)) (n i : ℕ) → depends_below needs (suc n) i n ≡ true → depends_below needs n i n ≡ true
to_itself needs n i e = elim (split needs n i n e) [ inl here ↦ here | inr by ↦ by.first ]

from_itself : (needs : List (List ℕ)) (n k : ℕ) → depends_below needs (suc n) n k ≡ true → depends_below needs n n k ≡ true
from_itself needs n k e = elim (split needs n n k e) [ inl here ↦ here | inr by ↦ by.last ]

-- two ways that meet in an element below `n` are one
ways_joined : (needs : List (List ℕ)) (n i j k : ℕ) → j < n → depends_below needs n i j ≡ true → depends_below needs n j k ≡ true → depends_below needs n i k ≡ true
ways_joined needs zero i j k low first last = absurd (omega arith)
ways_joined needs (suc n) i j k low first last = elim (cases_eq j n) [
  | inl is ↦
      by_itself needs n i k
      (to_itself needs n i (subst (λ m. depends_below needs (suc n) i m ≡ true) is first))
      (from_itself needs n k (subst (λ m. depends_below needs (suc n) m k ≡ true) is last))
  | inr other ↦ lower (λ to from. ways_joined needs n to j from (omega arith))
]
  where
    lower : ((to from : ℕ) → depends_below needs n to j ≡ true → depends_below needs n j from ≡ true → depends_below needs n to from ≡ true) → depends_below needs (suc n) i k ≡ true
    lower joined = elim (split needs n i j first) [
      | inl a ↦ elim (split needs n j k last) [
        | inl b ↦ one_more needs n i k (joined i k a b)
        | inr b ↦ by_itself needs n i k (joined i n a b.first) b.last
      ]
      | inr a ↦ elim (split needs n j k last) [
        | inl b ↦ by_itself needs n i k a.first (joined n k a.last b)
        | inr b ↦ by_itself needs n i k a.first b.last
      ]
    ]

all_below : (needs : List (List ℕ)) (n i k : ℕ) → among k (needs_of needs i) ≡ true → depends_below needs n i k ≡ true
unfolding depends_below
all_below needs zero i k e = e
all_below needs (suc n) i k e = one_more needs n i k (all_below needs n i k e)

-- what needs anything is one of the elements
needing : (needs : List (List ℕ)) (i k : ℕ) → among k (needs_of needs i) ≡ true → i < length needs
needing needs i k e = elim (cases_lt i (length needs)) [
  | inl low ↦ low
  | inr past ↦ absurd (false≢true (sym (ap (among k) (get_or_past needs i [] past)) ∙ e))
]

depending : (needs : List (List ℕ)) (i k : ℕ) → Depends needs i k → i < length needs
depending needs i k (direct first last e) = needing needs first last e
depending needs i k (through first j last e rest) = needing needs first j e

depends_complete : (needs : List (List ℕ)) (i k : ℕ) → Depends needs i k → depends_on needs i k ≡ true
depends_complete needs i k (direct first last e) = all_below needs (length needs) first last e
depends_complete needs i k (through first j last e rest) =
    ways_joined needs (length needs) first j last (depending needs j last rest) (all_below needs (length needs) first j e) (depends_complete needs j last rest)

pub each_depends : EachDepends
each_depends needs i k = (depends_sound needs (length needs) i k, depends_complete needs i k)
