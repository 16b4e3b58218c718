-- Marks on places, in a range outside of which there are none.
use Rattle.std.specs.Prelude.{◌≡◌, ℕ, ◌<◌, ◌≤◌, Bool, true, false, List, length, max}
use Rattle.std.proofs.Common.{subst, inl, inr, arith}
use Rattle.std.proofs.lemmas.Bool.{cases_lt}
use Rattle.cycle_sim.specs.Changes.{is_marked}

-- there are no marks before a place, nor at another one and behind it
pub record IsWithin (marks : List Bool) (from end : ℕ) : Type 0 where
  pub reach : end ≤ length marks
  pub low : (place : ℕ) → place < from → is_marked marks place ≡ false
  pub high : (place : ℕ) → end ≤ place → is_marked marks place ≡ false

-- no place is marked, from one place on
pub record NoneFrom (marks : List Bool) (from : ℕ) : Type 0 where
  pub none : (place : ℕ) → from ≤ place → is_marked marks place ≡ false

-- a place is the first that is marked, from another one on
pub record IsFirstMark (marks : List Bool) (from place : ℕ) : Type 0 where
  pub from_there : from ≤ place
  pub within : place < length marks
  pub marked : is_marked marks place ≡ true
  pub none_between : (k : ℕ) → from ≤ k → k < place → is_marked marks k ≡ false

-- what a search finds between the bounds
pub found : (marks read : List Bool) (low end from start place : ℕ) → IsWithin marks low end → read ≡ marks → start ≡ max low from → place < end
    → (start ≤ end → start ≤ place) → (end ≤ start → place ≡ end) → (place < end → is_marked read place ≡ true) → ((k : ℕ) → start ≤ k → k < place → is_marked read k ≡ false)
    → IsFirstMark marks from place
found marks read low end from start place w e s lt behind past marked none = record {
  from_there = elim (cases_lt start end) [ inl l ↦ let b = behind (omega arith) in omega arith | inr ge ↦ let p = past ge in absurd (omega arith) ];
  within = let r = w.reach in omega arith;
  marked = subst (λ ms. is_marked ms place ≡ true) e (marked lt);
  none_between = λ k l m.
      elim (cases_lt k start) [
        | inl lt' ↦ w.low k (omega arith)
        | inr ge ↦ subst (λ ms. is_marked ms k ≡ false) e (none k ge m)
      ];
}
