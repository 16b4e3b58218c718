-- The first of some places.
use Rattle.std.proofs.Common.{◌≡◌, ℕ, List, [], ◌∷◌, ◌++◌, Option, Some, None, refl, ap}
use Rattle.std.specs.Prelude.{Ok, Err}
use Rattle.body_order.specs.Signals.{first_of, or_else}
use Rattle.channel_typing.specs.Walk.{first_or}

pub first_more : (first : Option ℕ) (xs ys : List ℕ) → or_else (or_else first (first_of xs)) (first_of ys) ≡ or_else first (first_of (xs ++ ys))
first_more None [] ys = refl
first_more None (x ∷ xs) ys = refl
first_more (Some f) xs ys = refl

pub first_alone : (first : Option ℕ) → or_else first None ≡ first
first_alone None = refl
first_alone (Some f) = refl

-- where there is a first place it is the answer, else the value is
pub first_refused : {A : Type 0} (xs : List ℕ) (at : ℕ) (value : A) → first_of xs ≡ Some at → first_or xs value ≡ Err at
first_refused [] at value e = absurd (cc)
first_refused (x ∷ xs) at value e = ap (λ k. Err k) (some_one x at e)
  where
    some_one : (a b : ℕ) → Some a ≡ Some b → a ≡ b
    some_one a b e = cc

pub none_refused : {A : Type 0} (xs : List ℕ) (value : A) → first_of xs ≡ None → first_or xs value ≡ Ok value
none_refused [] value e = refl
none_refused (x ∷ xs) value e = absurd (cc)
