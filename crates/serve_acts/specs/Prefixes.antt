-- Lists that begin with others.
use Rattle.std.specs.Prelude.{◌≡◌, ℕ, Bool, true, false, List, [], ◌∷◌, ◌++◌, length}
use Rattle.std.specs.List.{list_any}

-- the whole begins with the front
pub record Begins {A : Type 0} (front whole : List A) : Type 0 where
  pub rest : List A
  pub is : whole ≡ front ++ rest

-- these stand in the whole from that place on
pub record IsSegment {A : Type 0} (whole part : List A) (from : ℕ) : Type 0 where
  pub before : List A
  pub after : List A
  pub is : whole ≡ before ++ (part ++ after)
  pub place : length before ≡ from

-- the test holds of one of them at most
abbrev pub AtMostOne : {A : Type 0} → (A → Bool) → List A → Type 0
AtMostOne test [] = Unit {0}
AtMostOne test (x ∷ xs) = (test x ≡ true → list_any test xs ≡ false) × AtMostOne test xs
