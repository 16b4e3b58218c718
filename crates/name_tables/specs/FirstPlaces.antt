-- The first place at which a rule is broken.
use Rattle.std.specs.Prelude.{ℕ, ◌≤◌, Bool, if◌then◌else◌, Option, Some, None, List, [], ◌∷◌, min}

-- The rule is broken at the place, and at none before it.
pub record IsFirstPlace (Broken : ℕ → Type 0) (at : ℕ) : Type 0 where
  pub here : Broken at
  pub first : (other : ℕ) → Broken other → at ≤ other

-- The rule is broken at no place.
abbrev pub Nowhere : (ℕ → Type 0) → Type 0
Nowhere Broken = (at : ℕ) → Broken at → ⊥

-- The first place at which the rule is broken is reported, and none exactly where it is broken nowhere.
abbrev pub Reports : (ℕ → Type 0) → Option ℕ → Type 0
Reports Broken None = Nowhere Broken
Reports Broken (Some at) = IsFirstPlace Broken at

-- the earlier of two places
abbrev pub earlier : Option ℕ → ℕ → Option ℕ
earlier None at = Some at
earlier (Some first) at = Some (min first at)

-- the least of some places, and of one found before
abbrev pub least_from : Option ℕ → List ℕ → Option ℕ
least_from first [] = first
least_from first (at ∷ more) = least_from (earlier first at) more

-- the least of some places
abbrev pub least : List ℕ → Option ℕ
least = least_from None

-- the place found so far, after a name that is new or stood before
abbrev pub found_after : Option ℕ → Bool → ℕ → Option ℕ
found_after place is_new at = if is_new then place else earlier place at
