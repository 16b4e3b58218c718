-- Names that stand twice, and names that are none of the known ones.
use Rattle.std.specs.Prelude.{◌≡◌, ℕ, List, ◌∷◌, ◌++◌, Contains}
use Rattle.name_tables.specs.Labels.{Label, Occurrence}

-- Two of the names are one, and the later one stands at the place.
pub record IsRepeat (names : List Occurrence) (at : ℕ) : Type 0 where
  pub before : List Occurrence
  pub earlier : Occurrence
  pub between : List Occurrence
  pub later : Occurrence
  pub after : List Occurrence
  pub split : names ≡ before ++ earlier ∷ (between ++ later ∷ after)
  pub same : earlier.label ≡ later.label
  pub stands : later.at ≡ at

-- One of the names is none of the known ones, and stands at the place.
pub record IsUnknown (known : List Label) (names : List Occurrence) (at : ℕ) : Type 0 where
  pub name : Occurrence
  pub there : Contains names name
  pub new : Contains known name.label → ⊥
  pub stands : name.at ≡ at
