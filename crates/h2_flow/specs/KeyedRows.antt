-- Rows in a list, each of a number, and one number's row among them.
use Rattle.std.specs.Prelude.{◌≡◌, ℕ, ◌<◌, ◌==◌, Bool, find, Option, Some, None, List, [], ◌∷◌, length, slice_set, remove, if◌then◌else◌}
use Rattle.std.specs.List.{slice_index_or}

-- the row is the number's
abbrev pub is_row_of : {A : Type 0} → (A → ℕ) → ℕ → A → Bool
is_row_of key number row = key row == number

-- the row of a number, None where there is none
abbrev pub row_at : {A : Type 0} → (A → ℕ) → ℕ → List A → Option A
row_at key number rows = find (is_row_of key number) rows

-- the rows, with this one for its number
abbrev pub rows_with : {A : Type 0} → (A → ℕ) → A → List A → List A
rows_with key new [] = []
rows_with key new (row ∷ rows) = if is_row_of key (key new) row then new ∷ rows else row ∷ rows_with key new rows

-- the rows without this number's
abbrev pub rows_without : {A : Type 0} → (A → ℕ) → ℕ → List A → List A
rows_without key number [] = []
rows_without key number (row ∷ rows) = if is_row_of key number row then rows else row ∷ rows_without key number rows

-- no row is the number's
pub record IsAbsent {A : Type 0} (key : A → ℕ) (number : ℕ) (rows : List A) : Type 0 where
  pub found : row_at key number rows ≡ None
  pub put : (new : A) → key new ≡ number → rows_with key new rows ≡ rows
  pub removed : rows_without key number rows ≡ rows

-- the number's row stands at this index
pub record IsIndexOf {A : Type 0} (key : A → ℕ) (number : ℕ) (rows : List A) (at : ℕ) : Type 0 where
  pub within : at < length rows
  pub found : (other : A) → row_at key number rows ≡ Some (slice_index_or rows at other)
  pub named : (other : A) → key (slice_index_or rows at other) ≡ number
  pub put : (new : A) → key new ≡ number → rows_with key new rows ≡ slice_set rows at new
  pub removed : rows_without key number rows ≡ remove rows at

-- no two rows are one number's
abbrev pub AreApart : {A : Type 0} → (A → ℕ) → List A → Type 0
AreApart key [] = Unit {0}
AreApart key (row ∷ rows) = (row_at key (key row) rows ≡ None) × AreApart key rows
