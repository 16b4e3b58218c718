-- Names as they are written, with their places.
use Rattle.std.specs.Prelude.{ℕ, Bool, true, false, ◌&&◌, ◌==◌, Option, Some, None, List, bytes_eq}

-- A name as it is written. An application id and a dot may stand before it: `x`, `a.x` or `a[1].x`. The name of an
-- application id may have an index itself: `a[1]`.
pub record Label : Type 0 where
  -- the name of the id before the dot
  pub owner : Option (List ℕ)
  pub index : Option ℕ
  pub name : List ℕ

-- a name at its place
pub record Occurrence : Type 0 where
  pub label : Label
  pub at : ℕ

abbrev pub label_at : Occurrence → Label
label_at o = o.label

abbrev pub place_at : Occurrence → ℕ
place_at o = o.at

-- ---- whether two names are one

abbrev pub same_owner : Option (List ℕ) → Option (List ℕ) → Bool
same_owner None None = true
same_owner None (Some b) = false
same_owner (Some a) None = false
same_owner (Some a) (Some b) = bytes_eq a b

abbrev pub same_index : Option ℕ → Option ℕ → Bool
same_index None None = true
same_index None (Some b) = false
same_index (Some a) None = false
same_index (Some a) (Some b) = a == b

abbrev pub same_label : Label → Label → Bool
same_label a b = same_owner a.owner b.owner && (same_index a.index b.index && bytes_eq a.name b.name)
