-- Which bits of a type are those of its voids, and whether one of them is 1.
use Rattle.std.specs.Prelude.{◌≡◌, ℕ, zero, suc, Bool, true, false, ◌&&◌, ◌||◌, List, [], ◌∷◌, ◌++◌, replicate}
use Rattle.channel_types.specs.declared.esi_type.EsiType.{EsiType}
use Rattle.channel_types.specs.declared.esi_type.EsiType.TheOpen.{EsiType-F, Field-F}
use Rattle.channel_types.specs.declared.esi_type.EsiType.TheFolds.{fold-EsiType, fold-Field}
use Rattle.channel_types.specs.declared.esi_type.Field.{Field}

-- a mark for each bit, the least significant bit first
abbrev pub Marks : Type 0
Marks = List Bool

-- marks one above the other, the first ones most significant
abbrev pub stacked : List Marks → Marks
stacked [] = []
stacked (marks ∷ more) = stacked more ++ marks

-- the same marks so often
abbrev pub repeated : ℕ → Marks → Marks
repeated zero marks = []
repeated (suc count) marks = marks ++ repeated count marks

abbrev pub voids_step : EsiType-F Marks Marks → Marks
voids_step (EsiType-F.Bits class width) = replicate width false
voids_step EsiType-F.Void = true ∷ []
voids_step (EsiType-F.Struct fields) = stacked fields
voids_step (EsiType-F.Array item count) = repeated count item

abbrev pub field_voids_step : Field-F Marks Marks → Marks
field_voids_step f = f.ty

-- the bits of a type's voids are marked, and no others
abbrev pub voids_of : EsiType → Marks
voids_of = fold-EsiType Marks Marks voids_step field_voids_step

abbrev pub field_voids : Field → Marks
field_voids = fold-Field Marks Marks voids_step field_voids_step

-- a bit that is marked is 1
abbrev pub has_marked_one : Marks → List Bool → Bool
has_marked_one [] bits = false
has_marked_one (mark ∷ marks) [] = false
has_marked_one (mark ∷ marks) (b ∷ bits) = (mark && b) || has_marked_one marks bits

-- Among these bits of a value of the type, one of a void is 1.
abbrev pub SetsVoid : List Bool → EsiType → Type 0
SetsVoid bits ty = has_marked_one (voids_of ty) bits ≡ true
