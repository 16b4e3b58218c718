-- How wide a type is and how deep it nests, and which types are good.
use Rattle.std.specs.Prelude.{◌≡◌, ℕ, Bool, ◌+◌, ◌*◌, ◌≤◌, false, ◌||◌, List, [], ◌∷◌, sum, map, max, All}
use Rattle.std.specs.List.{sum_by}
use Rattle.std.specs.Str.{bytes_eq}
use Rattle.design_lex.specs.declared.limits.TheConstants.{WIDEST_TYPE}
use Rattle.design_grammar.specs.Names.{IsName}
use Rattle.channel_types.specs.declared.esi_type.EsiType.{EsiType}
use Rattle.channel_types.specs.declared.esi_type.EsiType.TheOpen.{EsiType-F, Field-F}
use Rattle.channel_types.specs.declared.esi_type.EsiType.TheFolds.{fold-EsiType, fold-Field, every-EsiType, every-Field}
use Rattle.channel_types.specs.declared.esi_type.Field.{Field}
use Rattle.channel_types.specs.declared.limits.TheConstants.{OPEN_TYPES}

-- The width of a type in bits: `void` is one bit, a struct's fields add up, and an array is count times its item.
abbrev pub width_step : EsiType-F ℕ ℕ → ℕ
width_step (EsiType-F.Bits class width) = width
width_step EsiType-F.Void = 1
width_step (EsiType-F.Struct fields) = sum fields
width_step (EsiType-F.Array item count) = count * item

abbrev pub field_width_step : Field-F ℕ ℕ → ℕ
field_width_step f = f.ty

abbrev pub width_of : EsiType → ℕ
width_of = fold-EsiType ℕ ℕ width_step field_width_step

abbrev pub field_width : Field → ℕ
field_width = fold-Field ℕ ℕ width_step field_width_step

-- the greatest of some numbers, 0 of none
abbrev pub greatest : List ℕ → ℕ
greatest [] = 0
greatest (n ∷ ns) = max n (greatest ns)

-- How many types stand inside one another, the type itself counted.
abbrev pub nesting_step : EsiType-F ℕ ℕ → ℕ
nesting_step (EsiType-F.Bits class width) = 1
nesting_step EsiType-F.Void = 1
nesting_step (EsiType-F.Struct fields) = greatest fields + 1
nesting_step (EsiType-F.Array item count) = item + 1

abbrev pub nesting_of : EsiType → ℕ
nesting_of = fold-EsiType ℕ ℕ nesting_step field_width_step

abbrev pub field_nesting : Field → ℕ
field_nesting = fold-Field ℕ ℕ nesting_step field_width_step

-- the name of a field
abbrev pub name_of : Field → List ℕ
name_of f = f.name

-- the word is one of these
abbrev pub stands_in : List ℕ → List (List ℕ) → Bool
stands_in word [] = false
stands_in word (w ∷ ws) = bytes_eq word w || stands_in word ws

-- a word stands there twice
abbrev pub has_repeat : List (List ℕ) → Bool
has_repeat [] = false
has_repeat (w ∷ ws) = stands_in w ws || has_repeat ws

-- the width of a type, by its parts
abbrev pub level_width : EsiType-F EsiType Field → ℕ
level_width (EsiType-F.Bits class width) = width
level_width EsiType-F.Void = 1
level_width (EsiType-F.Struct fields) = sum_by field_width fields
level_width (EsiType-F.Array item count) = count * width_of item

-- the names of a struct's fields, none of any other type
abbrev pub level_names : EsiType-F EsiType Field → List (List ℕ)
level_names (EsiType-F.Struct fields) = map name_of fields
level_names level = []

-- A type is of a good width, and its fields have names of their own.
pub record IsLevel (level : EsiType-F EsiType Field) : Type 0 where
  pub low : 1 ≤ level_width level
  pub high : level_width level ≤ WIDEST_TYPE
  pub names : All IsName (level_names level)
  pub distinct : has_repeat (level_names level) ≡ false

-- it and every type in it
abbrev pub IsEachGood : EsiType → Type 0
IsEachGood = every-EsiType IsLevel (λ f. Unit {0})

abbrev pub IsGoodField : Field → Type 0
IsGoodField = every-Field IsLevel (λ f. Unit {0})

-- A type is good where it and every type in it has a width of 1 to `WIDEST_TYPE` bits and field names that are names of the
-- design text and distinct, and at most `OPEN_TYPES` types stand inside one another.
pub record IsGoodType (ty : EsiType) : Type 0 where
  pub each : IsEachGood ty
  pub nesting : nesting_of ty ≤ OPEN_TYPES
