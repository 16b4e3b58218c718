-- Packing: the bits of a value of a type, the least significant bit first.
use Rattle.std.specs.Prelude.{◌≡◌, ℕ, Bool, true, false, List, [], ◌∷◌, ◌++◌, length, map}
use Rattle.std.specs.List.{list_all}
use Rattle.channel_types.specs.declared.esi_type.EsiType.{EsiType}
use Rattle.channel_types.specs.declared.esi_type.EsiType.TheOpen.{EsiType-F, Field-F}
use Rattle.channel_types.specs.declared.esi_type.EsiType.TheFolds.{fold-EsiType, fold-Field}
use Rattle.channel_types.specs.declared.esi_type.Field.{Field}
use Rattle.bit_packing.specs.declared.value.Value.{Value}
use Rattle.bit_packing.specs.declared.value.Value.TheOpen.{Value-F}
use Rattle.bit_packing.specs.declared.value.Value.TheViews.{out-Value}
use Rattle.bit_packing.specs.Fitting.{fits_fields, fits_of, field_fits}

-- how a value is packed
abbrev pub Pack : Type 0
Pack = Value → List Bool

-- the bits of a number, none of any other value
abbrev pub own_bits : Value-F Value → List Bool
own_bits (Value-F.Number bits) = bits
own_bits Value-F.Void = []
own_bits (Value-F.Struct values) = []
own_bits (Value-F.Array values) = []

-- the values of a struct's fields or the items of an array, none of any other value
abbrev pub parts_of : Value-F Value → List Value
parts_of (Value-F.Number bits) = []
parts_of Value-F.Void = []
parts_of (Value-F.Struct values) = values
parts_of (Value-F.Array values) = values

-- values packed in step, the first one most significant
abbrev pub first_highest : List Pack → List Value → List Bool
first_highest [] values = []
first_highest (pack ∷ packs) [] = []
first_highest (pack ∷ packs) (v ∷ vs) = first_highest packs vs ++ pack v

-- values packed in one way, the first one least significant
abbrev pub first_lowest : Pack → List Value → List Bool
first_lowest pack [] = []
first_lowest pack (v ∷ vs) = pack v ++ first_lowest pack vs

abbrev pub bits_step : EsiType-F Pack Pack → Pack
bits_step (EsiType-F.Bits class width) v = own_bits (out-Value v)
bits_step EsiType-F.Void v = false ∷ []
bits_step (EsiType-F.Struct packs) v = first_highest packs (parts_of (out-Value v))
bits_step (EsiType-F.Array pack count) v = first_lowest pack (parts_of (out-Value v))

abbrev pub field_bits_step : Field-F Pack Pack → Pack
field_bits_step f = f.ty

-- A number gives its own bits, `void` one bit that is 0, a struct the bits of its fields, the first field most
-- significant, and an array the bits of its items, the first item least significant.
abbrev pub bits_of_value : EsiType → Value → List Bool
bits_of_value = fold-EsiType Pack Pack bits_step field_bits_step

abbrev pub field_bits : Field → Value → List Bool
field_bits = fold-Field Pack Pack bits_step field_bits_step

-- The value fits the type and these are its bits.
pub record PacksTo (ty : EsiType) (v : Value) (bits : List Bool) : Type 0 where
  pub fits : fits_of ty v ≡ true
  pub packs : bits_of_value ty v ≡ bits

-- These bits are those of some value that fits the type.
abbrev pub IsPacking : List Bool → EsiType → Type 0
IsPacking bits ty = ∥ ((v : Value) × PacksTo ty v bits) ∥₁

-- What packs to these bits is this value alone.
abbrev pub IsOnlyValue : EsiType → List Bool → Value → Type 0
IsOnlyValue ty bits v = (other : Value) → PacksTo ty other bits → other ≡ v

-- The values fit a struct's fields and these are their bits.
pub record PackFields (fields : List Field) (values : List Value) (bits : List Bool) : Type 0 where
  pub fits : fits_fields (map field_fits fields) values ≡ true
  pub packs : first_highest (map field_bits fields) values ≡ bits

-- These are so many values that fit an array's item, and these are their bits.
pub record PackItems (item : EsiType) (count : ℕ) (values : List Value) (bits : List Bool) : Type 0 where
  pub count_of : length values ≡ count
  pub fits : list_all (fits_of item) values ≡ true
  pub packs : first_lowest (bits_of_value item) values ≡ bits
