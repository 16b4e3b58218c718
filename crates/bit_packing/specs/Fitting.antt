-- Which values are of a type.
use Rattle.std.specs.Prelude.{ℕ, Bool, true, false, ◌&&◌, ◌==◌, List, [], ◌∷◌, length}
use Rattle.std.specs.List.{list_all}
use Rattle.channel_types.specs.declared.esi_type.EsiType.{EsiType}
use Rattle.channel_types.specs.declared.esi_type.EsiType.TheOpen.{EsiType-F, Field-F}
use Rattle.channel_types.specs.declared.esi_type.EsiType.TheFolds.{fold-EsiType, fold-Field}
use Rattle.channel_types.specs.declared.esi_type.Field.{Field}
use Rattle.bit_packing.specs.declared.value.Value.{Value}
use Rattle.bit_packing.specs.declared.value.Value.TheOpen.{Value-F}
use Rattle.bit_packing.specs.declared.value.Value.TheViews.{out-Value}

-- a test of a value
abbrev pub Test : Type 0
Test = Value → Bool

-- each value passes the test at its index
abbrev pub pass_each : List Test → List Value → Bool
pass_each [] values = true
pass_each (test ∷ tests) [] = true
pass_each (test ∷ tests) (v ∷ vs) = test v && pass_each tests vs

-- there is a value for each test, and it passes
abbrev pub fits_fields : List Test → List Value → Bool
fits_fields tests values = (length values == length tests) && pass_each tests values

-- a value of each kind of type, by what it is
abbrev pub fits_bits : ℕ → Value-F Value → Bool
fits_bits width (Value-F.Number bits) = length bits == width
fits_bits width Value-F.Void = false
fits_bits width (Value-F.Struct values) = false
fits_bits width (Value-F.Array values) = false

abbrev pub fits_void : Value-F Value → Bool
fits_void (Value-F.Number bits) = false
fits_void Value-F.Void = true
fits_void (Value-F.Struct values) = false
fits_void (Value-F.Array values) = false

abbrev pub fits_struct : List Test → Value-F Value → Bool
fits_struct tests (Value-F.Number bits) = false
fits_struct tests Value-F.Void = false
fits_struct tests (Value-F.Struct values) = fits_fields tests values
fits_struct tests (Value-F.Array values) = false

abbrev pub fits_array : Test → ℕ → Value-F Value → Bool
fits_array test count (Value-F.Number bits) = false
fits_array test count Value-F.Void = false
fits_array test count (Value-F.Struct values) = false
fits_array test count (Value-F.Array values) = (length values == count) && list_all test values

abbrev pub fits_step : EsiType-F Test Test → Test
fits_step (EsiType-F.Bits class width) v = fits_bits width (out-Value v)
fits_step EsiType-F.Void v = fits_void (out-Value v)
fits_step (EsiType-F.Struct tests) v = fits_struct tests (out-Value v)
fits_step (EsiType-F.Array test count) v = fits_array test count (out-Value v)

abbrev pub field_fits_step : Field-F Test Test → Test
field_fits_step f = f.ty

-- A value fits a type: a number of its width, `void` for `void`, a value for each field of a struct that fits the
-- field's type, and as many items as an array has, each of which fits.
abbrev pub fits_of : EsiType → Test
fits_of = fold-EsiType Test Test fits_step field_fits_step

abbrev pub field_fits : Field → Test
field_fits = fold-Field Test Test fits_step field_fits_step
