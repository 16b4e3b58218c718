-- The test that two types are one, as a value that computes: definitions that choose by it can be worked out.
use Rattle.std.specs.Prelude.{Bool, true, false, ◌&&◌, ◌==◌, List, [], ◌∷◌}
use Rattle.std.specs.Str.{bytes_eq}
use Rattle.design_lex.specs.declared.token.Class.{Class}
use Rattle.design_lex.specs.declared.token.Class.TheVariants.{Unsigned, Signed, Plain}
use Rattle.channel_types.specs.declared.esi_type.EsiType.{EsiType}
use Rattle.channel_types.specs.declared.esi_type.EsiType.TheOpen.{EsiType-F, Field-F}
use Rattle.channel_types.specs.declared.esi_type.EsiType.TheViews.{out-EsiType}
use Rattle.channel_types.specs.declared.esi_type.EsiType.TheFolds.{fold-EsiType, fold-Field}
use Rattle.channel_types.specs.declared.esi_type.Field.{Field}

abbrev pub same_class : Class → Class → Bool
same_class Unsigned Unsigned = true
same_class Signed Signed = true
same_class Plain Plain = true
same_class class other = false

-- a test of a type, and of a field
abbrev pub TypeTest : Type 0
TypeTest = EsiType → Bool

abbrev pub FieldTest : Type 0
FieldTest = Field → Bool

-- there is a field for each test, and it passes
abbrev pub same_fields : List FieldTest → List Field → Bool
same_fields [] [] = true
same_fields [] (f ∷ fs) = false
same_fields (test ∷ tests) [] = false
same_fields (test ∷ tests) (f ∷ fs) = test f && same_fields tests fs

-- the kinds are one, and so are the classes, widths, fields, items and counts
abbrev pub same_level : EsiType-F TypeTest FieldTest → EsiType-F EsiType Field → Bool
same_level (EsiType-F.Bits class width) (EsiType-F.Bits other n) = same_class class other && (width == n)
same_level EsiType-F.Void EsiType-F.Void = true
same_level (EsiType-F.Struct tests) (EsiType-F.Struct fields) = same_fields tests fields
same_level (EsiType-F.Array test count) (EsiType-F.Array item n) = test item && (count == n)
same_level level other = false

abbrev pub same_step : EsiType-F TypeTest FieldTest → TypeTest
same_step level = λ ty. same_level level (out-EsiType ty)

abbrev pub same_field_step : Field-F TypeTest FieldTest → FieldTest
same_field_step f = λ other. bytes_eq f.name other.name && f.ty other.ty

abbrev pub same_types : EsiType → TypeTest
same_types = fold-EsiType TypeTest FieldTest same_step same_field_step

abbrev pub same_field : Field → FieldTest
same_field = fold-Field TypeTest FieldTest same_step same_field_step
