-- What an expression means: its value over values of its variables, which are words of their types, the lowest bit first.
use Rattle.std.specs.Prelude.{ℕ, zero, suc, ◌+◌, ◌-◌, ◌^◌, ◌==◌, ◌&&◌, ◌||◌, if◌then◌else◌, nat_lt, not, map, List, [], ◌∷◌, ◌++◌, Ok, Err, length, take, drop, slice_range}
use Rattle.std.specs.List.{sum_by}
use Rattle.std.specs.Bool.{xor}
use Rattle.std.specs.Str.{bytes_eq}
use Rattle.esi_base.specs.Bits.{number_of, bits_of, zip_bits, same_bits}
use Rattle.channel_types.specs.declared.esi_type.EsiType.{EsiType}
use Rattle.channel_types.specs.declared.esi_type.EsiType.TheOpen.{EsiType-F}
use Rattle.channel_types.specs.declared.esi_type.EsiType.TheViews.{out-EsiType}
use Rattle.channel_types.specs.declared.esi_type.Field.{Field}
use Rattle.channel_types.specs.Types.{width_of, field_width}
use Rattle.netlist.specs.Nets.{Bits}
use Rattle.netlist.specs.Formulas.{first_highest, first_lowest}
use Rattle.design_tree.specs.declared.operators.Binary.{Binary}
use Rattle.design_tree.specs.declared.operators.Binary.TheVariants.{And, Or, Xor, Add, Sub, Eq, Lt, Cat}
use Rattle.design_tree.specs.declared.expression.Suffix.{Suffix}
use Rattle.design_tree.specs.declared.expression.Suffix.TheVariants as X
use Rattle.design_tree.specs.declared.expression.Expression.{Expression}
use Rattle.design_tree.specs.declared.expression.Expression.TheOpen.{Expression-F}
use Rattle.design_tree.specs.declared.expression.Expression.TheFolds.{fold-Expression, map-Expression}
use Rattle.expression_types.specs.Views.{Variable}
use Rattle.expression_types.specs.Typing.{Typing, typed_step}

-- ---- variables

-- the word of the first variable of a name
abbrev pub value_at : List ℕ → List Variable → List Bits → Bits
value_at name [] words = []
value_at name (v ∷ vs) [] = []
value_at name (v ∷ vs) (word ∷ words) = if bytes_eq v.name name then word else value_at name vs words

-- ---- parts of values

-- The bits of a field among those of a struct: the first field stands highest, the others below it.
abbrev pub field_bits : List ℕ → List Field → Bits → Bits
field_bits name [] bits = []
field_bits name (f ∷ fs) bits = if bytes_eq f.name name then drop (sum_by field_width fs) bits else field_bits name fs (take (sum_by field_width fs) bits)

-- The bits of an element among those of an array: element 0 stands lowest, the others above it.
abbrev pub element_bits : ℕ → ℕ → Bits → Bits
element_bits width zero bits = take width bits
element_bits width (suc index) bits = element_bits width index (drop width bits)

abbrev pub level_part_bits : EsiType-F EsiType Field → Suffix → Bits → Bits
level_part_bits (EsiType-F.Struct fields) (X.Field name) bits = field_bits name.octets fields bits
level_part_bits (EsiType-F.Array item count) (X.Element index) bits = element_bits (width_of item) index.value bits
level_part_bits level suffix bits = []

-- the bits of the part of a value that a suffix takes
unfoldable pub part_bits : EsiType → Suffix → Bits → Bits
part_bits ty suffix bits = level_part_bits (out-EsiType ty) suffix bits

-- the type of the first field of a name
abbrev pub field_type : EsiType → List ℕ → List Field → EsiType
field_type ty name [] = ty
field_type ty name (f ∷ fs) = if bytes_eq f.name name then f.ty else field_type ty name fs

abbrev pub level_part_type : EsiType → EsiType-F EsiType Field → Suffix → EsiType
level_part_type ty (EsiType-F.Struct fields) (X.Field name) = field_type ty name.octets fields
level_part_type ty (EsiType-F.Array item count) (X.Element index) = item
level_part_type ty level suffix = ty

unfoldable pub part_type : EsiType → Suffix → EsiType
part_type ty suffix = level_part_type ty (out-EsiType ty) suffix

-- each suffix takes its part of what those before it give
abbrev pub parts_bits : List Suffix → EsiType → Bits → Bits
parts_bits [] ty bits = bits
parts_bits (suffix ∷ suffixes) ty bits = parts_bits suffixes (part_type ty suffix) (part_bits ty suffix bits)

-- ---- structs and arrays of parts

abbrev pub level_made : EsiType-F EsiType Field → List Bits → Bits
level_made (EsiType-F.Struct fields) parts = first_highest parts
level_made (EsiType-F.Array item count) parts = first_lowest parts
level_made level parts = []

-- a struct's first field stands highest, an array's first element lowest
unfoldable pub made_bits : EsiType → List Bits → Bits
made_bits ty parts = level_made (out-EsiType ty) parts

-- ---- operators of two operands

abbrev pub pair_bits : Binary → Bits → Bits → Bits
pair_bits And left right = zip_bits ◌&&◌ left right
pair_bits Or left right = zip_bits ◌||◌ left right
pair_bits Xor left right = zip_bits xor left right
pair_bits Add left right = bits_of (length left) (number_of left + number_of right)
pair_bits Sub left right = bits_of (length left) (number_of left + 2 ^ length left - number_of right)
pair_bits Eq left right = same_bits left right ∷ []
pair_bits Lt left right = nat_lt (number_of left) (number_of right) ∷ []
pair_bits Cat left right = right ++ left

-- ---- expressions

-- the value of an expression, beside what it is typed as, by which its suffixes are read
pub record Valued : Type 0 where
  pub typing : Typing
  pub bits : Bits

abbrev pub typing_in : Valued → Typing
typing_in v = v.typing

abbrev pub bits_in : Valued → Bits
bits_in v = v.bits

abbrev pub parts_valued : List Suffix → Typing → Bits → Bits
parts_valued suffixes (Ok t) bits = parts_bits suffixes t.ty bits
parts_valued suffixes (Err at) bits = []

-- one line for each kind of expression
abbrev pub bits_step : List Variable → List Bits → Expression-F Valued → Bits
bits_step vs words (Expression-F.Variable name) = value_at name.octets vs words
bits_step vs words (Expression-F.Part of suffixes) = parts_valued suffixes of.typing of.bits
bits_step vs words (Expression-F.Literal at ty value) = bits_of (width_of ty) value.value
bits_step vs words (Expression-F.Make at ty parts) = made_bits ty (map bits_in parts)
bits_step vs words (Expression-F.Cast at ty of) = of.bits
bits_step vs words (Expression-F.Zext at width of) = bits_of width.value (number_of of.bits)
bits_step vs words (Expression-F.Slice at high low of) = slice_range of.bits low.value (high.value + 1)
bits_step vs words (Expression-F.Not at of) = map not of.bits
bits_step vs words (Expression-F.Binary at operator left right) = pair_bits operator left.bits right.bits
bits_step vs words (Expression-F.Mux at condition one other) = if number_of condition.bits == 1 then one.bits else other.bits

abbrev pub valued_step : List Variable → List Bits → Expression-F Valued → Valued
valued_step vs words layer = record { typing = typed_step vs (map-Expression Valued Typing typing_in layer); bits = bits_step vs words layer }

abbrev pub valued : List Variable → List Bits → Expression → Valued
valued vs words = fold-Expression Valued (valued_step vs words)

-- The value of an expression that fits, over words of its variables.
abbrev pub mean : List Variable → List Bits → Expression → Bits
mean vs words e = (valued vs words e).bits

-- ---- the law

abbrev pub variable_width : Variable → ℕ
variable_width v = width_of v.ty
