-- The type of an expression and its formula, or the place of the innermost expression that breaks its condition.
use Rattle.std.specs.Prelude.{ℕ, ◌+◌, ◌-◌, ◌*◌, ◌^◌, ◌==◌, ◌&&◌, ◌||◌, if◌then◌else◌, nat_lt, nat_le, not, Bool, true, false, List, [], ◌∷◌, ◌++◌, Option, Some, None, Result, Ok, Err, length, replicate}
use Rattle.std.specs.List.{sum_by}
use Rattle.std.specs.Str.{bytes_eq}
use Rattle.esi_base.specs.Answers.{◌>>=◌}
use Rattle.esi_base.specs.Bits.{bits_of}
use Rattle.design_lex.specs.declared.token.Class.{Class}
use Rattle.design_lex.specs.declared.token.Class.TheVariants.{Unsigned, Signed, Plain}
use Rattle.design_lex.specs.declared.limits.TheConstants.{WIDEST_TYPE}
use Rattle.channel_types.specs.declared.esi_type.EsiType.{EsiType}
use Rattle.channel_types.specs.declared.esi_type.EsiType.TheVariants as T
use Rattle.channel_types.specs.declared.esi_type.EsiType.TheOpen.{EsiType-F, Field-F}
use Rattle.channel_types.specs.declared.esi_type.EsiType.TheViews.{out-EsiType}
use Rattle.channel_types.specs.declared.esi_type.EsiType.TheFolds.{fold-EsiType, fold-Field}
use Rattle.channel_types.specs.declared.esi_type.Field.{Field}
use Rattle.channel_types.specs.Types.{width_of, field_width}
use Rattle.channel_types.specs.SameTypes.{same_types}
use Rattle.netlist.specs.declared.limits.TheConstants.{MAX_NUMBER_WIDTH}
use Rattle.netlist.specs.declared.formula.Half.{Half}
use Rattle.netlist.specs.declared.formula.Half.TheVariants.{High, Low}
use Rattle.netlist.specs.declared.formula.Formula.{Formula}
use Rattle.netlist.specs.declared.formula.Formula.TheVariants as F
use Rattle.netlist.specs.Nets.{Bits}
use Rattle.design_tree.specs.declared.leaves.Name.{Name}
use Rattle.design_tree.specs.declared.operators.Binary.{Binary}
use Rattle.design_tree.specs.declared.operators.Binary.TheVariants.{And, Or, Xor, Add, Sub, Eq, Lt, Cat}
use Rattle.design_tree.specs.declared.expression.Suffix.{Suffix}
use Rattle.design_tree.specs.declared.expression.Suffix.TheVariants as X
use Rattle.design_tree.specs.declared.expression.Expression.{Expression}
use Rattle.design_tree.specs.declared.expression.Expression.TheOpen.{Expression-F}
use Rattle.design_tree.specs.declared.expression.Expression.TheFolds.{fold-Expression}
use Rattle.expression_types.specs.declared.number_type.NumberType.{NumberType}
use Rattle.expression_types.specs.Views.{Variable, Typed, Piece, Parts}

-- an expression that fits, or the place of the one that does not
abbrev pub Typing : Type 0
Typing = Result Typed ℕ

abbrev pub made : ℕ → EsiType → Formula → Typing
made at ty formula = Ok (record { at = at; ty = ty; formula = formula })

-- ---- what types are

-- the width of a type, where it is one that values have: 1 to `WIDEST_TYPE` bits, as every type of a design is
abbrev pub ranged : ℕ → Option ℕ
ranged width = if nat_le 1 width && nat_le width WIDEST_TYPE then Some width else None

unfoldable pub value_width : EsiType → Option ℕ
value_width ty = ranged (width_of ty)

-- a bits type
abbrev pub level_number : EsiType-F EsiType Field → Option NumberType
level_number (EsiType-F.Bits class width) = if nat_le 1 width && nat_le width WIDEST_TYPE then Some (record { class = class; width = width }) else None
level_number level = None

unfoldable pub number_type : EsiType → Option NumberType
number_type ty = level_number (out-EsiType ty)

abbrev pub is_unsigned : Class → Bool
is_unsigned Unsigned = true
is_unsigned class = false

abbrev pub is_signed : Class → Bool
is_signed Signed = true
is_signed class = false

-- whether a type is void or has a part that is
abbrev pub any_void : List Bool → Bool
any_void [] = false
any_void (has ∷ rest) = has || any_void rest

abbrev pub void_step : EsiType-F Bool Bool → Bool
void_step (EsiType-F.Bits class width) = false
void_step EsiType-F.Void = true
void_step (EsiType-F.Struct fields) = any_void fields
void_step (EsiType-F.Array item count) = item

abbrev pub field_void_step : Field-F Bool Bool → Bool
field_void_step f = f.ty

abbrev pub has_void : EsiType → Bool
has_void = fold-EsiType Bool Bool void_step field_void_step

abbrev pub field_has_void : Field → Bool
field_has_void = fold-Field Bool Bool void_step field_void_step

-- one bit, a number without sign
abbrev pub BIT : EsiType
BIT = T.Bits Unsigned 1

-- ---- a variable

-- the number of the first variable of a name, and its type
abbrev pub variable_from : Name → ℕ → List Variable → Typing
variable_from name i [] = Err name.at
variable_from name i (v ∷ vs) = if bytes_eq v.name name.octets then made name.at v.ty (F.Var i) else variable_from name (i + 1) vs

-- ---- e.f, e[i]

-- the first field of a name: below it stand the fields behind it
abbrev pub field_piece : List ℕ → List Field → Option Piece
field_piece name [] = None
field_piece name (f ∷ fs) = if bytes_eq f.name name then Some (record { ty = f.ty; low = sum_by field_width fs }) else field_piece name fs

-- an element: below it stand those before it
abbrev pub element_piece : ℕ → ℕ → EsiType → Option Piece
element_piece index count item = if nat_lt index count then Some (record { ty = item; low = index * width_of item }) else None

abbrev pub level_field : EsiType-F EsiType Field → List ℕ → Option Piece
level_field (EsiType-F.Struct fields) name = field_piece name fields
level_field level name = None

abbrev pub level_element : EsiType-F EsiType Field → ℕ → Option Piece
level_element (EsiType-F.Array item count) index = element_piece index count item
level_element level index = None

unfoldable pub field_of : EsiType → List ℕ → Option Piece
field_of ty name = level_field (out-EsiType ty) name

unfoldable pub element_of : EsiType → ℕ → Option Piece
element_of ty index = level_element (out-EsiType ty) index

abbrev pub piece_of : EsiType → Suffix → Option Piece
piece_of ty (X.Field name) = field_of ty name.octets
piece_of ty (X.Element index) = element_of ty index.value

abbrev pub sliced : Typed → Piece → Option ℕ → Typing
sliced of piece None = Err of.at
sliced of piece (Some width) = made of.at piece.ty (F.Slice of.formula (piece.low + width - 1) piece.low)

abbrev pub part_at : Typed → Option Piece → Typing
part_at of None = Err of.at
part_at of (Some piece) = sliced of piece (value_width piece.ty)

abbrev pub part_within : Typed → Suffix → Option ℕ → Typing
part_within of suffix None = Err of.at
part_within of suffix (Some width) = part_at of (piece_of of.ty suffix)

abbrev pub part_of : Typed → Suffix → Typing
part_of of suffix = part_within of suffix (value_width of.ty)

-- each suffix takes its part of what those before it give
abbrev pub parts_of : List Suffix → Typed → Typing
parts_of [] of = Ok of
parts_of (suffix ∷ suffixes) of = part_of of suffix >>= parts_of suffixes

-- ---- lit(T, n)

abbrev pub level_literal : EsiType-F EsiType Field → ℕ → Option Bits
level_literal (EsiType-F.Bits class width) value = if nat_le 1 width && (nat_le width WIDEST_TYPE && nat_lt value (2 ^ width)) then Some (bits_of width value) else None
level_literal EsiType-F.Void value = if value == 0 then Some (bits_of 1 0) else None
level_literal level value = None

-- the word of a number as a value of a bits type, or of 0 as one of `void`
unfoldable pub literal_word : EsiType → ℕ → Option Bits
literal_word ty value = level_literal (out-EsiType ty) value

abbrev pub literal_at : ℕ → EsiType → Option Bits → Typing
literal_at at ty None = Err at
literal_at at ty (Some word) = made at ty (F.Const word)

abbrev pub literal_of : ℕ → EsiType → ℕ → Typing
literal_of at ty value = literal_at at ty (literal_word ty value)

-- ---- make(T, parts)

abbrev pub no_parts : Parts
no_parts = record { types = []; formulas = [] }

abbrev pub with_part : Parts → Typed → Parts
with_part parts t = record { types = parts.types ++ t.ty ∷ []; formulas = parts.formulas ++ t.formula ∷ [] }

-- parts behind those that are typed already
abbrev pub gathered : Parts → List Typing → Result Parts ℕ
gathered before [] = Ok before
gathered before (Ok t ∷ rest) = gathered (with_part before t) rest
gathered before (Err at ∷ rest) = Err at

-- one part for each field, of its type
abbrev pub fields_given : List Field → List EsiType → Bool
fields_given [] [] = true
fields_given [] (ty ∷ types) = false
fields_given (f ∷ fs) [] = false
fields_given (f ∷ fs) (ty ∷ types) = same_types ty f.ty && fields_given fs types

-- as many parts as elements, each of the item's type
abbrev pub all_same : EsiType → List EsiType → Bool
all_same item [] = true
all_same item (ty ∷ types) = same_types ty item && all_same item types

abbrev pub elements_given : EsiType → ℕ → List EsiType → Bool
elements_given item count types = (length types == count) && all_same item types

-- where the parts are those of the type: whether what is joined so far stands above the next part, or below it
abbrev pub level_joined : EsiType-F EsiType Field → List EsiType → Option Half
level_joined (EsiType-F.Struct fields) types = if fields_given fields types then Some High else None
level_joined (EsiType-F.Array item count) types = if elements_given item count types then Some Low else None
level_joined level types = None

unfoldable pub join_of : EsiType → List EsiType → Option Half
join_of ty types = level_joined (out-EsiType ty) types

abbrev pub make_joined : ℕ → EsiType → List Formula → Option Half → Typing
make_joined at ty formulas None = Err at
make_joined at ty formulas (Some so_far) = made at ty (F.Join formulas so_far)

abbrev pub make_within : ℕ → EsiType → Parts → Option ℕ → Typing
make_within at ty parts None = Err at
make_within at ty parts (Some width) = make_joined at ty parts.formulas (join_of ty parts.types)

abbrev pub make_of : ℕ → EsiType → Parts → Typing
make_of at ty parts = make_within at ty parts (value_width ty)

-- ---- cast(T, e)

abbrev pub same_width : Option ℕ → Option ℕ → Bool
same_width (Some a) (Some b) = a == b
same_width (Some a) None = false
same_width None b = false

abbrev pub cast_of : ℕ → EsiType → Typed → Typing
cast_of at ty of = if same_width (value_width ty) (value_width of.ty) && not (has_void ty) then made at ty of.formula else Err at

-- ---- zext(N, e)

abbrev pub extends : NumberType → ℕ → Bool
extends n width = not (is_signed n.class) && (nat_le n.width width && nat_le width WIDEST_TYPE)

abbrev pub extended : Formula → ℕ → Formula
extended formula zero_bits = if zero_bits == 0 then formula else F.Concat (F.Const (replicate zero_bits false)) formula Low

abbrev pub zext_at : ℕ → ℕ → Typed → Option NumberType → Typing
zext_at at width of None = Err at
zext_at at width of (Some n) = if extends n width then made at (T.Bits n.class width) (extended of.formula (width - n.width)) else Err at

abbrev pub zext_of : ℕ → ℕ → Typed → Typing
zext_of at width of = zext_at at width of (number_type of.ty)

-- ---- slice(h, l, e)

abbrev pub slice_at : ℕ → ℕ → ℕ → Typed → Option ℕ → Typing
slice_at at high low of None = Err at
slice_at at high low of (Some width) = if nat_le low high && nat_lt high width then made at (T.Bits Plain (high - low + 1)) (F.Slice of.formula high low) else Err at

abbrev pub slice_of : ℕ → ℕ → ℕ → Typed → Typing
slice_of at high low of = slice_at at high low of (value_width of.ty)

-- ---- not, and, or, xor, add, sub, eq, lt, cat

abbrev pub not_at : ℕ → Typed → Option NumberType → Typing
not_at at of None = Err at
not_at at of (Some n) = made at of.ty (F.Not of.formula)

abbrev pub not_of : ℕ → Typed → Typing
not_of at of = not_at at of (number_type of.ty)

-- the bits type that both are
unfoldable pub common_number : EsiType → EsiType → Option NumberType
common_number left right = if same_types left right then number_type left else None

abbrev pub bitwise_at : EsiType → Option NumberType → Option EsiType
bitwise_at ty None = None
bitwise_at ty (Some n) = Some ty

abbrev pub is_narrow : NumberType → Bool
is_narrow n = nat_le n.width MAX_NUMBER_WIDTH

abbrev pub is_arithmetic : NumberType → Bool
is_arithmetic n = (is_unsigned n.class || is_signed n.class) && is_narrow n

abbrev pub arithmetic_at : EsiType → Option NumberType → Option EsiType
arithmetic_at ty None = None
arithmetic_at ty (Some n) = if is_arithmetic n then Some ty else None

abbrev pub less_at : Option NumberType → Option EsiType
less_at None = None
less_at (Some n) = if is_unsigned n.class && is_narrow n then Some BIT else None

abbrev pub cat_at : Option ℕ → Option ℕ → Option EsiType
cat_at (Some a) (Some b) = if nat_le (a + b) WIDEST_TYPE then Some (T.Bits Plain (a + b)) else None
cat_at (Some a) None = None
cat_at None b = None

-- the type of an operator of two operands, where they fit it
abbrev pub pair_type : Binary → EsiType → EsiType → Option EsiType
pair_type And left right = bitwise_at left (common_number left right)
pair_type Or left right = bitwise_at left (common_number left right)
pair_type Xor left right = bitwise_at left (common_number left right)
pair_type Add left right = arithmetic_at left (common_number left right)
pair_type Sub left right = arithmetic_at left (common_number left right)
pair_type Eq left right = if same_types left right then Some BIT else None
pair_type Lt left right = less_at (common_number left right)
pair_type Cat left right = cat_at (value_width left) (value_width right)

-- its formula
abbrev pub pair_formula : Binary → Formula → Formula → Formula
pair_formula And left right = F.And left right
pair_formula Or left right = F.Or left right
pair_formula Xor left right = F.Xor left right
pair_formula Add left right = F.Add left right
pair_formula Sub left right = F.Sub left right
pair_formula Eq left right = F.Equal left right
pair_formula Lt left right = F.Less left right
pair_formula Cat left right = F.Concat left right High

abbrev pub pair_at : ℕ → Formula → Option EsiType → Typing
pair_at at formula None = Err at
pair_at at formula (Some ty) = made at ty formula

abbrev pub pair_of : ℕ → Binary → Typed → Typed → Typing
pair_of at operator left right = pair_at at (pair_formula operator left.formula right.formula) (pair_type operator left.ty right.ty)

-- ---- mux(c, a, b)

abbrev pub is_bit : Option NumberType → Bool
is_bit None = false
is_bit (Some n) = not (is_signed n.class) && (n.width == 1)

abbrev pub mux_of : ℕ → Typed → Typed → Typed → Typing
mux_of at condition one other =
    if is_bit (number_type condition.ty) && same_types one.ty other.ty then made at one.ty (F.Choose condition.formula one.formula other.formula) else Err at

-- ---- expressions: operands first, from left to right, then the expression itself

abbrev pub typed_step : List Variable → Expression-F Typing → Typing
typed_step variables (Expression-F.Variable name) = variable_from name 0 variables
typed_step variables (Expression-F.Part of suffixes) = of >>= parts_of suffixes
typed_step variables (Expression-F.Literal at ty value) = literal_of at ty value.value
typed_step variables (Expression-F.Make at ty parts) = gathered no_parts parts >>= make_of at ty
typed_step variables (Expression-F.Cast at ty of) = of >>= cast_of at ty
typed_step variables (Expression-F.Zext at width of) = of >>= zext_of at width.value
typed_step variables (Expression-F.Slice at high low of) = of >>= slice_of at high.value low.value
typed_step variables (Expression-F.Not at of) = of >>= not_of at
typed_step variables (Expression-F.Binary at operator left right) = left >>= (λ a. right >>= pair_of at operator a)
typed_step variables (Expression-F.Mux at condition one other) = condition >>= (λ c. one >>= (λ a. other >>= mux_of at c a))

abbrev pub typed : List Variable → Expression → Typing
typed variables = fold-Expression Typing (typed_step variables)
