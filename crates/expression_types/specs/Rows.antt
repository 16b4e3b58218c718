-- The table of expressions: when an expression has a type and which formula computes it, one line for each kind; and where
-- one that has none is refused.
use Rattle.std.specs.Prelude.{◌≡◌, ℕ, ◌+◌, ◌-◌, ◌*◌, ◌^◌, ◌<◌, ◌≤◌, List, [], ◌∷◌, Some, map, length, drop, replicate, false, slice_get}
use Rattle.std.specs.List.{sum_by}
use Rattle.esi_base.specs.Bits.{bits_of}
use Rattle.design_lex.specs.declared.token.Class.{Class}
use Rattle.design_lex.specs.declared.token.Class.TheVariants.{Unsigned, Signed, Plain}
use Rattle.design_lex.specs.declared.limits.TheConstants.{WIDEST_TYPE}
use Rattle.channel_types.specs.declared.esi_type.EsiType.{EsiType}
use Rattle.channel_types.specs.declared.esi_type.EsiType.TheVariants as T
use Rattle.channel_types.specs.declared.esi_type.Field.{Field}
use Rattle.channel_types.specs.Types.{field_width}
use Rattle.netlist.specs.declared.limits.TheConstants.{MAX_NUMBER_WIDTH}
use Rattle.netlist.specs.declared.formula.Half.TheVariants.{High, Low}
use Rattle.netlist.specs.declared.formula.Formula.{Formula}
use Rattle.netlist.specs.declared.formula.Formula.TheVariants as F
use Rattle.design_tree.specs.declared.leaves.Name.{Name}
use Rattle.design_tree.specs.declared.leaves.Number.{Number}
use Rattle.design_tree.specs.declared.operators.Binary.TheVariants.{And, Or, Xor, Add, Sub, Eq, Lt, Cat}
use Rattle.design_tree.specs.declared.expression.Suffix.{Suffix}
use Rattle.design_tree.specs.declared.expression.Suffix.TheVariants as X
use Rattle.design_tree.specs.declared.expression.Expression.{Expression}
use Rattle.design_tree.specs.declared.expression.Expression.TheVariants as E
use Rattle.design_tree.specs.declared.expression.Expression.TheOpen.{Expression-F}
use Rattle.design_tree.specs.declared.expression.Expression.TheViews.{out-Expression}
use Rattle.design_tree.specs.declared.expression.Expression.TheFolds.{fold-Expression}
use Rattle.expression_types.specs.declared.number_type.NumberType.{NumberType}
use Rattle.expression_types.specs.Views.{Variable, Typed}
use Rattle.expression_types.specs.Typing.{BIT, has_void}
use Rattle.expression_types.specs.WidthLaws.{HasWidth, IsNumber}
use Rattle.expression_types.specs.OperatorLaws.{typed_as}

-- ---- parts of an expression

-- the operands of an expression, in the order of the text
abbrev pub level_operands : {A : Type 0} → Expression-F A → List A
level_operands (Expression-F.Variable name) = []
level_operands (Expression-F.Part of suffixes) = of ∷ []
level_operands (Expression-F.Literal at ty value) = []
level_operands (Expression-F.Make at ty parts) = parts
level_operands (Expression-F.Cast at ty of) = of ∷ []
level_operands (Expression-F.Zext at width of) = of ∷ []
level_operands (Expression-F.Slice at high low of) = of ∷ []
level_operands (Expression-F.Not at of) = of ∷ []
level_operands (Expression-F.Binary at operator left right) = left ∷ right ∷ []
level_operands (Expression-F.Mux at condition one other) = condition ∷ one ∷ other ∷ []

unfoldable pub operands : Expression → List Expression
operands e = level_operands (out-Expression e)

-- the place of the first octet of an expression
abbrev pub place_step : Expression-F ℕ → ℕ
place_step (Expression-F.Variable name) = name.at
place_step (Expression-F.Part of suffixes) = of
place_step (Expression-F.Literal at ty value) = at
place_step (Expression-F.Make at ty parts) = at
place_step (Expression-F.Cast at ty of) = at
place_step (Expression-F.Zext at width of) = at
place_step (Expression-F.Slice at high low of) = at
place_step (Expression-F.Not at of) = at
place_step (Expression-F.Binary at operator left right) = at
place_step (Expression-F.Mux at condition one other) = at

abbrev pub first_octet : Expression → ℕ
first_octet = fold-Expression ℕ place_step

-- ---- variables and parts of values

-- the first variable of a name
pub record IsVariable (vs : List Variable) (name : List ℕ) (i : ℕ) (ty : EsiType) : Type 0 where
  pub variable : Variable
  pub stands : slice_get vs i ≡ Some variable
  pub named : variable.name ≡ name
  pub typed : variable.ty ≡ ty
  pub first : (k : ℕ) (other : Variable) → k < i → slice_get vs k ≡ Some other → other.name ≡ name → ⊥

-- The first field of a name, and the index of its lowest bit: below it stand the fields behind it.
pub record IsField (fields : List Field) (name : List ℕ) (ty : EsiType) (low : ℕ) : Type 0 where
  pub i : ℕ
  pub field : Field
  pub stands : slice_get fields i ≡ Some field
  pub named : field.name ≡ name
  pub typed : field.ty ≡ ty
  pub first : (k : ℕ) (other : Field) → k < i → slice_get fields k ≡ Some other → other.name ≡ name → ⊥
  pub below : sum_by field_width (drop (i + 1) fields) ≡ low

-- `e.f`, `e[i]`: each suffix takes its part of what those before it give, by a slice, even where that is the whole.
pub data TakesParts : Typed → List Suffix → Typed → Type 0 where
  none : (t : Typed) → TakesParts t [] t
  field : (at : ℕ) (fields : List Field) (formula : Formula) (name : Name) (suffixes : List Suffix) (ty : EsiType) (low whole width : ℕ) (t : Typed)
      → HasWidth (T.Struct fields) whole → IsField fields name.octets ty low → HasWidth ty width
      → TakesParts (typed_as at ty (F.Slice formula (low + width - 1) low)) suffixes t
      → TakesParts (typed_as at (T.Struct fields) formula) (X.Field name ∷ suffixes) t
  element : (at : ℕ) (item : EsiType) (count : ℕ) (formula : Formula) (index : Number) (suffixes : List Suffix) (whole width : ℕ) (t : Typed)
      → HasWidth (T.Array item count) whole → index.value < count → HasWidth item width
      → TakesParts (typed_as at item (F.Slice formula (index.value * width + width - 1) (index.value * width))) suffixes t
      → TakesParts (typed_as at (T.Array item count) formula) (X.Element index ∷ suffixes) t

-- ---- the table

abbrev pub type_of_field : Field → EsiType
type_of_field f = f.ty

abbrev pub type_of_typed : Typed → EsiType
type_of_typed t = t.ty

abbrev pub formula_of_typed : Typed → Formula
formula_of_typed t = t.formula

-- An expression whose operands are these has this type and formula.
pub data Row (vs : List Variable) : Expression → List Typed → Typed → Type 0 where
  variable : (name : Name) (i : ℕ) (ty : EsiType) → IsVariable vs name.octets i ty → Row vs (E.Variable name) [] (typed_as name.at ty (F.Var i))
  part : (of : Expression) (suffixes : List Suffix) (a t : Typed) → TakesParts a suffixes t → Row vs (E.Part of suffixes) (a ∷ []) t
  literal : (at : ℕ) (class : Class) (width : ℕ) (number : Number) → 1 ≤ width → width ≤ WIDEST_TYPE → number.value < 2 ^ width
      → Row vs (E.Literal at (T.Bits class width) number) [] (typed_as at (T.Bits class width) (F.Const (bits_of width number.value)))
  literal_void : (at : ℕ) (number : Number) → number.value ≡ 0 → Row vs (E.Literal at T.Void number) [] (typed_as at T.Void (F.Const (bits_of 1 0)))
  make_struct : (at : ℕ) (fields : List Field) (parts : List Expression) (of : List Typed) (width : ℕ) → HasWidth (T.Struct fields) width
      → map type_of_typed of ≡ map type_of_field fields
      → Row vs (E.Make at (T.Struct fields) parts) of (typed_as at (T.Struct fields) (F.Join (map formula_of_typed of) High))
  make_array : (at : ℕ) (item : EsiType) (count : ℕ) (parts : List Expression) (of : List Typed) (width : ℕ) → HasWidth (T.Array item count) width
      → map type_of_typed of ≡ replicate count item
      → Row vs (E.Make at (T.Array item count) parts) of (typed_as at (T.Array item count) (F.Join (map formula_of_typed of) Low))
  cast : (at : ℕ) (ty : EsiType) (of : Expression) (a : Typed) (width : ℕ) → HasWidth ty width → HasWidth a.ty width → has_void ty ≡ false
      → Row vs (E.Cast at ty of) (a ∷ []) (typed_as at ty a.formula)
  zext_same : (at : ℕ) (width : Number) (of : Expression) (a : Typed) (n : NumberType) → IsNumber a.ty n → (n.class ≡ Signed → ⊥) → n.width ≡ width.value
      → Row vs (E.Zext at width of) (a ∷ []) (typed_as at (T.Bits n.class width.value) a.formula)
  zext : (at : ℕ) (width : Number) (of : Expression) (a : Typed) (n : NumberType) → IsNumber a.ty n → (n.class ≡ Signed → ⊥) → n.width < width.value → width.value ≤ WIDEST_TYPE
      → Row vs (E.Zext at width of) (a ∷ []) (typed_as at (T.Bits n.class width.value) (F.Concat (F.Const (replicate (width.value - n.width) false)) a.formula Low))
  slice : (at : ℕ) (high low : Number) (of : Expression) (a : Typed) (width : ℕ) → HasWidth a.ty width → low.value ≤ high.value → high.value < width
      → Row vs (E.Slice at high low of) (a ∷ []) (typed_as at (T.Bits Plain (high.value - low.value + 1)) (F.Slice a.formula high.value low.value))
  complement : (at : ℕ) (of : Expression) (a : Typed) (n : NumberType) → IsNumber a.ty n → Row vs (E.Not at of) (a ∷ []) (typed_as at a.ty (F.Not a.formula))
  conjunction : (at : ℕ) (left right : Expression) (a b : Typed) (n : NumberType) → a.ty ≡ b.ty → IsNumber a.ty n
      → Row vs (E.Binary at And left right) (a ∷ b ∷ []) (typed_as at a.ty (F.And a.formula b.formula))
  disjunction : (at : ℕ) (left right : Expression) (a b : Typed) (n : NumberType) → a.ty ≡ b.ty → IsNumber a.ty n
      → Row vs (E.Binary at Or left right) (a ∷ b ∷ []) (typed_as at a.ty (F.Or a.formula b.formula))
  exclusive : (at : ℕ) (left right : Expression) (a b : Typed) (n : NumberType) → a.ty ≡ b.ty → IsNumber a.ty n
      → Row vs (E.Binary at Xor left right) (a ∷ b ∷ []) (typed_as at a.ty (F.Xor a.formula b.formula))
  sum : (at : ℕ) (left right : Expression) (a b : Typed) (n : NumberType) → a.ty ≡ b.ty → IsNumber a.ty n → (n.class ≡ Plain → ⊥) → n.width ≤ MAX_NUMBER_WIDTH
      → Row vs (E.Binary at Add left right) (a ∷ b ∷ []) (typed_as at a.ty (F.Add a.formula b.formula))
  difference : (at : ℕ) (left right : Expression) (a b : Typed) (n : NumberType) → a.ty ≡ b.ty → IsNumber a.ty n → (n.class ≡ Plain → ⊥) → n.width ≤ MAX_NUMBER_WIDTH
      → Row vs (E.Binary at Sub left right) (a ∷ b ∷ []) (typed_as at a.ty (F.Sub a.formula b.formula))
  equality : (at : ℕ) (left right : Expression) (a b : Typed) → a.ty ≡ b.ty → Row vs (E.Binary at Eq left right) (a ∷ b ∷ []) (typed_as at BIT (F.Equal a.formula b.formula))
  less : (at : ℕ) (left right : Expression) (a b : Typed) (n : NumberType) → a.ty ≡ b.ty → IsNumber a.ty n → n.class ≡ Unsigned → n.width ≤ MAX_NUMBER_WIDTH
      → Row vs (E.Binary at Lt left right) (a ∷ b ∷ []) (typed_as at BIT (F.Less a.formula b.formula))
  concatenation : (at : ℕ) (left right : Expression) (a b : Typed) (high low : ℕ) → HasWidth a.ty high → HasWidth b.ty low → high + low ≤ WIDEST_TYPE
      → Row vs (E.Binary at Cat left right) (a ∷ b ∷ []) (typed_as at (T.Bits Plain (high + low)) (F.Concat a.formula b.formula High))
  choice : (at : ℕ) (condition one other : Expression) (c a b : Typed) (n : NumberType) → IsNumber c.ty n → (n.class ≡ Signed → ⊥) → n.width ≡ 1 → a.ty ≡ b.ty
      → Row vs (E.Mux at condition one other) (c ∷ a ∷ b ∷ []) (typed_as at a.ty (F.Choose c.formula a.formula b.formula))

-- ---- whole expressions

-- An expression has a type where its operands have theirs, and its row holds.
pub data HasType (vs : List Variable) : Expression → Typed → Type 0 where
  by_row : (e : Expression) (of : List Typed) (t : Typed) → length of ≡ length (operands e)
      → ((k : ℕ) (operand : Expression) (a : Typed) → slice_get (operands e) k ≡ Some operand → slice_get of k ≡ Some a → HasType vs operand a)
      → Row vs e of t → HasType vs e t

-- Where an expression that has no type is refused: within its first operand that has none, or, where all have one, at its own
-- first octet. So the innermost break is told, the first in the order of the text.
pub data IsMisfit (vs : List Variable) : Expression → ℕ → Type 0 where
  operand : (e : Expression) (k at : ℕ) (inner : Expression) → slice_get (operands e) k ≡ Some inner
      → ((j : ℕ) (earlier : Expression) → j < k → slice_get (operands e) j ≡ Some earlier → (t : Typed) × HasType vs earlier t)
      → IsMisfit vs inner at → IsMisfit vs e at
  own : (e : Expression) → ((k : ℕ) (inner : Expression) → slice_get (operands e) k ≡ Some inner → (t : Typed) × HasType vs inner t)
      → ((t : Typed) → HasType vs e t → ⊥) → IsMisfit vs e (first_octet e)
