-- The tokens of a type and of an expression, at each kind of them.
use Rattle.std.proofs.Common.{◌≡◌, ℕ, List, [], ◌∷◌, ◌++◌, map, ap, sym, ◌∙◌}
use Rattle.std.specs.Prelude.{codes}
use Rattle.std.specs.List.{flat_map}
use Rattle.design_lex.specs.declared.token.Class.{Class}
use Rattle.design_lex.specs.declared.token.Token.{Token}
use Rattle.design_lex.specs.declared.token.Token.TheVariants.{Word, TypeWord, Number as NumberToken}
use Rattle.channel_types.specs.declared.esi_type.EsiType.{EsiType}
use Rattle.channel_types.specs.declared.esi_type.EsiType.TheVariants as T
use Rattle.channel_types.specs.declared.esi_type.EsiType.TheVariants.{rolls-Bits, rolls-Void, rolls-Struct, rolls-Array}
use Rattle.channel_types.specs.declared.esi_type.EsiType.TheOpen.{EsiType-F}
use Rattle.channel_types.specs.declared.esi_type.EsiType.TheFolds.{fold_out-Field, fold-roll-EsiType}
use Rattle.channel_types.specs.declared.esi_type.Field.{Field as TypeField}
use Rattle.design_tree.specs.declared.leaves.Name.{Name}
use Rattle.design_tree.specs.declared.leaves.Number.{Number}
use Rattle.design_tree.specs.declared.operators.Binary.{Binary}
use Rattle.design_tree.specs.declared.expression.Suffix.{Suffix}
use Rattle.design_tree.specs.declared.expression.Expression.{Expression}
use Rattle.design_tree.specs.declared.expression.Expression.TheVariants as E
use Rattle.design_tree.specs.declared.expression.Expression.TheVariants.{rolls-Variable, rolls-Part, rolls-Literal, rolls-Make, rolls-Cast, rolls-Zext, rolls-Slice, rolls-Not, rolls-Binary, rolls-Mux}
use Rattle.design_tree.specs.declared.expression.Expression.TheOpen.{Expression-F}
use Rattle.design_tree.specs.declared.expression.Expression.TheFolds.{fold-roll-Expression}
use Rattle.design_tree.specs.Words.{operator_word}
use Rattle.design_tree.specs.Tokens.{type_step, field_step, type_tokens, field_tokens, suffix_tokens, expression_step, expression_tokens, with_commas, application, name_token, number_token, COLON, COMMA, LESS, GREATER}

-- ---- types

pub type-Bits : (class : Class) (width : ℕ) → type_tokens (T.Bits class width) ≡ TypeWord class width ∷ []
type-Bits class width = ap type_tokens (sym (rolls-Bits class width)) ∙ fold-roll-EsiType (List Token) (List Token) type_step field_step (EsiType-F.Bits class width)

pub type-Void : type_tokens T.Void ≡ Word (codes "void") ∷ []
type-Void = ap type_tokens (sym rolls-Void) ∙ fold-roll-EsiType (List Token) (List Token) type_step field_step EsiType-F.Void

pub type-Struct : (fields : List TypeField) → type_tokens (T.Struct fields) ≡ Word (codes "struct") ∷ LESS ∷ (with_commas (map field_tokens fields) ++ GREATER ∷ [])
type-Struct fields = ap type_tokens (sym (rolls-Struct fields)) ∙ fold-roll-EsiType (List Token) (List Token) type_step field_step (EsiType-F.Struct fields)

pub type-Array : (item : EsiType) (count : ℕ) → type_tokens (T.Array item count) ≡ Word (codes "array") ∷ LESS ∷ (type_tokens item ++ COMMA ∷ NumberToken count ∷ GREATER ∷ [])
type-Array item count = ap type_tokens (sym (rolls-Array item count)) ∙ fold-roll-EsiType (List Token) (List Token) type_step field_step (EsiType-F.Array item count)

pub type-field : (f : TypeField) → field_tokens f ≡ Word f.name ∷ COLON ∷ type_tokens f.ty
type-field f = fold_out-Field (List Token) (List Token) type_step field_step f

-- ---- expressions

pub expression-Variable : (name : Name) → expression_tokens (E.Variable name) ≡ name_token name ∷ []
expression-Variable name = ap expression_tokens (sym (rolls-Variable name)) ∙ fold-roll-Expression (List Token) expression_step (Expression-F.Variable name)

pub expression-Part : (of : Expression) (suffixes : List Suffix) → expression_tokens (E.Part of suffixes) ≡ expression_tokens of ++ flat_map suffix_tokens suffixes
expression-Part of suffixes = ap expression_tokens (sym (rolls-Part of suffixes)) ∙ fold-roll-Expression (List Token) expression_step (Expression-F.Part of suffixes)

pub expression-Literal : (at : ℕ) (ty : EsiType) (value : Number) → expression_tokens (E.Literal at ty value) ≡ application (codes "lit") (type_tokens ty ∷ (number_token value ∷ []) ∷ [])
expression-Literal at ty value = ap expression_tokens (sym (rolls-Literal at ty value)) ∙ fold-roll-Expression (List Token) expression_step (Expression-F.Literal at ty value)

pub expression-Make : (at : ℕ) (ty : EsiType) (parts : List Expression) → expression_tokens (E.Make at ty parts) ≡ application (codes "make") (type_tokens ty ∷ map expression_tokens parts)
expression-Make at ty parts = ap expression_tokens (sym (rolls-Make at ty parts)) ∙ fold-roll-Expression (List Token) expression_step (Expression-F.Make at ty parts)

pub expression-Cast : (at : ℕ) (ty : EsiType) (of : Expression) → expression_tokens (E.Cast at ty of) ≡ application (codes "cast") (type_tokens ty ∷ expression_tokens of ∷ [])
expression-Cast at ty of = ap expression_tokens (sym (rolls-Cast at ty of)) ∙ fold-roll-Expression (List Token) expression_step (Expression-F.Cast at ty of)

pub expression-Zext : (at : ℕ) (width : Number) (of : Expression) → expression_tokens (E.Zext at width of) ≡ application (codes "zext") ((number_token width ∷ []) ∷ expression_tokens of ∷ [])
expression-Zext at width of = ap expression_tokens (sym (rolls-Zext at width of)) ∙ fold-roll-Expression (List Token) expression_step (Expression-F.Zext at width of)

pub expression-Slice : (at : ℕ) (high low : Number) (of : Expression)
    → expression_tokens (E.Slice at high low of) ≡ application (codes "slice") ((number_token high ∷ []) ∷ (number_token low ∷ []) ∷ expression_tokens of ∷ [])
expression-Slice at high low of = ap expression_tokens (sym (rolls-Slice at high low of)) ∙ fold-roll-Expression (List Token) expression_step (Expression-F.Slice at high low of)

pub expression-Not : (at : ℕ) (of : Expression) → expression_tokens (E.Not at of) ≡ application (codes "not") (expression_tokens of ∷ [])
expression-Not at of = ap expression_tokens (sym (rolls-Not at of)) ∙ fold-roll-Expression (List Token) expression_step (Expression-F.Not at of)

pub expression-Binary : (at : ℕ) (operator : Binary) (left right : Expression)
    → expression_tokens (E.Binary at operator left right) ≡ application (operator_word operator) (expression_tokens left ∷ expression_tokens right ∷ [])
expression-Binary at operator left right = ap expression_tokens (sym (rolls-Binary at operator left right)) ∙ fold-roll-Expression (List Token) expression_step (Expression-F.Binary at operator left right)

pub expression-Mux : (at : ℕ) (condition when_one when_zero : Expression)
    → expression_tokens (E.Mux at condition when_one when_zero) ≡ application (codes "mux") (expression_tokens condition ∷ expression_tokens when_one ∷ expression_tokens when_zero ∷ [])
expression-Mux at condition when_one when_zero = ap expression_tokens (sym (rolls-Mux at condition when_one when_zero)) ∙ fold-roll-Expression (List Token) expression_step (Expression-F.Mux at condition when_one when_zero)
