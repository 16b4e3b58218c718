-- What an expression is typed as, at each kind of it.
use Rattle.std.proofs.Common.{◌≡◌, ℕ, List, map, ap, sym, ◌∙◌}
use Rattle.esi_base.specs.Answers.{◌>>=◌}
use Rattle.channel_types.specs.declared.esi_type.EsiType.{EsiType}
use Rattle.design_tree.specs.declared.leaves.Name.{Name}
use Rattle.design_tree.specs.declared.leaves.Number.{Number}
use Rattle.design_tree.specs.declared.operators.Binary.{Binary}
use Rattle.design_tree.specs.declared.expression.Suffix.{Suffix}
use Rattle.design_tree.specs.declared.expression.Expression.{Expression}
use Rattle.design_tree.specs.declared.expression.Expression.TheVariants as E
use Rattle.design_tree.specs.declared.expression.Expression.TheVariants.{rolls-Variable, rolls-Part, rolls-Literal, rolls-Make, rolls-Cast, rolls-Zext, rolls-Slice, rolls-Not, rolls-Binary, rolls-Mux}
use Rattle.design_tree.specs.declared.expression.Expression.TheOpen.{Expression-F}
use Rattle.design_tree.specs.declared.expression.Expression.TheFolds.{fold-roll-Expression}
use Rattle.expression_types.specs.Views.{Variable}
use Rattle.expression_types.specs.Typing.{Typing, variable_from, parts_of, literal_of, no_parts, gathered, make_of, cast_of, zext_of, slice_of, not_of, pair_of, mux_of, typed_step, typed}

module _ (vs : List Variable) where
  pub typed-Variable : (name : Name) → typed vs (E.Variable name) ≡ variable_from name 0 vs
  typed-Variable name = ap (typed vs) (sym (rolls-Variable name)) ∙ fold-roll-Expression Typing (typed_step vs) (Expression-F.Variable name)

  pub typed-Part : (of : Expression) (suffixes : List Suffix) → typed vs (E.Part of suffixes) ≡ typed vs of >>= parts_of suffixes
  typed-Part of suffixes = ap (typed vs) (sym (rolls-Part of suffixes)) ∙ fold-roll-Expression Typing (typed_step vs) (Expression-F.Part of suffixes)

  pub typed-Literal : (at : ℕ) (ty : EsiType) (value : Number) → typed vs (E.Literal at ty value) ≡ literal_of at ty value.value
  typed-Literal at ty value = ap (typed vs) (sym (rolls-Literal at ty value)) ∙ fold-roll-Expression Typing (typed_step vs) (Expression-F.Literal at ty value)

  pub typed-Make : (at : ℕ) (ty : EsiType) (parts : List Expression) → typed vs (E.Make at ty parts) ≡ gathered no_parts (map (typed vs) parts) >>= make_of at ty
  typed-Make at ty parts = ap (typed vs) (sym (rolls-Make at ty parts)) ∙ fold-roll-Expression Typing (typed_step vs) (Expression-F.Make at ty parts)

  pub typed-Cast : (at : ℕ) (ty : EsiType) (of : Expression) → typed vs (E.Cast at ty of) ≡ typed vs of >>= cast_of at ty
  typed-Cast at ty of = ap (typed vs) (sym (rolls-Cast at ty of)) ∙ fold-roll-Expression Typing (typed_step vs) (Expression-F.Cast at ty of)

  pub typed-Zext : (at : ℕ) (width : Number) (of : Expression) → typed vs (E.Zext at width of) ≡ typed vs of >>= zext_of at width.value
  typed-Zext at width of = ap (typed vs) (sym (rolls-Zext at width of)) ∙ fold-roll-Expression Typing (typed_step vs) (Expression-F.Zext at width of)

  pub typed-Slice : (at : ℕ) (high low : Number) (of : Expression) → typed vs (E.Slice at high low of) ≡ typed vs of >>= slice_of at high.value low.value
  typed-Slice at high low of = ap (typed vs) (sym (rolls-Slice at high low of)) ∙ fold-roll-Expression Typing (typed_step vs) (Expression-F.Slice at high low of)

  pub typed-Not : (at : ℕ) (of : Expression) → typed vs (E.Not at of) ≡ typed vs of >>= not_of at
  typed-Not at of = ap (typed vs) (sym (rolls-Not at of)) ∙ fold-roll-Expression Typing (typed_step vs) (Expression-F.Not at of)

  pub typed-Binary : (at : ℕ) (operator : Binary) (left right : Expression)
      → typed vs (E.Binary at operator left right) ≡ typed vs left >>= (λ a. typed vs right >>= pair_of at operator a)
  typed-Binary at operator left right = ap (typed vs) (sym (rolls-Binary at operator left right)) ∙ fold-roll-Expression Typing (typed_step vs) (Expression-F.Binary at operator left right)

  pub typed-Mux : (at : ℕ) (condition one other : Expression)
      → typed vs (E.Mux at condition one other) ≡ typed vs condition >>= (λ c. typed vs one >>= (λ a. typed vs other >>= mux_of at c a))
  typed-Mux at condition one other = ap (typed vs) (sym (rolls-Mux at condition one other)) ∙ fold-roll-Expression Typing (typed_step vs) (Expression-F.Mux at condition one other)
