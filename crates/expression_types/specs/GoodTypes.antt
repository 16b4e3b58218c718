-- Good types give good types: an expression has a good type where its variables and the types in its text are good.
use Rattle.std.proofs.Common.{◌≡◌, ℕ, zero, suc, ◌+◌, ◌-◌, ◌≤◌, Some, List, [], ◌∷◌, ◌++◌, map, refl, ap, sym, ◌∙◌, subst, arith}
use Rattle.std.specs.Prelude.{All, slice_get, Ok}
use Rattle.std.specs.List.{flat_map}
use Rattle.std.proofs.lemmas.Option.{same_Some}
use Rattle.std.proofs.lemmas.List.Elements.{All-nil, All-cons, All-head, All-tail}
use Rattle.design_lex.specs.declared.token.Class.{Class}
use Rattle.design_lex.specs.declared.token.Class.TheVariants.{Unsigned, Plain}
use Rattle.design_lex.specs.declared.limits.TheConstants.{WIDEST_TYPE}
use Rattle.channel_types.specs.declared.esi_type.EsiType.{EsiType}
use Rattle.channel_types.specs.declared.esi_type.EsiType.TheVariants as T
use Rattle.channel_types.specs.declared.limits.TheConstants.{OPEN_TYPES}
use Rattle.channel_types.specs.Types.{IsGoodType}
use Rattle.channel_types.specs.Goods.{good_bits, good_deeper, good_type, good_type_fields, good_type_item}
use Rattle.design_tree.specs.declared.leaves.Number.{Number}
use Rattle.design_tree.specs.declared.expression.Suffix.{Suffix}
use Rattle.design_tree.specs.declared.expression.Expression.{Expression}
use Rattle.design_tree.specs.declared.expression.Expression.TheVariants as E
use Rattle.design_tree.specs.declared.expression.Expression.TheVariants.{rolls-Literal, rolls-Make, rolls-Cast}
use Rattle.design_tree.specs.declared.expression.Expression.TheOpen.{Expression-F}
use Rattle.design_tree.specs.declared.expression.Expression.TheViews.{out-Expression, roll-out-Expression}
use Rattle.design_tree.specs.declared.expression.Expression.TheFolds.{fold-Expression, map-Expression, fold-roll-Expression}
use Rattle.expression_types.specs.Views.{Variable, Typed}
use Rattle.expression_types.specs.Typing.{typed}
use Rattle.expression_types.specs.Rows as R
use Rattle.expression_types.specs.Rows.{level_operands, operands, TakesParts, Row, HasType}
use Rattle.expression_types.specs.TableLaws.{beside, type_found}

-- ---- the types in the text of an expression: `lit`, `make` and `cast` name one

abbrev pub types_step : Expression-F (List EsiType) → List EsiType
types_step (Expression-F.Variable name) = []
types_step (Expression-F.Part of suffixes) = of
types_step (Expression-F.Literal at ty value) = ty ∷ []
types_step (Expression-F.Make at ty parts) = ty ∷ flat_map (λ part. part) parts
types_step (Expression-F.Cast at ty of) = ty ∷ of
types_step (Expression-F.Zext at width of) = of
types_step (Expression-F.Slice at high low of) = of
types_step (Expression-F.Not at of) = of
types_step (Expression-F.Binary at operator left right) = left ++ right
types_step (Expression-F.Mux at condition one other) = condition ++ one ++ other

abbrev pub written_types : Expression → List EsiType
written_types = fold-Expression (List EsiType) types_step

-- ---- what holds of all of a list

module _ {A : Type 0} (P : A → Type 0) where
  all_at : (xs : List A) (k : ℕ) (x : A) → slice_get xs k ≡ Some x → All P xs → P x
  all_at [] k x s all = absurd (cc)
  all_at (y ∷ ys) zero x s all = subst P (same_Some y x s) (All-head P y ys all)
  all_at (y ∷ ys) (suc k) x s all = all_at ys k x s (All-tail P y ys all)

  all_front : (xs ys : List A) → All P (xs ++ ys) → All P xs
  all_front [] ys all = All-nil P
  all_front (x ∷ xs) ys all = All-cons P x xs (All-head P x (xs ++ ys) all) (all_front xs ys (All-tail P x (xs ++ ys) all))

  all_behind : (xs ys : List A) → All P (xs ++ ys) → All P ys
  all_behind [] ys all = all
  all_behind (x ∷ xs) ys all = all_behind xs ys (All-tail P x (xs ++ ys) all)

-- ---- the types in the text of an operand are those of the expression

abbrev AreGood : Expression → Type 0
AreGood e = All IsGoodType (written_types e)

one_operand : (of : Expression) (k : ℕ) (x : Expression) → slice_get (of ∷ []) k ≡ Some x → AreGood of → AreGood x
one_operand of zero x s good = subst AreGood (same_Some of x s) good
one_operand of (suc k) x s good = absurd (cc)

two_operands : (left right : Expression) (k : ℕ) (x : Expression) → slice_get (left ∷ right ∷ []) k ≡ Some x → AreGood left → AreGood right → AreGood x
two_operands left right zero x s good other = subst AreGood (same_Some left x s) good
two_operands left right (suc k) x s good other = one_operand right k x s other

part_operand : (parts : List Expression) (k : ℕ) (x : Expression) → slice_get parts k ≡ Some x → All IsGoodType (flat_map (λ part. part) (map written_types parts)) → AreGood x
part_operand [] k x s good = absurd (cc)
part_operand (p ∷ ps) zero x s good = subst AreGood (same_Some p x s) (all_front IsGoodType (written_types p) (flat_map (λ part. part) (map written_types ps)) good)
part_operand (p ∷ ps) (suc k) x s good = part_operand ps k x s (all_behind IsGoodType (written_types p) (flat_map (λ part. part) (map written_types ps)) good)

level_operand : (level : Expression-F Expression) (k : ℕ) (x : Expression) → slice_get (level_operands level) k ≡ Some x
    → All IsGoodType (types_step (map-Expression Expression (List EsiType) written_types level)) → AreGood x
level_operand (Expression-F.Variable name) k x s good = absurd (cc)
level_operand (Expression-F.Part of suffixes) k x s good = one_operand of k x s good
level_operand (Expression-F.Literal at ty value) k x s good = absurd (cc)
level_operand (Expression-F.Make at ty parts) k x s good = part_operand parts k x s (All-tail IsGoodType ty (flat_map (λ part. part) (map written_types parts)) good)
level_operand (Expression-F.Cast at ty of) k x s good = one_operand of k x s (All-tail IsGoodType ty (written_types of) good)
level_operand (Expression-F.Zext at width of) k x s good = one_operand of k x s good
level_operand (Expression-F.Slice at high low of) k x s good = one_operand of k x s good
level_operand (Expression-F.Not at of) k x s good = one_operand of k x s good
level_operand (Expression-F.Binary at operator left right) k x s good =
    two_operands left right k x s (all_front IsGoodType (written_types left) (written_types right) good) (all_behind IsGoodType (written_types left) (written_types right) good)
level_operand (Expression-F.Mux at condition one other) zero x s good =
    let both = all_front IsGoodType (written_types condition ++ written_types one) (written_types other) good in
    subst AreGood (same_Some condition x s) (all_front IsGoodType (written_types condition) (written_types one) both)
level_operand (Expression-F.Mux at condition one other) (suc k) x s good =
    let both = all_front IsGoodType (written_types condition ++ written_types one) (written_types other) good in
    two_operands one other k x s (all_behind IsGoodType (written_types condition) (written_types one) both)
    (all_behind IsGoodType (written_types condition ++ written_types one) (written_types other) good)

operand_good : (e : Expression) (k : ℕ) (x : Expression) → slice_get (operands e) k ≡ Some x → AreGood e → AreGood x
unfolding operands
operand_good e k x s good =
    level_operand (out-Expression e) k x s
    (subst (All IsGoodType) (ap written_types (sym (roll-out-Expression e)) ∙ fold-roll-Expression (List EsiType) types_step (out-Expression e)) good)

-- the type that an expression names first
literal_good : (at : ℕ) (ty : EsiType) (number : Number) → AreGood (E.Literal at ty number) → IsGoodType ty
literal_good at ty number good =
    All-head IsGoodType ty []
    (subst (All IsGoodType) (ap written_types (sym (rolls-Literal at ty number)) ∙ fold-roll-Expression (List EsiType) types_step (Expression-F.Literal at ty number)) good)

make_good : (at : ℕ) (ty : EsiType) (parts : List Expression) → AreGood (E.Make at ty parts) → IsGoodType ty
make_good at ty parts good =
    All-head IsGoodType ty (flat_map (λ part. part) (map written_types parts))
    (subst (All IsGoodType) (ap written_types (sym (rolls-Make at ty parts)) ∙ fold-roll-Expression (List EsiType) types_step (Expression-F.Make at ty parts)) good)

cast_good : (at : ℕ) (ty : EsiType) (of : Expression) → AreGood (E.Cast at ty of) → IsGoodType ty
cast_good at ty of good =
    All-head IsGoodType ty (written_types of)
    (subst (All IsGoodType) (ap written_types (sym (rolls-Cast at ty of)) ∙ fold-roll-Expression (List EsiType) types_step (Expression-F.Cast at ty of)) good)

-- ---- rows

bits_good : (class : Class) (width : ℕ) → 1 ≤ width → width ≤ WIDEST_TYPE → IsGoodType (T.Bits class width)
bits_good class width low high = good_type (T.Bits class width) (good_deeper 1 OPEN_TYPES (T.Bits class width) (omega arith) (good_bits class width low high))

parts_good : {a : Typed} {suffixes : List Suffix} {t : Typed} → TakesParts a suffixes t → IsGoodType a.ty → IsGoodType t.ty
parts_good (R.none t) good = good
parts_good (R.field at fields formula name suffixes ty low whole width t wide is long more) good =
    parts_good more (subst IsGoodType is.typed (all_at (λ f. IsGoodType f.ty) fields is.i is.field is.stands (good_type_fields fields good)))
parts_good (R.element at item count formula index suffixes whole width t wide less long more) good = parts_good more (good_type_item item count good)

module _ (vs : List Variable) (variables : All (λ v. IsGoodType v.ty) vs) where
  row_good : {e : Expression} {of : List Typed} {t : Typed} → Row vs e of t → AreGood e → ((k : ℕ) (a : Typed) → slice_get of k ≡ Some a → IsGoodType a.ty) → IsGoodType t.ty
  row_good (R.variable name i ty is) text good = subst IsGoodType is.typed (all_at (λ v. IsGoodType v.ty) vs i is.variable is.stands variables)
  row_good (R.part of suffixes a t parts) text good = parts_good parts (good 0 a refl)
  row_good (R.literal at class width number low high fits) text good = bits_good class width low high
  row_good (R.literal_void at number none) text good = literal_good at T.Void number text
  row_good (R.make_struct at fields parts of width wide same) text good = make_good at (T.Struct fields) parts text
  row_good (R.make_array at item count parts of width wide same) text good = make_good at (T.Array item count) parts text
  row_good (R.cast at ty of a width wide own void) text good = cast_good at ty of text
  row_good (R.zext_same at width of a n is unsigned same) text good = bits_good n.class width.value (omega (arith, same, is.low)) (omega (arith, same, is.high))
  row_good (R.zext at width of a n is unsigned less high) text good = bits_good n.class width.value (omega (arith, less)) high
  row_good (R.slice at high low of a width wide less within) text good = bits_good Plain (high.value - low.value + 1) (omega arith) (omega (arith, within, wide.high))
  row_good (R.complement at of a n is) text good = good 0 a refl
  row_good (R.conjunction at left right a b n same is) text good = good 0 a refl
  row_good (R.disjunction at left right a b n same is) text good = good 0 a refl
  row_good (R.exclusive at left right a b n same is) text good = good 0 a refl
  row_good (R.sum at left right a b n same is counts narrow) text good = good 0 a refl
  row_good (R.difference at left right a b n same is counts narrow) text good = good 0 a refl
  row_good (R.equality at left right a b same) text good = bits_good Unsigned 1 (omega arith) (omega arith)
  row_good (R.less at left right a b n same is unsigned narrow) text good = bits_good Unsigned 1 (omega arith) (omega arith)
  row_good (R.concatenation at left right a b high low wide other fits) text good = bits_good Plain (high + low) (omega (arith, wide.low)) fits
  row_good (R.choice at condition one other c a b n is unsigned bit same) text good = good 1 a refl

  type_good : {e : Expression} {t : Typed} → HasType vs e t → AreGood e → IsGoodType t.ty
  type_good (R.by_row e of t long each row) text =
      row_good row text (λ k a r.
      let x = beside of (operands e) k a (sym long) r in
      type_good (each k x.0 a x.1 r) (operand_good e k x.0 x.1 text))

-- ---- the law

-- An expression over variables of good types, with good types in its text, has a good type.
abbrev pub GoodTypesStayGood : Type 0
GoodTypesStayGood = (vs : List Variable) (e : Expression) (t : Typed) → All (λ v. IsGoodType v.ty) vs → All IsGoodType (written_types e) → typed vs e ≡ Ok t → IsGoodType t.ty

pub good_types_stay_good : GoodTypesStayGood
good_types_stay_good vs e t variables text fits = type_good vs variables (type_found vs e t fits) text
