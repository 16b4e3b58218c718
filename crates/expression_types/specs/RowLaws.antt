-- Each row of the table holds exactly where the operation that computes it succeeds, and with what it gives.
use Rattle.std.proofs.Common.{◌≡◌, ℕ, zero, suc, ◌+◌, ◌-◌, ◌*◌, ◌^◌, ◌<◌, ◌≤◌, Bool, true, false, Option, Some, None, List, [], ◌∷◌, map, replicate, refl, ap, sym, ◌∙◌, subst, arith}
use Rattle.std.specs.Prelude.{if◌then◌else◌, nat_le, nat_lt, ◌&&◌, ◌||◌, not, ◌==◌, Ok, Err}
use Rattle.std.proofs.lemmas.Bool.{and_parts, and_from, eqb-true, eq-eqb, leb-true, le-leb, ltb-true, lt-ltb, false_from_ne_true}
use Rattle.std.proofs.lemmas.Option.{same_Some}
use Rattle.esi_base.specs.Answers.{◌>>=◌}
use Rattle.esi_base.specs.Bits.{bits_of}
use Rattle.design_lex.specs.declared.token.Class.{Class}
use Rattle.design_lex.specs.declared.token.Class.TheVariants.{Unsigned, Signed, Plain}
use Rattle.design_lex.specs.declared.limits.TheConstants.{WIDEST_TYPE}
use Rattle.channel_types.specs.declared.esi_type.EsiType.{EsiType}
use Rattle.channel_types.specs.declared.esi_type.EsiType.TheVariants as T
use Rattle.channel_types.specs.declared.esi_type.EsiType.TheVariants.{outs-Bits, outs-Void, outs-Struct, outs-Array, rolls-Bits, rolls-Void, rolls-Struct, rolls-Array}
use Rattle.channel_types.specs.declared.esi_type.EsiType.TheOpen.{EsiType-F}
use Rattle.channel_types.specs.declared.esi_type.EsiType.TheViews.{out-EsiType, roll-EsiType, roll-out-EsiType}
use Rattle.channel_types.specs.declared.esi_type.Field.{Field}
use Rattle.channel_types.specs.Types.{width_of}
use Rattle.channel_types.specs.SameTypes.{same_types}
use Rattle.channel_types.specs.SameTypesLaws.{is_test}
use Rattle.netlist.specs.declared.limits.TheConstants.{MAX_NUMBER_WIDTH}
use Rattle.netlist.specs.declared.formula.Half.{Half}
use Rattle.netlist.specs.declared.formula.Half.TheVariants.{High, Low}
use Rattle.netlist.specs.declared.formula.Formula.{Formula}
use Rattle.netlist.specs.declared.formula.Formula.TheVariants as F
use Rattle.netlist.specs.FormulaLaws.{chosen}
use Rattle.netlist.specs.Nets.{Bits}
use Rattle.design_tree.specs.declared.leaves.Number.{Number}
use Rattle.design_tree.specs.declared.operators.Binary.{Binary}
use Rattle.design_tree.specs.declared.operators.Binary.TheVariants.{And, Or, Xor, Add, Sub, Eq, Lt, Cat}
use Rattle.design_tree.specs.declared.expression.Suffix.{Suffix}
use Rattle.design_tree.specs.declared.expression.Suffix.TheVariants as X
use Rattle.design_tree.specs.declared.expression.Expression.{Expression}
use Rattle.design_tree.specs.declared.expression.Expression.TheVariants as E
use Rattle.design_tree.specs.declared.expression.Expression.TheVariants.{rolls-Variable, rolls-Part, rolls-Literal, rolls-Make, rolls-Cast, rolls-Zext, rolls-Slice, rolls-Not, rolls-Binary, rolls-Mux, outs-Variable, outs-Part, outs-Literal, outs-Make, outs-Cast, outs-Zext, outs-Slice, outs-Not, outs-Binary, outs-Mux}
use Rattle.design_tree.specs.declared.expression.Expression.TheOpen.{Expression-F}
use Rattle.design_tree.specs.declared.expression.Expression.TheViews.{out-Expression, roll-Expression, roll-out-Expression}
use Rattle.expression_types.specs.declared.number_type.NumberType.{NumberType}
use Rattle.expression_types.specs.Views.{Variable, Typed, Piece, Parts}
use Rattle.expression_types.specs.Typing.{Typing, made, value_width, number_type, is_unsigned, is_signed, has_void, BIT, variable_from, field_piece, level_field, level_element, field_of, element_of, piece_of, sliced, part_at, part_within, part_of, parts_of, level_literal, literal_word, literal_at, literal_of, fields_given, elements_given, level_joined, join_of, make_joined, make_within, make_of, same_width, cast_of, extends, extended, zext_at, zext_of, slice_at, slice_of, not_at, not_of, common_number, bitwise_at, is_narrow, is_arithmetic, arithmetic_at, less_at, cat_at, pair_at, pair_of, is_bit, mux_of}
use Rattle.expression_types.specs.WidthLaws.{HasWidth, value_has, has_value, IsNumber, number_is}
use Rattle.expression_types.specs.OperatorLaws.{typed_as, same_typed, made_if}
use Rattle.expression_types.specs.MeaningLaws.{bound}
use Rattle.expression_types.specs.RowTests.{not_true, not_signed, signed_not, not_plain, plain_not, unsigned_is, number_given, common_found, common_given, same_width_found, same_width_given, variable_found, variable_given, field_is, is_field, piece_as, fields_same, same_fields_given, elements_same, same_elements_given}
use Rattle.expression_types.specs.Rows as R
use Rattle.expression_types.specs.Rows.{TakesParts, Row, type_of_typed, formula_of_typed, type_of_field}

-- ---- the operation of an expression's own row

abbrev pub with_none : Typing → List Typed → Typing
with_none m [] = m
with_none m (a ∷ of) = Err 0

abbrev pub with_one : (Typed → Typing) → List Typed → Typing
with_one f (a ∷ []) = f a
with_one f of = Err 0

abbrev pub with_two : (Typed → Typed → Typing) → List Typed → Typing
with_two f (a ∷ b ∷ []) = f a b
with_two f of = Err 0

abbrev pub with_three : (Typed → Typed → Typed → Typing) → List Typed → Typing
with_three f (a ∷ b ∷ c ∷ []) = f a b c
with_three f of = Err 0

abbrev pub parts_in : List Typed → Parts
parts_in of = record { types = map type_of_typed of; formulas = map formula_of_typed of }

-- what an expression gives whose operands are typed so
abbrev pub level_row : List Variable → Expression-F Expression → List Typed → Typing
level_row vs (Expression-F.Variable name) of = with_none (variable_from name 0 vs) of
level_row vs (Expression-F.Part e suffixes) of = with_one (parts_of suffixes) of
level_row vs (Expression-F.Literal at ty number) of = with_none (literal_of at ty number.value) of
level_row vs (Expression-F.Make at ty parts) of = make_of at ty (parts_in of)
level_row vs (Expression-F.Cast at ty e) of = with_one (cast_of at ty) of
level_row vs (Expression-F.Zext at width e) of = with_one (zext_of at width.value) of
level_row vs (Expression-F.Slice at high low e) of = with_one (slice_of at high.value low.value) of
level_row vs (Expression-F.Not at e) of = with_one (not_of at) of
level_row vs (Expression-F.Binary at operator left right) of = with_two (pair_of at operator) of
level_row vs (Expression-F.Mux at condition one other) of = with_three (mux_of at) of

none_given : (m : Typing) (of : List Typed) (t : Typed) → with_none m of ≡ Ok t → (of ≡ []) × (m ≡ Ok t)
none_given m [] t e = (refl, e)
none_given m (a ∷ of) t e = absurd (cc)

one_given : (f : Typed → Typing) (of : List Typed) (t : Typed) → with_one f of ≡ Ok t → (a : Typed) × (of ≡ a ∷ []) × (f a ≡ Ok t)
one_given f [] t e = absurd (cc)
one_given f (a ∷ []) t e = (a, refl, e)
one_given f (a ∷ b ∷ of) t e = absurd (cc)

two_given : (f : Typed → Typed → Typing) (of : List Typed) (t : Typed) → with_two f of ≡ Ok t → (a : Typed) × (b : Typed) × (of ≡ a ∷ b ∷ []) × (f a b ≡ Ok t)
two_given f [] t e = absurd (cc)
two_given f (a ∷ []) t e = absurd (cc)
two_given f (a ∷ b ∷ []) t e = (a, b, refl, e)
two_given f (a ∷ b ∷ c ∷ of) t e = absurd (cc)

three_given : (f : Typed → Typed → Typed → Typing) (of : List Typed) (t : Typed) → with_three f of ≡ Ok t
    → (a : Typed) × (b : Typed) × (c : Typed) × (of ≡ a ∷ b ∷ c ∷ []) × (f a b c ≡ Ok t)
three_given f [] t e = absurd (cc)
three_given f (a ∷ []) t e = absurd (cc)
three_given f (a ∷ b ∷ []) t e = absurd (cc)
three_given f (a ∷ b ∷ c ∷ []) t e = (a, b, c, refl, e)
three_given f (a ∷ b ∷ c ∷ d ∷ of) t e = absurd (cc)

if_made : (test : Bool) (at place : ℕ) (ty : EsiType) (formula : Formula) → test ≡ true → ◌≡◌ {A = Typing} (if test then made at ty formula else Err place) (Ok (typed_as at ty formula))
if_made true at place ty formula e = refl
if_made false at place ty formula e = absurd (cc)

-- ---- parts

record PartFound (a : Typed) (suffix : Suffix) (b : Typed) : Type 0 where
  whole : ℕ
  width : ℕ
  piece : Piece
  wide : HasWidth a.ty whole
  found : piece_of a.ty suffix ≡ Some piece
  long : HasWidth piece.ty width
  same : typed_as a.at piece.ty (F.Slice a.formula (piece.low + width - 1) piece.low) ≡ b

part_found : (a : Typed) (suffix : Suffix) (b : Typed) → part_of a suffix ≡ Ok b → PartFound a suffix b
part_found a suffix b e = within (value_width a.ty) refl e
  where
    cut : (whole : ℕ) → HasWidth a.ty whole → (piece : Piece) → piece_of a.ty suffix ≡ Some piece → (width : Option ℕ) → value_width piece.ty ≡ width → sliced a piece width ≡ Ok b → PartFound a suffix b
    cut whole wide piece found None same e = absurd (cc)
    cut whole wide piece found (Some width) same e =
        record { whole = whole; width = width; piece = piece; wide = wide; found = found; long = value_has piece.ty width same; same = same_typed _ b e }

    at_piece : (whole : ℕ) → HasWidth a.ty whole → (piece : Option Piece) → piece_of a.ty suffix ≡ piece → part_at a piece ≡ Ok b → PartFound a suffix b
    at_piece whole wide None same e = absurd (cc)
    at_piece whole wide (Some piece) same e = cut whole wide piece same (value_width piece.ty) refl e

    within : (width : Option ℕ) → value_width a.ty ≡ width → part_within a suffix width ≡ Ok b → PartFound a suffix b
    within None same e = absurd (cc)
    within (Some width) same e = at_piece width (value_has a.ty width same) (piece_of a.ty suffix) refl e

part_given : (a : Typed) (suffix : Suffix) (whole : ℕ) (piece : Piece) (width : ℕ) → HasWidth a.ty whole → piece_of a.ty suffix ≡ Some piece → HasWidth piece.ty width
    → part_of a suffix ≡ Ok (typed_as a.at piece.ty (F.Slice a.formula (piece.low + width - 1) piece.low))
part_given a suffix whole piece width wide found long =
    ap (part_within a suffix) (has_value a.ty whole wide) ∙ ap (part_at a) found ∙ ap (sliced a piece) (has_value piece.ty width long)

struct_is : (ty : EsiType) (name : List ℕ) (piece : Piece) → field_of ty name ≡ Some piece → (fields : List Field) × (ty ≡ T.Struct fields) × (field_piece name fields ≡ Some piece)
unfolding field_of
struct_is ty name piece e = of (out-EsiType ty) refl e
  where
    of : (level : EsiType-F EsiType Field) → out-EsiType ty ≡ level → level_field level name ≡ Some piece → (fields : List Field) × (ty ≡ T.Struct fields) × (field_piece name fields ≡ Some piece)
    of (EsiType-F.Bits class width) same e = absurd (cc)
    of EsiType-F.Void same e = absurd (cc)
    of (EsiType-F.Struct fields) same e = (fields, sym (roll-out-EsiType ty) ∙ ap roll-EsiType same ∙ rolls-Struct fields, e)
    of (EsiType-F.Array item count) same e = absurd (cc)

field_given : (fields : List Field) (name : List ℕ) → field_of (T.Struct fields) name ≡ field_piece name fields
unfolding field_of
field_given fields name = ap (λ level. level_field level name) (outs-Struct fields)

array_is : (ty : EsiType) (index : ℕ) (piece : Piece) → element_of ty index ≡ Some piece
    → (item : EsiType) × (count : ℕ) × (ty ≡ T.Array item count) × (index < count) × (piece_as item (index * width_of item) ≡ piece)
unfolding element_of
array_is ty index piece e = of (out-EsiType ty) refl e
  where
    of : (level : EsiType-F EsiType Field) → out-EsiType ty ≡ level → level_element level index ≡ Some piece
        → (item : EsiType) × (count : ℕ) × (ty ≡ T.Array item count) × (index < count) × (piece_as item (index * width_of item) ≡ piece)
    of (EsiType-F.Bits class width) same e = absurd (cc)
    of EsiType-F.Void same e = absurd (cc)
    of (EsiType-F.Struct fields) same e = absurd (cc)
    of (EsiType-F.Array item count) same e =
        let c = chosen (nat_lt index count) (Some (piece_as item (index * width_of item))) piece e in
        (item, count, sym (roll-out-EsiType ty) ∙ ap roll-EsiType same ∙ rolls-Array item count, ltb-true index count c.0, same_Some _ piece c.1)

element_given : (item : EsiType) (count index : ℕ) → index < count → element_of (T.Array item count) index ≡ Some (piece_as item (index * width_of item))
unfolding element_of
element_given item count index less =
    ap (λ level. level_element level index) (outs-Array item count)
    ∙ ap (λ (t : Bool). if t then Some (piece_as item (index * width_of item)) else None) (lt-ltb index count less)

pub parts_found : (suffixes : List Suffix) (a t : Typed) → parts_of suffixes a ≡ Ok t → TakesParts a suffixes t
parts_found [] a t e = subst (TakesParts a []) (same_typed a t e) (R.none a)
parts_found (X.Field name ∷ suffixes) a t e =
    let b = bound (part_of a (X.Field name)) (parts_of suffixes) t e in
    let part = part_found a (X.Field name) b.0 b.1 in
    let struct = struct_is a.ty name.octets part.piece part.found in
    subst (λ ty. TakesParts (typed_as a.at ty a.formula) (X.Field name ∷ suffixes) t) (sym struct.1)
    (R.field a.at struct.0 a.formula name suffixes part.piece.ty part.piece.low part.whole part.width t
    (subst (λ ty. HasWidth ty part.whole) struct.1 part.wide)
    (field_is name.octets struct.0 part.piece struct.2)
    part.long
    (subst (λ b. TakesParts b suffixes t) (sym part.same) (parts_found suffixes b.0 t b.2)))
parts_found (X.Element index ∷ suffixes) a t e =
    let b = bound (part_of a (X.Element index)) (parts_of suffixes) t e in
    let part = part_found a (X.Element index) b.0 b.1 in
    let array = array_is a.ty index.value part.piece part.found in
    let item : array.0 ≡ part.piece.ty = ap (λ (p : Piece). p.ty) array.4 in
    let long : HasWidth array.0 part.width = subst (λ ty. HasWidth ty part.width) (sym item) part.long in
    let low : part.piece.low ≡ index.value * part.width = sym (ap (λ (p : Piece). p.low) array.4) ∙ ap (λ n. index.value * n) long.is in
    let same : b.0 ≡ typed_as a.at array.0 (F.Slice a.formula (index.value * part.width + part.width - 1) (index.value * part.width)) =
    sym part.same
    ∙ ap (λ ty. typed_as a.at ty (F.Slice a.formula (part.piece.low + part.width - 1) part.piece.low)) (sym item)
    ∙ ap (λ low. typed_as a.at array.0 (F.Slice a.formula (low + part.width - 1) low)) low in
    subst (λ ty. TakesParts (typed_as a.at ty a.formula) (X.Element index ∷ suffixes) t) (sym array.2)
    (R.element a.at array.0 array.1 a.formula index suffixes part.whole part.width t
    (subst (λ ty. HasWidth ty part.whole) array.2 part.wide)
    array.3
    long
    (subst (λ b. TakesParts b suffixes t) same (parts_found suffixes b.0 t b.2)))

pub parts_given : {a : Typed} {suffixes : List Suffix} {t : Typed} → TakesParts a suffixes t → parts_of suffixes a ≡ Ok t
parts_given (R.none t) = refl
parts_given (R.field at fields formula name suffixes ty low whole width t wide is long more) =
    ap (λ m. m >>= parts_of suffixes)
    (part_given (typed_as at (T.Struct fields) formula) (X.Field name) whole (piece_as ty low) width wide
    (field_given fields name.octets ∙ is_field name.octets fields ty low is.i is.field is.stands is.named is.typed is.first is.below)
    long)
    ∙ parts_given more
parts_given (R.element at item count formula index suffixes whole width t wide less long more) =
    ap (λ m. m >>= parts_of suffixes)
    (part_given (typed_as at (T.Array item count) formula) (X.Element index) whole (piece_as item (index.value * width_of item)) width wide
    (element_given item count index.value less)
    long
    ∙ ap (λ n. Ok (typed_as at item (F.Slice formula (index.value * n + width - 1) (index.value * n)))) long.is)
    ∙ parts_given more

module _ (vs : List Variable) where
  -- ---- literals

  literal_found : (at : ℕ) (ty : EsiType) (number : Number) (t : Typed) → literal_of at ty number.value ≡ Ok t → Row vs (E.Literal at ty number) [] t
  unfolding literal_word
  literal_found at ty number t e = of (out-EsiType ty) refl e
    where
      word_is : (word : Option Bits) → literal_at at ty word ≡ Ok t → (bits : Bits) × (word ≡ Some bits) × (typed_as at ty (F.Const bits) ≡ t)
      word_is None e = absurd (cc)
      word_is (Some bits) e = (bits, refl, same_typed _ t e)

      of : (level : EsiType-F EsiType Field) → out-EsiType ty ≡ level → literal_at at ty (level_literal level number.value) ≡ Ok t → Row vs (E.Literal at ty number) [] t
      of (EsiType-F.Bits class width) same e =
          let w = word_is (level_literal (EsiType-F.Bits class width) number.value) e in
          let c = chosen (nat_le 1 width && (nat_le width WIDEST_TYPE && nat_lt number.value (2 ^ width))) (Some (bits_of width number.value)) w.0 w.1 in
          let p = and_parts (nat_le 1 width) (nat_le width WIDEST_TYPE && nat_lt number.value (2 ^ width)) c.0 in
          let q = and_parts (nat_le width WIDEST_TYPE) (nat_lt number.value (2 ^ width)) p.1 in
          let is : ty ≡ T.Bits class width = sym (roll-out-EsiType ty) ∙ ap roll-EsiType same ∙ rolls-Bits class width in
          subst (Row vs (E.Literal at ty number) []) w.2
          (subst (λ bits. Row vs (E.Literal at ty number) [] (typed_as at ty (F.Const bits))) (same_Some _ w.0 c.1)
          (subst (λ ty. Row vs (E.Literal at ty number) [] (typed_as at ty (F.Const (bits_of width number.value)))) (sym is)
          (R.literal at class width number (leb-true 1 width p.0) (leb-true width WIDEST_TYPE q.0) (ltb-true number.value (2 ^ width) q.1))))
      of EsiType-F.Void same e =
          let w = word_is (level_literal EsiType-F.Void number.value) e in
          let c = chosen (number.value == 0) (Some (bits_of 1 0)) w.0 w.1 in
          let is : ty ≡ T.Void = sym (roll-out-EsiType ty) ∙ ap roll-EsiType same ∙ rolls-Void in
          subst (Row vs (E.Literal at ty number) []) w.2
          (subst (λ bits. Row vs (E.Literal at ty number) [] (typed_as at ty (F.Const bits))) (same_Some _ w.0 c.1)
          (subst (λ ty. Row vs (E.Literal at ty number) [] (typed_as at ty (F.Const (bits_of 1 0)))) (sym is)
          (R.literal_void at number (eqb-true number.value 0 c.0))))
      of (EsiType-F.Struct fields) same e = absurd (cc)
      of (EsiType-F.Array item count) same e = absurd (cc)

  word_of_bits : (class : Class) (width value : ℕ) → 1 ≤ width → width ≤ WIDEST_TYPE → value < 2 ^ width → literal_word (T.Bits class width) value ≡ Some (bits_of width value)
  unfolding literal_word
  word_of_bits class width value low high fits =
      ap (λ level. level_literal level value) (outs-Bits class width)
      ∙ ap (λ (t : Bool). if t then Some (bits_of width value) else None)
      (and_from (nat_le 1 width) (nat_le width WIDEST_TYPE && nat_lt value (2 ^ width)) (le-leb 1 width low)
      (and_from (nat_le width WIDEST_TYPE) (nat_lt value (2 ^ width)) (le-leb width WIDEST_TYPE high) (lt-ltb value (2 ^ width) fits)))

  word_of_void : (value : ℕ) → value ≡ 0 → literal_word T.Void value ≡ Some (bits_of 1 0)
  unfolding literal_word
  word_of_void value none =
      ap (λ level. level_literal level value) outs-Void
      ∙ ap (λ (t : Bool). if t then Some (bits_of 1 0) else None) (eq-eqb value 0 none)

  -- ---- make

  make_found : (at : ℕ) (ty : EsiType) (parts : List Expression) (of : List Typed) (t : Typed) → make_of at ty (parts_in of) ≡ Ok t → Row vs (E.Make at ty parts) of t
  unfolding join_of
  make_found at ty parts of t e = within (value_width ty) refl e
    where
      half_is : (half : Option Half) → make_joined at ty (map formula_of_typed of) half ≡ Ok t
          → (so_far : Half) × (half ≡ Some so_far) × (typed_as at ty (F.Join (map formula_of_typed of) so_far) ≡ t)
      half_is None e = absurd (cc)
      half_is (Some so_far) e = (so_far, refl, same_typed _ t e)

      level : (width : ℕ) → HasWidth ty width → (level : EsiType-F EsiType Field) → out-EsiType ty ≡ level
          → make_joined at ty (map formula_of_typed of) (level_joined level (map type_of_typed of)) ≡ Ok t → Row vs (E.Make at ty parts) of t
      level width wide (EsiType-F.Bits class n) same e = absurd (cc)
      level width wide EsiType-F.Void same e = absurd (cc)
      level width wide (EsiType-F.Struct fields) same e =
          let h = half_is (level_joined (EsiType-F.Struct fields) (map type_of_typed of)) e in
          let c = chosen (fields_given fields (map type_of_typed of)) (Some High) h.0 h.1 in
          let is : ty ≡ T.Struct fields = sym (roll-out-EsiType ty) ∙ ap roll-EsiType same ∙ rolls-Struct fields in
          subst (Row vs (E.Make at ty parts) of) h.2
          (subst (λ so_far. Row vs (E.Make at ty parts) of (typed_as at ty (F.Join (map formula_of_typed of) so_far))) (same_Some High h.0 c.1)
          (subst (λ ty. Row vs (E.Make at ty parts) of (typed_as at ty (F.Join (map formula_of_typed of) High))) (sym is)
          (R.make_struct at fields parts of width (subst (λ ty. HasWidth ty width) is wide) (fields_same fields (map type_of_typed of) c.0))))
      level width wide (EsiType-F.Array item count) same e =
          let h = half_is (level_joined (EsiType-F.Array item count) (map type_of_typed of)) e in
          let c = chosen (elements_given item count (map type_of_typed of)) (Some Low) h.0 h.1 in
          let is : ty ≡ T.Array item count = sym (roll-out-EsiType ty) ∙ ap roll-EsiType same ∙ rolls-Array item count in
          subst (Row vs (E.Make at ty parts) of) h.2
          (subst (λ so_far. Row vs (E.Make at ty parts) of (typed_as at ty (F.Join (map formula_of_typed of) so_far))) (same_Some Low h.0 c.1)
          (subst (λ ty. Row vs (E.Make at ty parts) of (typed_as at ty (F.Join (map formula_of_typed of) Low))) (sym is)
          (R.make_array at item count parts of width (subst (λ ty. HasWidth ty width) is wide) (elements_same item count (map type_of_typed of) c.0))))

      within : (width : Option ℕ) → value_width ty ≡ width → make_within at ty (parts_in of) width ≡ Ok t → Row vs (E.Make at ty parts) of t
      within None same e = absurd (cc)
      within (Some width) same e = level width (value_has ty width same) (out-EsiType ty) refl e

  struct_joined : (fields : List Field) (types : List EsiType) → types ≡ map type_of_field fields → join_of (T.Struct fields) types ≡ Some High
  unfolding join_of
  struct_joined fields types same =
      ap (λ level. level_joined level types) (outs-Struct fields)
      ∙ ap (λ (b : Bool). if b then Some High else None) (ap (fields_given fields) same ∙ same_fields_given fields)

  array_joined : (item : EsiType) (count : ℕ) (types : List EsiType) → types ≡ replicate count item → join_of (T.Array item count) types ≡ Some Low
  unfolding join_of
  array_joined item count types same =
      ap (λ level. level_joined level types) (outs-Array item count)
      ∙ ap (λ (b : Bool). if b then Some Low else None) (ap (elements_given item count) same ∙ same_elements_given item count)

  make_given : (at : ℕ) (ty : EsiType) (of : List Typed) (width : ℕ) (half : Half) → HasWidth ty width → join_of ty (map type_of_typed of) ≡ Some half
      → make_of at ty (parts_in of) ≡ Ok (typed_as at ty (F.Join (map formula_of_typed of) half))
  make_given at ty of width half wide joins =
      ap (make_within at ty (parts_in of)) (has_value ty width wide) ∙ ap (make_joined at ty (map formula_of_typed of)) joins

  -- ---- operators of one operand

  cast_found : (at : ℕ) (ty : EsiType) (of : Expression) (a t : Typed) → cast_of at ty a ≡ Ok t → Row vs (E.Cast at ty of) (a ∷ []) t
  cast_found at ty of a t e =
      let m = made_if (same_width (value_width ty) (value_width a.ty) && not (has_void ty)) at at ty a.formula t e in
      let p = and_parts (same_width (value_width ty) (value_width a.ty)) (not (has_void ty)) m.0 in
      let w = same_width_found (value_width ty) (value_width a.ty) p.0 in
      subst (Row vs (E.Cast at ty of) (a ∷ [])) m.1
      (R.cast at ty of a w.0 (value_has ty w.0 w.1) (value_has a.ty w.0 w.2) (not_true (has_void ty) p.1))

  cast_given : (at : ℕ) (ty : EsiType) (a : Typed) (width : ℕ) → HasWidth ty width → HasWidth a.ty width → has_void ty ≡ false → cast_of at ty a ≡ Ok (typed_as at ty a.formula)
  cast_given at ty a width wide own void =
      if_made (same_width (value_width ty) (value_width a.ty) && not (has_void ty)) at at ty a.formula
      (and_from (same_width (value_width ty) (value_width a.ty)) (not (has_void ty))
      (same_width_given (value_width ty) (value_width a.ty) width (has_value ty width wide) (has_value a.ty width own))
      (ap not void))

  extended_more : (formula : Formula) (more : ℕ) → 0 < more → extended formula more ≡ F.Concat (F.Const (replicate more false)) formula Low
  extended_more formula more less =
      ap (λ (t : Bool). if t then formula else F.Concat (F.Const (replicate more false)) formula Low)
      (false_from_ne_true (more == 0) (λ e. let none = eqb-true more 0 e in absurd (omega (arith, less, none))))

  zext_found : (at : ℕ) (width : Number) (of : Expression) (a t : Typed) → zext_of at width.value a ≡ Ok t → Row vs (E.Zext at width of) (a ∷ []) t
  zext_found at width of a t e = inner (number_type a.ty) refl e
    where
      by_more : (n : NumberType) → IsNumber a.ty n → (n.class ≡ Signed → ⊥) → n.width ≤ width.value → width.value ≤ WIDEST_TYPE → (more : ℕ) → width.value - n.width ≡ more
          → Row vs (E.Zext at width of) (a ∷ []) (typed_as at (T.Bits n.class width.value) (extended a.formula more))
      by_more n is unsigned low high zero d = R.zext_same at width of a n is unsigned (omega (arith, low, d))
      by_more n is unsigned low high (suc k) d =
          subst (λ f. Row vs (E.Zext at width of) (a ∷ []) (typed_as at (T.Bits n.class width.value) f))
          (sym (extended_more a.formula (width.value - n.width) (omega (arith, d))) ∙ ap (extended a.formula) d)
          (R.zext at width of a n is unsigned (omega (arith, low, d)) high)

      inner : (n : Option NumberType) → number_type a.ty ≡ n → zext_at at width.value a n ≡ Ok t → Row vs (E.Zext at width of) (a ∷ []) t
      inner None same e = absurd (cc)
      inner (Some n) same e =
          let m = made_if (extends n width.value) at at (T.Bits n.class width.value) (extended a.formula (width.value - n.width)) t e in
          let p = and_parts (not (is_signed n.class)) (nat_le n.width width.value && nat_le width.value WIDEST_TYPE) m.0 in
          let q = and_parts (nat_le n.width width.value) (nat_le width.value WIDEST_TYPE) p.1 in
          subst (Row vs (E.Zext at width of) (a ∷ [])) m.1
          (by_more n (number_is a.ty n same) (not_signed n.class p.0) (leb-true n.width width.value q.0) (leb-true width.value WIDEST_TYPE q.1) (width.value - n.width) refl)

  zext_given : (at width : ℕ) (a : Typed) (n : NumberType) → IsNumber a.ty n → (n.class ≡ Signed → ⊥) → n.width ≤ width → width ≤ WIDEST_TYPE
      → zext_of at width a ≡ Ok (typed_as at (T.Bits n.class width) (extended a.formula (width - n.width)))
  zext_given at width a n is unsigned low high =
      ap (zext_at at width a) (number_given a.ty n is)
      ∙ if_made (extends n width) at at (T.Bits n.class width) (extended a.formula (width - n.width))
      (and_from (not (is_signed n.class)) (nat_le n.width width && nat_le width WIDEST_TYPE) (signed_not n.class unsigned)
      (and_from (nat_le n.width width) (nat_le width WIDEST_TYPE) (le-leb n.width width low) (le-leb width WIDEST_TYPE high)))

  slice_found : (at : ℕ) (high low : Number) (of : Expression) (a t : Typed) → slice_of at high.value low.value a ≡ Ok t → Row vs (E.Slice at high low of) (a ∷ []) t
  slice_found at high low of a t e = inner (value_width a.ty) refl e
    where
      inner : (width : Option ℕ) → value_width a.ty ≡ width → slice_at at high.value low.value a width ≡ Ok t → Row vs (E.Slice at high low of) (a ∷ []) t
      inner None same e = absurd (cc)
      inner (Some width) same e =
          let m = made_if (nat_le low.value high.value && nat_lt high.value width) at at (T.Bits Plain (high.value - low.value + 1)) (F.Slice a.formula high.value low.value) t e in
          let p = and_parts (nat_le low.value high.value) (nat_lt high.value width) m.0 in
          subst (Row vs (E.Slice at high low of) (a ∷ [])) m.1
          (R.slice at high low of a width (value_has a.ty width same) (leb-true low.value high.value p.0) (ltb-true high.value width p.1))

  slice_given : (at high low : ℕ) (a : Typed) (width : ℕ) → HasWidth a.ty width → low ≤ high → high < width
      → slice_of at high low a ≡ Ok (typed_as at (T.Bits Plain (high - low + 1)) (F.Slice a.formula high low))
  slice_given at high low a width wide less within =
      ap (slice_at at high low a) (has_value a.ty width wide)
      ∙ if_made (nat_le low high && nat_lt high width) at at (T.Bits Plain (high - low + 1)) (F.Slice a.formula high low)
      (and_from (nat_le low high) (nat_lt high width) (le-leb low high less) (lt-ltb high width within))

  not_found : (at : ℕ) (of : Expression) (a t : Typed) → not_of at a ≡ Ok t → Row vs (E.Not at of) (a ∷ []) t
  not_found at of a t e = inner (number_type a.ty) refl e
    where
      inner : (n : Option NumberType) → number_type a.ty ≡ n → not_at at a n ≡ Ok t → Row vs (E.Not at of) (a ∷ []) t
      inner None same e = absurd (cc)
      inner (Some n) same e = subst (Row vs (E.Not at of) (a ∷ [])) (same_typed _ t e) (R.complement at of a n (number_is a.ty n same))

  -- ---- operators of two operands

  pair_made : (at : ℕ) (formula : Formula) (ty : Option EsiType) (t : Typed) → pair_at at formula ty ≡ Ok t → (own : EsiType) × (ty ≡ Some own) × (typed_as at own formula ≡ t)
  pair_made at formula None t e = absurd (cc)
  pair_made at formula (Some ty) t e = (ty, refl, same_typed _ t e)

  bitwise_found : (ty : EsiType) (n : Option NumberType) (own : EsiType) → bitwise_at ty n ≡ Some own → (m : NumberType) × (n ≡ Some m) × (ty ≡ own)
  bitwise_found ty None own e = absurd (cc)
  bitwise_found ty (Some n) own e = (n, refl, same_Some ty own e)

  arithmetic_found : (ty : EsiType) (n : Option NumberType) (own : EsiType) → arithmetic_at ty n ≡ Some own
      → (m : NumberType) × (n ≡ Some m) × (m.class ≡ Plain → ⊥) × (m.width ≤ MAX_NUMBER_WIDTH) × (ty ≡ own)
  arithmetic_found ty None own e = absurd (cc)
  arithmetic_found ty (Some n) own e =
      let c = chosen (is_arithmetic n) (Some ty) own e in
      let p = and_parts (is_unsigned n.class || is_signed n.class) (is_narrow n) c.0 in
      (n, refl, not_plain n.class p.0, leb-true n.width MAX_NUMBER_WIDTH p.1, same_Some ty own c.1)

  less_found : (n : Option NumberType) (own : EsiType) → less_at n ≡ Some own → (m : NumberType) × (n ≡ Some m) × (m.class ≡ Unsigned) × (m.width ≤ MAX_NUMBER_WIDTH) × (BIT ≡ own)
  less_found None own e = absurd (cc)
  less_found (Some n) own e =
      let c = chosen (is_unsigned n.class && is_narrow n) (Some BIT) own e in
      let p = and_parts (is_unsigned n.class) (is_narrow n) c.0 in
      (n, refl, unsigned_is n.class p.0, leb-true n.width MAX_NUMBER_WIDTH p.1, same_Some BIT own c.1)

  cat_found : (x y : Option ℕ) (own : EsiType) → cat_at x y ≡ Some own → (a : ℕ) × (b : ℕ) × (x ≡ Some a) × (y ≡ Some b) × (a + b ≤ WIDEST_TYPE) × (T.Bits Plain (a + b) ≡ own)
  cat_found None None own e = absurd (cc)
  cat_found None (Some b) own e = absurd (cc)
  cat_found (Some a) None own e = absurd (cc)
  cat_found (Some a) (Some b) own e =
      let c = chosen (nat_le (a + b) WIDEST_TYPE) (Some (T.Bits Plain (a + b))) own e in
      (a, b, refl, refl, leb-true (a + b) WIDEST_TYPE c.0, same_Some _ own c.1)

  pair_found : (at : ℕ) (operator : Binary) (left right : Expression) (a b t : Typed) → pair_of at operator a b ≡ Ok t → Row vs (E.Binary at operator left right) (a ∷ b ∷ []) t
  pair_found at And left right a b t e =
      let m = pair_made at (F.And a.formula b.formula) (bitwise_at a.ty (common_number a.ty b.ty)) t e in
      let n = bitwise_found a.ty (common_number a.ty b.ty) m.0 m.1 in
      let c = common_found a.ty b.ty n.0 n.1 in
      subst (Row vs (E.Binary at And left right) (a ∷ b ∷ [])) (ap (λ ty. typed_as at ty (F.And a.formula b.formula)) n.2 ∙ m.2) (R.conjunction at left right a b n.0 c.0 c.1)
  pair_found at Or left right a b t e =
      let m = pair_made at (F.Or a.formula b.formula) (bitwise_at a.ty (common_number a.ty b.ty)) t e in
      let n = bitwise_found a.ty (common_number a.ty b.ty) m.0 m.1 in
      let c = common_found a.ty b.ty n.0 n.1 in
      subst (Row vs (E.Binary at Or left right) (a ∷ b ∷ [])) (ap (λ ty. typed_as at ty (F.Or a.formula b.formula)) n.2 ∙ m.2) (R.disjunction at left right a b n.0 c.0 c.1)
  pair_found at Xor left right a b t e =
      let m = pair_made at (F.Xor a.formula b.formula) (bitwise_at a.ty (common_number a.ty b.ty)) t e in
      let n = bitwise_found a.ty (common_number a.ty b.ty) m.0 m.1 in
      let c = common_found a.ty b.ty n.0 n.1 in
      subst (Row vs (E.Binary at Xor left right) (a ∷ b ∷ [])) (ap (λ ty. typed_as at ty (F.Xor a.formula b.formula)) n.2 ∙ m.2) (R.exclusive at left right a b n.0 c.0 c.1)
  pair_found at Add left right a b t e =
      let m = pair_made at (F.Add a.formula b.formula) (arithmetic_at a.ty (common_number a.ty b.ty)) t e in
      let n = arithmetic_found a.ty (common_number a.ty b.ty) m.0 m.1 in
      let c = common_found a.ty b.ty n.0 n.1 in
      subst (Row vs (E.Binary at Add left right) (a ∷ b ∷ [])) (ap (λ ty. typed_as at ty (F.Add a.formula b.formula)) n.4 ∙ m.2) (R.sum at left right a b n.0 c.0 c.1 n.2 n.3)
  pair_found at Sub left right a b t e =
      let m = pair_made at (F.Sub a.formula b.formula) (arithmetic_at a.ty (common_number a.ty b.ty)) t e in
      let n = arithmetic_found a.ty (common_number a.ty b.ty) m.0 m.1 in
      let c = common_found a.ty b.ty n.0 n.1 in
      subst (Row vs (E.Binary at Sub left right) (a ∷ b ∷ [])) (ap (λ ty. typed_as at ty (F.Sub a.formula b.formula)) n.4 ∙ m.2) (R.difference at left right a b n.0 c.0 c.1 n.2 n.3)
  pair_found at Eq left right a b t e =
      let m = pair_made at (F.Equal a.formula b.formula) (if same_types a.ty b.ty then Some BIT else None) t e in
      let c = chosen (same_types a.ty b.ty) (Some BIT) m.0 m.1 in
      subst (Row vs (E.Binary at Eq left right) (a ∷ b ∷ [])) (ap (λ ty. typed_as at ty (F.Equal a.formula b.formula)) (same_Some BIT m.0 c.1) ∙ m.2)
      (R.equality at left right a b ((is_test a.ty b.ty).0 c.0))
  pair_found at Lt left right a b t e =
      let m = pair_made at (F.Less a.formula b.formula) (less_at (common_number a.ty b.ty)) t e in
      let n = less_found (common_number a.ty b.ty) m.0 m.1 in
      let c = common_found a.ty b.ty n.0 n.1 in
      subst (Row vs (E.Binary at Lt left right) (a ∷ b ∷ [])) (ap (λ ty. typed_as at ty (F.Less a.formula b.formula)) n.4 ∙ m.2) (R.less at left right a b n.0 c.0 c.1 n.2 n.3)
  pair_found at Cat left right a b t e =
      let m = pair_made at (F.Concat a.formula b.formula High) (cat_at (value_width a.ty) (value_width b.ty)) t e in
      let n = cat_found (value_width a.ty) (value_width b.ty) m.0 m.1 in
      subst (Row vs (E.Binary at Cat left right) (a ∷ b ∷ [])) (ap (λ ty. typed_as at ty (F.Concat a.formula b.formula High)) n.5 ∙ m.2)
      (R.concatenation at left right a b n.0 n.1 (value_has a.ty n.0 n.2) (value_has b.ty n.1 n.3) n.4)

  arithmetic_given : (ty : EsiType) (n : NumberType) → (n.class ≡ Plain → ⊥) → n.width ≤ MAX_NUMBER_WIDTH → arithmetic_at ty (Some n) ≡ Some ty
  arithmetic_given ty n counts narrow =
      ap (λ (t : Bool). if t then Some ty else None)
      (and_from (is_unsigned n.class || is_signed n.class) (is_narrow n) (plain_not n.class counts) (le-leb n.width MAX_NUMBER_WIDTH narrow))

  less_given : (n : NumberType) → n.class ≡ Unsigned → n.width ≤ MAX_NUMBER_WIDTH → less_at (Some n) ≡ Some BIT
  less_given n unsigned narrow =
      ap (λ (t : Bool). if t then Some BIT else None)
      (and_from (is_unsigned n.class) (is_narrow n) (ap is_unsigned unsigned) (le-leb n.width MAX_NUMBER_WIDTH narrow))

  -- ---- mux

  bit_found : (n : Option NumberType) → is_bit n ≡ true → (m : NumberType) × (n ≡ Some m) × (m.class ≡ Signed → ⊥) × (m.width ≡ 1)
  bit_found None e = absurd (cc)
  bit_found (Some n) e = let p = and_parts (not (is_signed n.class)) (n.width == 1) e in (n, refl, not_signed n.class p.0, eqb-true n.width 1 p.1)

  mux_found : (at : ℕ) (condition one other : Expression) (c a b t : Typed) → mux_of at c a b ≡ Ok t → Row vs (E.Mux at condition one other) (c ∷ a ∷ b ∷ []) t
  mux_found at condition one other c a b t e =
      let m = made_if (is_bit (number_type c.ty) && same_types a.ty b.ty) at at a.ty (F.Choose c.formula a.formula b.formula) t e in
      let p = and_parts (is_bit (number_type c.ty)) (same_types a.ty b.ty) m.0 in
      let n = bit_found (number_type c.ty) p.0 in
      subst (Row vs (E.Mux at condition one other) (c ∷ a ∷ b ∷ [])) m.1
      (R.choice at condition one other c a b n.0 (number_is c.ty n.0 n.1) n.2 n.3 ((is_test a.ty b.ty).0 p.1))

  mux_given : (at : ℕ) (c a b : Typed) (n : NumberType) → IsNumber c.ty n → (n.class ≡ Signed → ⊥) → n.width ≡ 1 → a.ty ≡ b.ty
      → mux_of at c a b ≡ Ok (typed_as at a.ty (F.Choose c.formula a.formula b.formula))
  mux_given at c a b n is unsigned one same =
      if_made (is_bit (number_type c.ty) && same_types a.ty b.ty) at at a.ty (F.Choose c.formula a.formula b.formula)
      (and_from (is_bit (number_type c.ty)) (same_types a.ty b.ty)
      (ap is_bit (number_given c.ty n is) ∙ and_from (not (is_signed n.class)) (n.width == 1) (signed_not n.class unsigned) (eq-eqb n.width 1 one))
      ((is_test a.ty b.ty).1 same))

  -- ---- the table

  level_found : (level : Expression-F Expression) (of : List Typed) (t : Typed) → level_row vs level of ≡ Ok t → Row vs (roll-Expression level) of t
  level_found (Expression-F.Variable name) of t e =
      let o = none_given (variable_from name 0 vs) of t e in
      let v = variable_found name 0 vs t o.1 in
      subst (λ e. Row vs e of t) (sym (rolls-Variable name))
      (subst (λ of. Row vs (E.Variable name) of t) (sym o.0)
      (subst (Row vs (E.Variable name) []) (ap (λ i. typed_as name.at v.ty (F.Var i)) (let k : v.i ≡ 0 + v.i = omega arith in k) ∙ v.same)
      (R.variable name v.i v.ty v.is)))
  level_found (Expression-F.Part e suffixes) of t h =
      let o = one_given (parts_of suffixes) of t h in
      subst (λ e. Row vs e of t) (sym (rolls-Part e suffixes))
      (subst (λ of. Row vs (E.Part e suffixes) of t) (sym o.1) (R.part e suffixes o.0 t (parts_found suffixes o.0 t o.2)))
  level_found (Expression-F.Literal at ty number) of t e =
      let o = none_given (literal_of at ty number.value) of t e in
      subst (λ e. Row vs e of t) (sym (rolls-Literal at ty number))
      (subst (λ of. Row vs (E.Literal at ty number) of t) (sym o.0) (literal_found at ty number t o.1))
  level_found (Expression-F.Make at ty parts) of t e =
      subst (λ e. Row vs e of t) (sym (rolls-Make at ty parts)) (make_found at ty parts of t e)
  level_found (Expression-F.Cast at ty e) of t h =
      let o = one_given (cast_of at ty) of t h in
      subst (λ e. Row vs e of t) (sym (rolls-Cast at ty e)) (subst (λ of. Row vs (E.Cast at ty e) of t) (sym o.1) (cast_found at ty e o.0 t o.2))
  level_found (Expression-F.Zext at width e) of t h =
      let o = one_given (zext_of at width.value) of t h in
      subst (λ e. Row vs e of t) (sym (rolls-Zext at width e)) (subst (λ of. Row vs (E.Zext at width e) of t) (sym o.1) (zext_found at width e o.0 t o.2))
  level_found (Expression-F.Slice at high low e) of t h =
      let o = one_given (slice_of at high.value low.value) of t h in
      subst (λ e. Row vs e of t) (sym (rolls-Slice at high low e)) (subst (λ of. Row vs (E.Slice at high low e) of t) (sym o.1) (slice_found at high low e o.0 t o.2))
  level_found (Expression-F.Not at e) of t h =
      let o = one_given (not_of at) of t h in
      subst (λ e. Row vs e of t) (sym (rolls-Not at e)) (subst (λ of. Row vs (E.Not at e) of t) (sym o.1) (not_found at e o.0 t o.2))
  level_found (Expression-F.Binary at operator left right) of t h =
      let o = two_given (pair_of at operator) of t h in
      subst (λ e. Row vs e of t) (sym (rolls-Binary at operator left right))
      (subst (λ of. Row vs (E.Binary at operator left right) of t) (sym o.2) (pair_found at operator left right o.0 o.1 t o.3))
  level_found (Expression-F.Mux at condition one other) of t h =
      let o = three_given (mux_of at) of t h in
      subst (λ e. Row vs e of t) (sym (rolls-Mux at condition one other))
      (subst (λ of. Row vs (E.Mux at condition one other) of t) (sym o.3) (mux_found at condition one other o.0 o.1 o.2 t o.4))

  pub row_found : (e : Expression) (of : List Typed) (t : Typed) → level_row vs (out-Expression e) of ≡ Ok t → Row vs e of t
  row_found e of t h = subst (λ e. Row vs e of t) (roll-out-Expression e) (level_found (out-Expression e) of t h)

  pub row_given : {e : Expression} {of : List Typed} {t : Typed} → Row vs e of t → level_row vs (out-Expression e) of ≡ Ok t
  row_given (R.variable name i ty is) =
      ap (λ level. level_row vs level []) (outs-Variable name) ∙ variable_given name 0 vs i ty is ∙ ap (λ i. Ok (typed_as name.at ty (F.Var i))) (let k : 0 + i ≡ i = omega arith in k)
  row_given (R.part of suffixes a t parts) = ap (λ level. level_row vs level (a ∷ [])) (outs-Part of suffixes) ∙ parts_given parts
  row_given (R.literal at class width number low high fits) =
      ap (λ level. level_row vs level []) (outs-Literal at (T.Bits class width) number)
      ∙ ap (literal_at at (T.Bits class width)) (word_of_bits class width number.value low high fits)
  row_given (R.literal_void at number none) =
      ap (λ level. level_row vs level []) (outs-Literal at T.Void number) ∙ ap (literal_at at T.Void) (word_of_void number.value none)
  row_given (R.make_struct at fields parts of width wide same) =
      ap (λ level. level_row vs level of) (outs-Make at (T.Struct fields) parts)
      ∙ make_given at (T.Struct fields) of width High wide (struct_joined fields (map type_of_typed of) same)
  row_given (R.make_array at item count parts of width wide same) =
      ap (λ level. level_row vs level of) (outs-Make at (T.Array item count) parts)
      ∙ make_given at (T.Array item count) of width Low wide (array_joined item count (map type_of_typed of) same)
  row_given (R.cast at ty of a width wide own void) = ap (λ level. level_row vs level (a ∷ [])) (outs-Cast at ty of) ∙ cast_given at ty a width wide own void
  row_given (R.zext_same at width of a n is unsigned same) =
      ap (λ level. level_row vs level (a ∷ [])) (outs-Zext at width of)
      ∙ zext_given at width.value a n is unsigned (omega (arith, same)) (omega (arith, same, is.high))
      ∙ ap (λ more. Ok (typed_as at (T.Bits n.class width.value) (extended a.formula more))) (let k : width.value - n.width ≡ 0 = omega (arith, same) in k)
  row_given (R.zext at width of a n is unsigned less high) =
      ap (λ level. level_row vs level (a ∷ [])) (outs-Zext at width of)
      ∙ zext_given at width.value a n is unsigned (omega (arith, less)) high
      ∙ ap (λ f. Ok (typed_as at (T.Bits n.class width.value) f)) (extended_more a.formula (width.value - n.width) (omega (arith, less)))
  row_given (R.slice at high low of a width wide less within) =
      ap (λ level. level_row vs level (a ∷ [])) (outs-Slice at high low of) ∙ slice_given at high.value low.value a width wide less within
  row_given (R.complement at of a n is) = ap (λ level. level_row vs level (a ∷ [])) (outs-Not at of) ∙ ap (not_at at a) (number_given a.ty n is)
  row_given (R.conjunction at left right a b n same is) =
      ap (λ level. level_row vs level (a ∷ b ∷ [])) (outs-Binary at And left right)
      ∙ ap (λ n. pair_at at (F.And a.formula b.formula) (bitwise_at a.ty n)) (common_given a.ty b.ty n same is)
  row_given (R.disjunction at left right a b n same is) =
      ap (λ level. level_row vs level (a ∷ b ∷ [])) (outs-Binary at Or left right)
      ∙ ap (λ n. pair_at at (F.Or a.formula b.formula) (bitwise_at a.ty n)) (common_given a.ty b.ty n same is)
  row_given (R.exclusive at left right a b n same is) =
      ap (λ level. level_row vs level (a ∷ b ∷ [])) (outs-Binary at Xor left right)
      ∙ ap (λ n. pair_at at (F.Xor a.formula b.formula) (bitwise_at a.ty n)) (common_given a.ty b.ty n same is)
  row_given (R.sum at left right a b n same is counts narrow) =
      ap (λ level. level_row vs level (a ∷ b ∷ [])) (outs-Binary at Add left right)
      ∙ ap (λ n. pair_at at (F.Add a.formula b.formula) (arithmetic_at a.ty n)) (common_given a.ty b.ty n same is)
      ∙ ap (pair_at at (F.Add a.formula b.formula)) (arithmetic_given a.ty n counts narrow)
  row_given (R.difference at left right a b n same is counts narrow) =
      ap (λ level. level_row vs level (a ∷ b ∷ [])) (outs-Binary at Sub left right)
      ∙ ap (λ n. pair_at at (F.Sub a.formula b.formula) (arithmetic_at a.ty n)) (common_given a.ty b.ty n same is)
      ∙ ap (pair_at at (F.Sub a.formula b.formula)) (arithmetic_given a.ty n counts narrow)
  row_given (R.equality at left right a b same) =
      ap (λ level. level_row vs level (a ∷ b ∷ [])) (outs-Binary at Eq left right)
      ∙ ap (λ (t : Bool). pair_at at (F.Equal a.formula b.formula) (if t then Some BIT else None)) ((is_test a.ty b.ty).1 same)
  row_given (R.less at left right a b n same is unsigned narrow) =
      ap (λ level. level_row vs level (a ∷ b ∷ [])) (outs-Binary at Lt left right)
      ∙ ap (λ n. pair_at at (F.Less a.formula b.formula) (less_at n)) (common_given a.ty b.ty n same is)
      ∙ ap (pair_at at (F.Less a.formula b.formula)) (less_given n unsigned narrow)
  row_given (R.concatenation at left right a b high low wide other fits) =
      ap (λ level. level_row vs level (a ∷ b ∷ [])) (outs-Binary at Cat left right)
      ∙ ap (λ x. pair_at at (F.Concat a.formula b.formula High) (cat_at x (value_width b.ty))) (has_value a.ty high wide)
      ∙ ap (λ y. pair_at at (F.Concat a.formula b.formula High) (cat_at (Some high) y)) (has_value b.ty low other)
      ∙ ap (λ (t : Bool). pair_at at (F.Concat a.formula b.formula High) (if t then Some (T.Bits Plain (high + low)) else None)) (le-leb (high + low) WIDEST_TYPE fits)
  row_given (R.choice at condition one other c a b n is unsigned bit same) =
      ap (λ level. level_row vs level (c ∷ a ∷ b ∷ [])) (outs-Mux at condition one other) ∙ mux_given at c a b n is unsigned bit same
