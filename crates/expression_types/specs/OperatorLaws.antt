-- The formula that an operator gives is worth what the operator means on its operands, and is as wide as its type.
use Rattle.std.proofs.Common.{◌≡◌, ℕ, suc, ◌+◌, ◌-◌, ◌*◌, ◌^◌, ◌<◌, ◌≤◌, ◌==◌, Bool, true, false, Option, Some, None, List, [], ◌∷◌, ◌++◌, length, map, replicate, refl, ap, sym, ◌∙◌, subst, arith}
use Rattle.std.specs.Prelude.{slice_range, if◌then◌else◌, nat_lt, nat_le, ◌&&◌, ◌||◌, not, Ok, Err}
use Rattle.std.specs.Bool.{xor}
use Rattle.std.proofs.lemmas.Bool.{leb-true, le-leb, and_parts, and_from, eq-eqb, eqb-true}
use Rattle.std.proofs.lemmas.Option.{same_Some}
use Rattle.std.proofs.lemmas.List.{length-replicate}
use Rattle.esi_base.specs.Bits.{number_of, bits_of, zip_bits, same_bits, length-bits_of, bits_of-zero}
use Rattle.esi_base.specs.BitLists.{bits_of-number_of, bits_of-joined, number_of-below}
use Rattle.design_lex.specs.declared.token.Class.{Class}
use Rattle.design_lex.specs.declared.token.Class.TheVariants.{Unsigned, Plain}
use Rattle.design_lex.specs.declared.limits.TheConstants.{WIDEST_TYPE}
use Rattle.channel_types.specs.declared.esi_type.EsiType.{EsiType}
use Rattle.channel_types.specs.declared.esi_type.EsiType.TheVariants as T
use Rattle.channel_types.specs.declared.esi_type.EsiType.TheOpen.{EsiType-F}
use Rattle.channel_types.specs.declared.esi_type.EsiType.TheViews.{out-EsiType}
use Rattle.channel_types.specs.declared.esi_type.Field.{Field}
use Rattle.channel_types.specs.Types.{width_of, level_width}
use Rattle.channel_types.specs.Equations.{width-Bits, width-level}
use Rattle.channel_types.specs.SameTypes.{same_types}
use Rattle.channel_types.specs.SameTypesLaws.{is_test}
use Rattle.netlist.specs.declared.limits.TheConstants.{MAX_WIDTH, MAX_NUMBER_WIDTH}
use Rattle.netlist.specs.declared.formula.Half.TheVariants.{High, Low}
use Rattle.netlist.specs.declared.formula.Formula.{Formula}
use Rattle.netlist.specs.declared.formula.Formula.TheVariants as F
use Rattle.netlist.specs.Nets.{Bits}
use Rattle.netlist.specs.Formulas.{worth, size, size_both, size_number, size_bit, size_choose, size_slice, size_concat}
use Rattle.netlist.specs.FormulaLaws.{chosen, formula_widths}
use Rattle.netlist.specs.FormulaEquations.{worth-Const, worth-Not, worth-And, worth-Or, worth-Xor, worth-Add, worth-Sub, worth-Equal, worth-Less, worth-Choose, worth-Slice, worth-Concat, size-Const, size-Not, size-And, size-Or, size-Xor, size-Add, size-Sub, size-Equal, size-Less, size-Choose, size-Slice, size-Concat}
use Rattle.design_tree.specs.declared.operators.Binary.{Binary}
use Rattle.design_tree.specs.declared.operators.Binary.TheVariants.{And, Or, Xor, Add, Sub, Eq, Lt, Cat}
use Rattle.expression_types.specs.declared.number_type.NumberType.{NumberType}
use Rattle.expression_types.specs.Views.{Typed}
use Rattle.expression_types.specs.Typing.{Typing, made, value_width, number_type, is_unsigned, is_signed, has_void, BIT, level_literal, literal_word, literal_at, literal_of, same_width, cast_of, extends, extended, zext_at, zext_of, slice_at, slice_of, not_at, not_of, common_number, bitwise_at, is_narrow, is_arithmetic, arithmetic_at, less_at, cat_at, pair_type, pair_formula, pair_at, pair_of, is_bit, mux_of}
use Rattle.expression_types.specs.WidthLaws.{value_has, number_width}
use Rattle.expression_types.specs.Meaning.{pair_bits}

-- For words of its variables the formula is worth these bits; and it is good for words so wide, and as wide as its type.
pub record IsSound (words : List Bits) (bits : Bits) (t : Typed) : Type 0 where
  pub value : worth words t.formula ≡ bits
  pub good : size (map length words) t.formula ≡ Some (width_of t.ty)

abbrev pub typed_as : ℕ → EsiType → Formula → Typed
typed_as at ty formula = record { at = at; ty = ty; formula = formula }

-- ---- what is made is what is answered

abbrev value_or : Typed → Typing → Typed
value_or default (Ok t) = t
value_or default (Err at) = default

pub same_typed : (a t : Typed) → ◌≡◌ {A = Typing} (Ok a) (Ok t) → a ≡ t
same_typed a t e = ap (value_or a) e

pub made_if : (test : Bool) (at place : ℕ) (ty : EsiType) (formula : Formula) (t : Typed) → ◌≡◌ {A = Typing} (if test then made at ty formula else Err place) (Ok t)
    → (test ≡ true) × (typed_as at ty formula ≡ t)
made_if true at place ty formula t e = (refl, same_typed _ t e)
made_if false at place ty formula t e = absurd (cc)

-- ---- widths of operands that fit

both_good : (a b : Option ℕ) (width : ℕ) → a ≡ Some width → b ≡ Some width → size_both a b ≡ Some width
both_good a b width e h =
    ap (λ a. size_both a b) e ∙ ap (λ b. size_both (Some width) b) h ∙ ap (λ (t : Bool). if t then Some width else None) (eq-eqb width width refl)

number_good : (a : Option ℕ) (width : ℕ) → a ≡ Some width → width ≤ MAX_NUMBER_WIDTH → size_number a ≡ Some width
number_good a width e h = ap size_number e ∙ ap (λ (t : Bool). if t then Some width else None) (le-leb width MAX_NUMBER_WIDTH h)

pub slice_good : (of : Option ℕ) (high low width : ℕ) → of ≡ Some width → low ≤ high → high < width → size_slice of high low ≡ Some (high - low + 1)
slice_good of high low width e h l =
    ap (λ a. size_slice a high low) e
    ∙ ap (λ (t : Bool). if t then Some (high - low + 1) else None) (and_from (nat_le low high) (nat_lt high width) (le-leb low high h) (le-leb (suc high) width l))

pub concat_good : (high low : Option ℕ) (a b : ℕ) → high ≡ Some a → low ≡ Some b → a + b ≤ MAX_WIDTH → size_concat high low ≡ Some (a + b)
concat_good high low a b e h l =
    ap (λ x. size_concat x low) e ∙ ap (λ y. size_concat (Some a) y) h ∙ ap (λ (t : Bool). if t then Some (a + b) else None) (le-leb (a + b) MAX_WIDTH l)

common_fits : (left right : EsiType) (n : NumberType) → common_number left right ≡ Some n → (left ≡ right) × (number_type left ≡ Some n)
unfolding common_number
common_fits left right n e = let c = chosen (same_types left right) (number_type left) n e in ((is_test left right).0 c.0, c.1)

-- more bits above that are 0 leave the number as it is
zeros_above : (bits : Bits) (more : ℕ) → bits ++ replicate more false ≡ bits_of (length bits + more) (number_of bits)
zeros_above bits more = sym (
    ap (λ n. bits_of (length bits + more) n) (let e : number_of bits ≡ 0 * 2 ^ length bits + number_of bits = omega arith in e)
    ∙ bits_of-joined more (length bits) 0 (number_of bits) (number_of-below bits)
    ∙ ap (λ b. b ++ bits_of more 0) (bits_of-number_of bits)
    ∙ ap (λ b. bits ++ b) (bits_of-zero more))

literal_bits : (ty : EsiType) (number : ℕ) (word : Bits) → literal_word ty number ≡ Some word → word ≡ bits_of (width_of ty) number
unfolding literal_word
literal_bits ty number word e = of (out-EsiType ty) refl e
  where
    of : (level : EsiType-F EsiType Field) → out-EsiType ty ≡ level → level_literal level number ≡ Some word → word ≡ bits_of (width_of ty) number
    of (EsiType-F.Bits class width) same e =
        let c = chosen (nat_le 1 width && (nat_le width WIDEST_TYPE && nat_lt number (2 ^ width))) (Some (bits_of width number)) word e in
        sym (same_Some _ word c.1) ∙ ap (λ w. bits_of w number) (sym (width-level ty ∙ ap level_width same))
    of EsiType-F.Void same e =
        let c = chosen (number == 0) (Some (bits_of 1 0)) word e in
        sym (same_Some _ word c.1) ∙ ap (λ n. bits_of 1 n) (sym (eqb-true number 0 c.0)) ∙ ap (λ w. bits_of w number) (sym (width-level ty ∙ ap level_width same))
    of (EsiType-F.Struct fields) same e = absurd (cc)
    of (EsiType-F.Array item count) same e = absurd (cc)

-- ---- the operators

module _ (words : List Bits) where
  abbrev widths : List ℕ
  widths = map length words

  -- the bits of an operand are as wide as its type
  pub sound_width : (bits : Bits) (t : Typed) → IsSound words bits t → length bits ≡ width_of t.ty
  sound_width bits t s = sym (ap length s.value) ∙ formula_widths t.formula words (width_of t.ty) s.good

  pub sound_as : (bits : Bits) (a t : Typed) → a ≡ t → IsSound words bits a → IsSound words bits t
  sound_as bits a t e s = subst (IsSound words bits) e s

  pub not_sound : (at : ℕ) (bits : Bits) (a t : Typed) → IsSound words bits a → not_of at a ≡ Ok t → IsSound words (map not bits) t
  not_sound at bits a t s e = of (number_type a.ty) e
    where
      of : (n : Option NumberType) → not_at at a n ≡ Ok t → IsSound words (map not bits) t
      of None e = absurd (cc)
      of (Some n) e = sound_as _ _ t (same_typed _ t e) (record { value = worth-Not words a.formula ∙ ap (map not) s.value; good = size-Not widths a.formula ∙ s.good })

  module _ (x y : Bits) (a b : Typed) (s : IsSound words x a) (r : IsSound words y b) where
    both_values : (f : Bits → Bits → Bits) → f (worth words a.formula) (worth words b.formula) ≡ f x y
    both_values f = ap (λ p. f p (worth words b.formula)) s.value ∙ ap (f x) r.value

    same_size : a.ty ≡ b.ty → size_both (size widths a.formula) (size widths b.formula) ≡ Some (width_of a.ty)
    same_size e = both_good _ _ (width_of a.ty) s.good (r.good ∙ ap (λ ty. Some (width_of ty)) (sym e))

    bitwise_size : (ty : EsiType) → bitwise_at a.ty (common_number a.ty b.ty) ≡ Some ty → (a.ty ≡ ty) × (size_both (size widths a.formula) (size widths b.formula) ≡ Some (width_of ty))
    bitwise_size ty e = of (common_number a.ty b.ty) refl e
      where
        of : (n : Option NumberType) → common_number a.ty b.ty ≡ n → bitwise_at a.ty n ≡ Some ty → (a.ty ≡ ty) × (size_both (size widths a.formula) (size widths b.formula) ≡ Some (width_of ty))
        of None same e = absurd (cc)
        of (Some n) same e = let own = same_Some a.ty ty e in (own, same_size (common_fits a.ty b.ty n same).0 ∙ ap (λ ty. Some (width_of ty)) own)

    arithmetic_size : (ty : EsiType) → arithmetic_at a.ty (common_number a.ty b.ty) ≡ Some ty → size_number (size_both (size widths a.formula) (size widths b.formula)) ≡ Some (width_of ty)
    arithmetic_size ty e = of (common_number a.ty b.ty) refl e
      where
        of : (n : Option NumberType) → common_number a.ty b.ty ≡ n → arithmetic_at a.ty n ≡ Some ty → size_number (size_both (size widths a.formula) (size widths b.formula)) ≡ Some (width_of ty)
        of None same e = absurd (cc)
        of (Some n) same e =
            let c = chosen (is_arithmetic n) (Some a.ty) ty e in
            let p = and_parts (is_unsigned n.class || is_signed n.class) (is_narrow n) c.0 in
            let fit = common_fits a.ty b.ty n same in
            let narrow = leb-true n.width MAX_NUMBER_WIDTH p.1 in
            let wide = number_width a.ty n fit.1 in
            number_good _ (width_of a.ty) (same_size fit.0) (omega (arith, narrow, wide)) ∙ ap (λ ty. Some (width_of ty)) (same_Some a.ty ty c.1)

    less_size : (ty : EsiType) → less_at (common_number a.ty b.ty) ≡ Some ty → (BIT ≡ ty) × (size_number (size_both (size widths a.formula) (size widths b.formula)) ≡ Some (width_of a.ty))
    less_size ty e = of (common_number a.ty b.ty) refl e
      where
        of : (n : Option NumberType) → common_number a.ty b.ty ≡ n → less_at n ≡ Some ty → (BIT ≡ ty) × (size_number (size_both (size widths a.formula) (size widths b.formula)) ≡ Some (width_of a.ty))
        of None same e = absurd (cc)
        of (Some n) same e =
            let c = chosen (is_unsigned n.class && is_narrow n) (Some BIT) ty e in
            let p = and_parts (is_unsigned n.class) (is_narrow n) c.0 in
            let fit = common_fits a.ty b.ty n same in
            let narrow = leb-true n.width MAX_NUMBER_WIDTH p.1 in
            let wide = number_width a.ty n fit.1 in
            (same_Some BIT ty c.1, number_good _ (width_of a.ty) (same_size fit.0) (omega (arith, narrow, wide)))

    bit_width : (ty : EsiType) → BIT ≡ ty → Some 1 ≡ Some (width_of ty)
    bit_width ty e = ap Some (sym (width-Bits Unsigned 1)) ∙ ap (λ ty. Some (width_of ty)) e

    cat_size : (ty : EsiType) → cat_at (value_width a.ty) (value_width b.ty) ≡ Some ty → size_concat (size widths a.formula) (size widths b.formula) ≡ Some (width_of ty)
    cat_size ty e = of (value_width a.ty) (value_width b.ty) refl refl e
      where
        of : (m n : Option ℕ) → value_width a.ty ≡ m → value_width b.ty ≡ n → cat_at m n ≡ Some ty → size_concat (size widths a.formula) (size widths b.formula) ≡ Some (width_of ty)
        of None n e h l = absurd (cc)
        of (Some m) None e h l = absurd (cc)
        of (Some m) (Some n) e h l =
            let c = chosen (nat_le (m + n) WIDEST_TYPE) (Some (T.Bits Plain (m + n))) ty l in
            let above = value_has a.ty m e in
            let below = value_has b.ty n h in
            let own = same_Some (T.Bits Plain (m + n)) ty c.1 in
            concat_good _ _ m n (s.good ∙ ap Some above.is) (r.good ∙ ap Some below.is) (leb-true (m + n) WIDEST_TYPE c.0)
            ∙ ap Some (sym (width-Bits Plain (m + n)) ∙ ap width_of own)

    pair_good : (operator : Binary) (at : ℕ) (ty : EsiType) → pair_type operator a.ty b.ty ≡ Some ty
        → IsSound words (pair_bits operator x y) (typed_as at ty (pair_formula operator a.formula b.formula))
    pair_good And at ty e = record { value = worth-And words a.formula b.formula ∙ both_values (zip_bits ◌&&◌); good = size-And widths a.formula b.formula ∙ (bitwise_size ty e).1 }
    pair_good Or at ty e = record { value = worth-Or words a.formula b.formula ∙ both_values (zip_bits ◌||◌); good = size-Or widths a.formula b.formula ∙ (bitwise_size ty e).1 }
    pair_good Xor at ty e = record { value = worth-Xor words a.formula b.formula ∙ both_values (zip_bits xor); good = size-Xor widths a.formula b.formula ∙ (bitwise_size ty e).1 }
    pair_good Add at ty e = record {
      value = worth-Add words a.formula b.formula ∙ both_values (λ p q. bits_of (length p) (number_of p + number_of q));
      good = size-Add widths a.formula b.formula ∙ arithmetic_size ty e;
    }
    pair_good Sub at ty e = record {
      value = worth-Sub words a.formula b.formula ∙ both_values (λ p q. bits_of (length p) (number_of p + 2 ^ length p - number_of q));
      good = size-Sub widths a.formula b.formula ∙ arithmetic_size ty e;
    }
    pair_good Eq at ty e =
        let c = chosen (same_types a.ty b.ty) (Some BIT) ty e in
        record {
          value = worth-Equal words a.formula b.formula ∙ both_values (λ p q. same_bits p q ∷ []);
          good = size-Equal widths a.formula b.formula ∙ ap size_bit (same_size ((is_test a.ty b.ty).0 c.0)) ∙ bit_width ty (same_Some BIT ty c.1);
        }
    pair_good Lt at ty e =
        let c = less_size ty e in
        record {
          value = worth-Less words a.formula b.formula ∙ both_values (λ p q. nat_lt (number_of p) (number_of q) ∷ []);
          good = size-Less widths a.formula b.formula ∙ ap size_bit c.1 ∙ bit_width ty c.0;
        }
    pair_good Cat at ty e = record { value = worth-Concat words a.formula b.formula High ∙ both_values (λ p q. q ++ p); good = size-Concat widths a.formula b.formula High ∙ cat_size ty e }

    pub pair_sound : (operator : Binary) (at : ℕ) (t : Typed) → pair_of at operator a b ≡ Ok t → IsSound words (pair_bits operator x y) t
    pair_sound operator at t e = of (pair_type operator a.ty b.ty) refl e
      where
        of : (ty : Option EsiType) → pair_type operator a.ty b.ty ≡ ty → pair_at at (pair_formula operator a.formula b.formula) ty ≡ Ok t → IsSound words (pair_bits operator x y) t
        of None same e = absurd (cc)
        of (Some ty) same e = sound_as _ _ t (same_typed _ t e) (pair_good operator at ty same)

  pub cast_sound : (at : ℕ) (ty : EsiType) (bits : Bits) (a t : Typed) → IsSound words bits a → cast_of at ty a ≡ Ok t → IsSound words bits t
  cast_sound at ty bits a t s e =
      let c = made_if (same_width (value_width ty) (value_width a.ty) && not (has_void ty)) at at ty a.formula t e in
      let p = and_parts (same_width (value_width ty) (value_width a.ty)) (not (has_void ty)) c.0 in
      sound_as bits _ t c.1 (record { value = s.value; good = s.good ∙ of (value_width a.ty) (value_width ty) refl refl p.0 })
    where
      of : (m n : Option ℕ) → value_width a.ty ≡ m → value_width ty ≡ n → same_width n m ≡ true → Some (width_of a.ty) ≡ Some (width_of ty)
      of m None e h l = absurd (cc)
      of None (Some n) e h l = absurd (cc)
      of (Some m) (Some n) e h l =
          let own = value_has a.ty m e in
          let other = value_has ty n h in
          ap Some (own.is ∙ sym (eqb-true n m l) ∙ sym other.is)

  pub slice_sound : (at high low : ℕ) (bits : Bits) (a t : Typed) → IsSound words bits a → slice_of at high low a ≡ Ok t → IsSound words (slice_range bits low (high + 1)) t
  slice_sound at high low bits a t s e = of (value_width a.ty) refl e
    where
      of : (n : Option ℕ) → value_width a.ty ≡ n → slice_at at high low a n ≡ Ok t → IsSound words (slice_range bits low (high + 1)) t
      of None same e = absurd (cc)
      of (Some n) same e =
          let c = made_if (nat_le low high && nat_lt high n) at at (T.Bits Plain (high - low + 1)) (F.Slice a.formula high low) t e in
          let p = and_parts (nat_le low high) (nat_lt high n) c.0 in
          sound_as _ _ t c.1 (record {
            value = worth-Slice words a.formula high low ∙ ap (λ b. slice_range b low (high + 1)) s.value;
            good =
                size-Slice widths a.formula high low
                ∙ slice_good _ high low n (s.good ∙ ap Some (value_has a.ty n same).is) (leb-true low high p.0) (leb-true (suc high) n p.1)
                ∙ ap Some (sym (width-Bits Plain (high - low + 1)));
          })

  extended_good : (at width own more : ℕ) (class : Class) (bits : Bits) (a : Typed) → IsSound words bits a → width_of a.ty ≡ own → own + more ≡ width → width ≤ WIDEST_TYPE
      → IsSound words (bits_of width (number_of bits)) (typed_as at (T.Bits class width) (extended a.formula more))
  extended_good at width own more class bits a s e h l = of (more == 0) refl
    where
      long : length bits ≡ own
      long = sound_width bits a s ∙ e

      of : (t : Bool) → (more == 0) ≡ t
          → IsSound words (bits_of width (number_of bits)) (typed_as at (T.Bits class width) (if t then a.formula else F.Concat (F.Const (replicate more false)) a.formula Low))
      of true same =
          let none = eqb-true more 0 same in
          let whole : length bits ≡ width = omega (arith, long, h, none) in
          record {
            value = s.value ∙ sym (bits_of-number_of bits) ∙ ap (λ w. bits_of w (number_of bits)) whole;
            good = s.good ∙ ap Some (sym (sound_width bits a s) ∙ whole ∙ sym (width-Bits class width));
          }
      of false same =
          let whole : length bits + more ≡ width = omega (arith, long, h) in
          let count : length (replicate more false) ≡ more = length-replicate more false in
          record {
            value =
                worth-Concat words (F.Const (replicate more false)) a.formula Low
                ∙ ap (λ w. w ++ worth words (F.Const (replicate more false))) s.value
                ∙ ap (λ w. bits ++ w) (worth-Const words (replicate more false))
                ∙ zeros_above bits more
                ∙ ap (λ w. bits_of w (number_of bits)) whole;
            good =
                size-Concat widths (F.Const (replicate more false)) a.formula Low
                ∙ concat_good _ _ more own (size-Const widths (replicate more false) ∙ ap Some count) (s.good ∙ ap Some e) (omega (arith, h, l))
                ∙ ap Some (let k : more + own ≡ width = omega (arith, h) in k)
                ∙ ap Some (sym (width-Bits class width));
          }

  pub zext_sound : (at width : ℕ) (bits : Bits) (a t : Typed) → IsSound words bits a → zext_of at width a ≡ Ok t → IsSound words (bits_of width (number_of bits)) t
  zext_sound at width bits a t s e = of (number_type a.ty) refl e
    where
      of : (n : Option NumberType) → number_type a.ty ≡ n → zext_at at width a n ≡ Ok t → IsSound words (bits_of width (number_of bits)) t
      of None same e = absurd (cc)
      of (Some n) same e =
          let c = made_if (extends n width) at at (T.Bits n.class width) (extended a.formula (width - n.width)) t e in
          let p = and_parts (not (is_signed n.class)) (nat_le n.width width && nat_le width WIDEST_TYPE) c.0 in
          let q = and_parts (nat_le n.width width) (nat_le width WIDEST_TYPE) p.1 in
          let low = leb-true n.width width q.0 in
          sound_as _ _ t c.1 (extended_good at width n.width (width - n.width) n.class bits a s (number_width a.ty n same) (omega (arith, low)) (leb-true width WIDEST_TYPE q.1))

  pub literal_sound : (at : ℕ) (ty : EsiType) (number : ℕ) (t : Typed) → literal_of at ty number ≡ Ok t → IsSound words (bits_of (width_of ty) number) t
  literal_sound at ty number t e = of (literal_word ty number) refl e
    where
      of : (word : Option Bits) → literal_word ty number ≡ word → literal_at at ty word ≡ Ok t → IsSound words (bits_of (width_of ty) number) t
      of None same e = absurd (cc)
      of (Some word) same e =
          let own = literal_bits ty number word same in
          sound_as _ _ t (same_typed _ t e) (record {
            value = worth-Const words word ∙ own;
            good = size-Const widths word ∙ ap Some (ap length own ∙ length-bits_of (width_of ty) number);
          })

  pub mux_sound : (at : ℕ) (z x y : Bits) (c a b t : Typed) → IsSound words z c → IsSound words x a → IsSound words y b → mux_of at c a b ≡ Ok t
      → IsSound words (if number_of z == 1 then x else y) t
  mux_sound at z x y c a b t q s r e =
      let d = made_if (is_bit (number_type c.ty) && same_types a.ty b.ty) at at a.ty (F.Choose c.formula a.formula b.formula) t e in
      let p = and_parts (is_bit (number_type c.ty)) (same_types a.ty b.ty) d.0 in
      sound_as _ _ t d.1 (record {
        value =
            worth-Choose words c.formula a.formula b.formula
            ∙ ap (λ (w : Bits). if number_of w == 1 then worth words a.formula else worth words b.formula) q.value
            ∙ ap (λ (w : Bits). if number_of z == 1 then w else worth words b.formula) s.value
            ∙ ap (λ (w : Bits). if number_of z == 1 then x else w) r.value;
        good =
            size-Choose widths c.formula a.formula b.formula
            ∙ ap (λ m. size_choose m (size_both (size widths a.formula) (size widths b.formula))) (q.good ∙ ap Some (bit_of (number_type c.ty) refl p.0))
            ∙ same_size x y a b s r ((is_test a.ty b.ty).0 p.1);
      })
    where
      bit_of : (n : Option NumberType) → number_type c.ty ≡ n → is_bit n ≡ true → width_of c.ty ≡ 1
      bit_of None same e = absurd (cc)
      bit_of (Some n) same e = let p = and_parts (not (is_signed n.class)) (n.width == 1) e in number_width c.ty n same ∙ eqb-true n.width 1 p.1
