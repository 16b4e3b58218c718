-- What the width of a type says of it, where values have it.
use Rattle.std.proofs.Common.{◌≡◌, ℕ, ◌*◌, ◌≤◌, Bool, Option, Some, None, List, refl, ap, sym, ◌∙◌, subst}
use Rattle.std.specs.Prelude.{nat_le, if◌then◌else◌, ◌&&◌, IsSome}
use Rattle.std.specs.List.{sum_by}
use Rattle.std.proofs.lemmas.Bool.{leb-true, le-leb, and_parts, and_from}
use Rattle.std.proofs.lemmas.Option.{same_Some}
use Rattle.design_lex.specs.declared.token.Class.{Class}
use Rattle.design_lex.specs.declared.limits.TheConstants.{WIDEST_TYPE}
use Rattle.channel_types.specs.declared.esi_type.EsiType.{EsiType}
use Rattle.channel_types.specs.declared.esi_type.EsiType.TheVariants as T
use Rattle.channel_types.specs.declared.esi_type.EsiType.TheVariants.{outs-Bits, rolls-Bits}
use Rattle.channel_types.specs.declared.esi_type.EsiType.TheOpen.{EsiType-F}
use Rattle.channel_types.specs.declared.esi_type.EsiType.TheViews.{out-EsiType, roll-EsiType, roll-out-EsiType}
use Rattle.channel_types.specs.declared.esi_type.Field.{Field}
use Rattle.channel_types.specs.Types.{width_of, field_width}
use Rattle.channel_types.specs.Equations.{width-Bits, width-Struct, width-Array}
use Rattle.netlist.specs.FormulaLaws.{chosen}
use Rattle.design_tree.specs.declared.expression.Suffix.{Suffix}
use Rattle.design_tree.specs.declared.expression.Suffix.TheVariants as X
use Rattle.expression_types.specs.declared.number_type.NumberType.{NumberType}
use Rattle.expression_types.specs.Typing.{ranged, value_width, level_number, number_type, field_of, element_of, level_field, level_element, piece_of}

-- The type is so many bits wide, 1 to 1,024, as every type of a design is.
pub record HasWidth (ty : EsiType) (width : ℕ) : Type 0 where
  pub is : width_of ty ≡ width
  pub low : 1 ≤ width
  pub high : width ≤ WIDEST_TYPE

pub value_has : (ty : EsiType) (width : ℕ) → value_width ty ≡ Some width → HasWidth ty width
unfolding value_width
value_has ty width e =
    let c = chosen (nat_le 1 (width_of ty) && nat_le (width_of ty) WIDEST_TYPE) (Some (width_of ty)) width e in
    let p = and_parts (nat_le 1 (width_of ty)) (nat_le (width_of ty) WIDEST_TYPE) c.0 in
    let is = same_Some (width_of ty) width c.1 in
    record {
      is = is;
      low = subst (λ n. 1 ≤ n) is (leb-true 1 (width_of ty) p.0);
      high = subst (λ n. n ≤ WIDEST_TYPE) is (leb-true (width_of ty) WIDEST_TYPE p.1);
    }

-- and the other way round
pub has_value : (ty : EsiType) (width : ℕ) → HasWidth ty width → value_width ty ≡ Some width
unfolding value_width
has_value ty width h =
    ap ranged h.is
    ∙ ap (λ (t : Bool). if t then Some width else None) (and_from (nat_le 1 width) (nat_le width WIDEST_TYPE) (le-leb 1 width h.low) (le-leb width WIDEST_TYPE h.high))

pub struct_width : (ty : EsiType) (fields : List Field) (width : ℕ) → ty ≡ T.Struct fields → value_width ty ≡ Some width → (width ≤ WIDEST_TYPE) × (width ≡ sum_by field_width fields)
struct_width ty fields width is e =
    let h = value_has ty width e in
    (h.high, sym h.is ∙ ap width_of is ∙ width-Struct fields)

pub array_width : (ty item : EsiType) (count : ℕ) → ty ≡ T.Array item count → IsSome (value_width ty) → count * width_of item ≤ WIDEST_TYPE
array_width ty item count is e = of (value_width ty) e refl
  where
    of : (width : Option ℕ) → IsSome width → value_width ty ≡ width → count * width_of item ≤ WIDEST_TYPE
    of None e same = absurd (cc)
    of (Some width) e same =
        let h = value_has ty width same in
        subst (λ n. n ≤ WIDEST_TYPE) (sym h.is ∙ ap width_of is ∙ width-Array item count) h.high

-- a bits type has no parts
pub no_piece : (class : Class) (width : ℕ) (suffix : Suffix) → None ≡ piece_of (T.Bits class width) suffix
unfolding field_of element_of
no_piece class width (X.Field name) = sym (ap (λ level. level_field level name.octets) (outs-Bits class width))
no_piece class width (X.Element index) = sym (ap (λ level. level_element level index.value) (outs-Bits class width))

-- The type is a bits type of a class and a width, 1 to 1,024.
pub record IsNumber (ty : EsiType) (n : NumberType) : Type 0 where
  pub is : ty ≡ T.Bits n.class n.width
  pub low : 1 ≤ n.width
  pub high : n.width ≤ WIDEST_TYPE

pub number_is : (ty : EsiType) (n : NumberType) → number_type ty ≡ Some n → IsNumber ty n
unfolding number_type
number_is ty n e = of (out-EsiType ty) refl e
  where
    of : (level : EsiType-F EsiType Field) → out-EsiType ty ≡ level → level_number level ≡ Some n → IsNumber ty n
    of (EsiType-F.Bits class width) same e =
        let c = chosen (nat_le 1 width && nat_le width WIDEST_TYPE) (Some (record { class = class; width = width })) n e in
        let p = and_parts (nat_le 1 width) (nat_le width WIDEST_TYPE) c.0 in
        let own = same_Some _ n c.1 in
        let shown : ty ≡ T.Bits class width = sym (roll-out-EsiType ty) ∙ ap roll-EsiType same ∙ rolls-Bits class width in
        record {
          is = shown ∙ ap (λ (n : NumberType). T.Bits n.class n.width) own;
          low = subst (λ (n : NumberType). 1 ≤ n.width) own (leb-true 1 width p.0);
          high = subst (λ (n : NumberType). n.width ≤ WIDEST_TYPE) own (leb-true width WIDEST_TYPE p.1);
        }
    of EsiType-F.Void same e = absurd (cc)
    of (EsiType-F.Struct fields) same e = absurd (cc)
    of (EsiType-F.Array item count) same e = absurd (cc)

pub number_width : (ty : EsiType) (n : NumberType) → number_type ty ≡ Some n → width_of ty ≡ n.width
number_width ty n e = ap width_of (number_is ty n e).is ∙ width-Bits n.class n.width
