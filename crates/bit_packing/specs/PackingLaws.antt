-- The packing of values of a type: as many bits as the type is wide, each void bit 0; and all such bits are those of one
-- value that fits, and of no other.
use Rattle.std.proofs.Common.{◌≡◌, ℕ, ◌+◌, ◌*◌, Bool, true, false, List, [], ◌∷◌, length, map, replicate, refl, sym, ap, ◌∙◌, subst, arith}
use Rattle.std.specs.Prelude.{sum}
use Rattle.std.proofs.lemmas.Bool.{eqb-true, eq-eqb}
use Rattle.std.proofs.lemmas.List.{length-replicate}
use Rattle.std.proofs.lemmas.List.Sums.{sum-map, sum_by-cons}
use Rattle.channel_types.specs.Types.{width_step, field_width_step, width_of, field_width}
use Rattle.channel_types.specs.declared.esi_type.EsiType.{EsiType}
use Rattle.channel_types.specs.declared.esi_type.EsiType.TheOpen.{EsiType-F, Field-F}
use Rattle.channel_types.specs.declared.esi_type.EsiType.TheViews.{roll-EsiType, roll-Field}
use Rattle.channel_types.specs.declared.esi_type.EsiType.TheFolds as folds
use Rattle.channel_types.specs.declared.esi_type.Field.{Field}
use Rattle.bit_packing.specs.declared.value.Value.{Value}
use Rattle.bit_packing.specs.declared.value.Value.TheOpen.{Value-F}
use Rattle.bit_packing.specs.declared.value.Value.TheViews.{out-Value, roll-Value, out-roll-Value, roll-out-Value}
use Rattle.bit_packing.specs.Fitting.{Test, fits_fields, fits_bits, fits_void, fits_struct, fits_array, fits_step, field_fits_step, fits_of, field_fits}
use Rattle.bit_packing.specs.Packing.{Pack, own_bits, parts_of, first_highest, first_lowest, bits_step, field_bits_step, bits_of_value, field_bits}
use Rattle.bit_packing.specs.Voids.{Marks, stacked, repeated, has_marked_one, voids_step, field_voids_step, voids_of, field_voids}
use Rattle.bit_packing.specs.MarkLemmas.{unmarked}
use Rattle.bit_packing.specs.Coding.{IsCoding, no_fields, one_field_more, fits_items, items_coded}

-- ---- values by their kind

same_value : (v w : Value) → out-Value v ≡ out-Value w → v ≡ w
same_value v w e = sym (roll-out-Value v) ∙ ap roll-Value e ∙ roll-out-Value w

layer_coded : (width : ℕ) (marks : Marks) (test : Value-F Value → Bool) (pack : Value-F Value → List Bool) → IsCoding width marks test pack → IsCoding width marks (λ v. test (out-Value v)) (λ v. pack (out-Value v))
layer_coded width marks test pack coding = record {
  marked = coding.marked;
  size = λ v h. coding.size (out-Value v) h;
  clear = λ v h. coding.clear (out-Value v) h;
  found = λ bits e m.
      let x = coding.found bits e m in
      (roll-Value x.0, (subst (λ y. test y ≡ true) (sym (out-roll-Value x.0)) x.1.0, ap pack (out-roll-Value x.0) ∙ x.1.1));
  only = λ v w h g e. same_value v w (coding.only (out-Value v) (out-Value w) h g e);
}

bits_coded : (width : ℕ) → IsCoding width (replicate width false) (fits_bits width) own_bits
bits_coded width = record {
  marked = length-replicate width false;
  size = size;
  clear = λ x h. unmarked width (own_bits x);
  found = λ bits e m. (Value-F.Number bits, (eq-eqb (length bits) width e, refl));
  only = only;
}
  where
    size : (x : Value-F Value) → fits_bits width x ≡ true → length (own_bits x) ≡ width
    size (Value-F.Number bits) h = eqb-true (length bits) width h
    size Value-F.Void h = absurd (cc)
    size (Value-F.Struct values) h = absurd (cc)
    size (Value-F.Array values) h = absurd (cc)

    only : (x y : Value-F Value) → fits_bits width x ≡ true → fits_bits width y ≡ true → own_bits x ≡ own_bits y → x ≡ y
    only (Value-F.Number bits) (Value-F.Number others) h g e = ap Value-F.Number e
    only (Value-F.Number bits) Value-F.Void h g e = absurd (cc)
    only (Value-F.Number bits) (Value-F.Struct values) h g e = absurd (cc)
    only (Value-F.Number bits) (Value-F.Array values) h g e = absurd (cc)
    only Value-F.Void y h g e = absurd (cc)
    only (Value-F.Struct values) y h g e = absurd (cc)
    only (Value-F.Array values) y h g e = absurd (cc)

void_coded : IsCoding 1 (true ∷ []) fits_void (λ x. false ∷ [])
void_coded = record {
  marked = refl;
  size = λ x h. refl;
  clear = λ x h. refl;
  found = λ bits e m. (Value-F.Void, (refl, bit bits e m));
  only = only;
}
  where
    bit : (bits : List Bool) → length bits ≡ 1 → has_marked_one (true ∷ []) bits ≡ false → false ∷ [] ≡ bits
    bit [] e m = absurd (omega arith)
    bit (true ∷ bits) e m = absurd (cc)
    bit (false ∷ []) e m = refl
    bit (false ∷ (b ∷ bits)) e m = absurd (omega arith)

    only : (x y : Value-F Value) → fits_void x ≡ true → fits_void y ≡ true → false ∷ [] ≡ false ∷ [] → x ≡ y
    only Value-F.Void Value-F.Void h g e = refl
    only Value-F.Void (Value-F.Number bits) h g e = absurd (cc)
    only Value-F.Void (Value-F.Struct values) h g e = absurd (cc)
    only Value-F.Void (Value-F.Array values) h g e = absurd (cc)
    only (Value-F.Number bits) y h g e = absurd (cc)
    only (Value-F.Struct values) y h g e = absurd (cc)
    only (Value-F.Array values) y h g e = absurd (cc)

struct_coded : (width : ℕ) (marks : Marks) (tests : List Test) (packs : List Pack) → IsCoding width marks (fits_fields tests) (first_highest packs)
    → IsCoding width marks (fits_struct tests) (λ x. first_highest packs (parts_of x))
struct_coded width marks tests packs coding = record {
  marked = coding.marked;
  size = size;
  clear = clear;
  found = λ bits e m. let x = coding.found bits e m in (Value-F.Struct x.0, (x.1.0, x.1.1));
  only = only;
}
  where
    size : (x : Value-F Value) → fits_struct tests x ≡ true → length (first_highest packs (parts_of x)) ≡ width
    size (Value-F.Struct values) h = coding.size values h
    size (Value-F.Number bits) h = absurd (cc)
    size Value-F.Void h = absurd (cc)
    size (Value-F.Array values) h = absurd (cc)

    clear : (x : Value-F Value) → fits_struct tests x ≡ true → has_marked_one marks (first_highest packs (parts_of x)) ≡ false
    clear (Value-F.Struct values) h = coding.clear values h
    clear (Value-F.Number bits) h = absurd (cc)
    clear Value-F.Void h = absurd (cc)
    clear (Value-F.Array values) h = absurd (cc)

    only : (x y : Value-F Value) → fits_struct tests x ≡ true → fits_struct tests y ≡ true → first_highest packs (parts_of x) ≡ first_highest packs (parts_of y) → x ≡ y
    only (Value-F.Struct values) (Value-F.Struct others) h g e = ap Value-F.Struct (coding.only values others h g e)
    only (Value-F.Struct values) (Value-F.Number bits) h g e = absurd (cc)
    only (Value-F.Struct values) Value-F.Void h g e = absurd (cc)
    only (Value-F.Struct values) (Value-F.Array others) h g e = absurd (cc)
    only (Value-F.Number bits) y h g e = absurd (cc)
    only Value-F.Void y h g e = absurd (cc)
    only (Value-F.Array values) y h g e = absurd (cc)

array_coded : (width : ℕ) (marks : Marks) (test : Test) (count : ℕ) (pack : Pack) → IsCoding width marks (fits_items test count) (first_lowest pack)
    → IsCoding width marks (fits_array test count) (λ x. first_lowest pack (parts_of x))
array_coded width marks test count pack coding = record {
  marked = coding.marked;
  size = size;
  clear = clear;
  found = λ bits e m. let x = coding.found bits e m in (Value-F.Array x.0, (x.1.0, x.1.1));
  only = only;
}
  where
    size : (x : Value-F Value) → fits_array test count x ≡ true → length (first_lowest pack (parts_of x)) ≡ width
    size (Value-F.Array values) h = coding.size values h
    size (Value-F.Number bits) h = absurd (cc)
    size Value-F.Void h = absurd (cc)
    size (Value-F.Struct values) h = absurd (cc)

    clear : (x : Value-F Value) → fits_array test count x ≡ true → has_marked_one marks (first_lowest pack (parts_of x)) ≡ false
    clear (Value-F.Array values) h = coding.clear values h
    clear (Value-F.Number bits) h = absurd (cc)
    clear Value-F.Void h = absurd (cc)
    clear (Value-F.Struct values) h = absurd (cc)

    only : (x y : Value-F Value) → fits_array test count x ≡ true → fits_array test count y ≡ true → first_lowest pack (parts_of x) ≡ first_lowest pack (parts_of y) → x ≡ y
    only (Value-F.Array values) (Value-F.Array others) h g e = ap Value-F.Array (coding.only values others h g e)
    only (Value-F.Array values) (Value-F.Number bits) h g e = absurd (cc)
    only (Value-F.Array values) Value-F.Void h g e = absurd (cc)
    only (Value-F.Array values) (Value-F.Struct others) h g e = absurd (cc)
    only (Value-F.Number bits) y h g e = absurd (cc)
    only Value-F.Void y h g e = absurd (cc)
    only (Value-F.Struct values) y h g e = absurd (cc)

-- ---- types, by induction

-- what is proved of every type, and of every field
abbrev pub IsCoded : EsiType → Type 0
IsCoded ty = IsCoding (width_of ty) (voids_of ty) (fits_of ty) (bits_of_value ty)

abbrev pub IsFieldCoded : Field → Type 0
IsFieldCoded f = IsCoding (field_width f) (field_voids f) (field_fits f) (field_bits f)

abbrev Coded : Type 0
Coded = (ty : EsiType) × IsCoded ty

abbrev CodedField : Type 0
CodedField = (f : Field) × IsFieldCoded f

abbrev fields_of : List CodedField → List Field
fields_of held = map (λ e. e.0) held

same_coding : (width width' : ℕ) (marks marks' : Marks) (test test' : Test) (pack pack' : Pack) → width ≡ width' → marks ≡ marks' → test ≡ test' → pack ≡ pack' → IsCoding width marks test pack → IsCoding width' marks' test' pack'
same_coding width width' marks marks' test test' pack pack' e f g h coding =
    subst (λ w. IsCoding w marks' test' pack') e (subst (λ m. IsCoding width m test' pack') f (subst (λ t. IsCoding width marks t pack') g (subst (λ p. IsCoding width marks test p) h coding)))

-- a type is coded as its level is
rolled : (level : EsiType-F EsiType Field)
    → IsCoding (width_step (folds.map-EsiType EsiType Field ℕ ℕ width_of field_width level)) (voids_step (folds.map-EsiType EsiType Field Marks Marks voids_of field_voids level))
    (fits_step (folds.map-EsiType EsiType Field Test Test fits_of field_fits level)) (bits_step (folds.map-EsiType EsiType Field Pack Pack bits_of_value field_bits level))
    → IsCoded (roll-EsiType level)
rolled level coding =
    same_coding _ _ _ _ _ _ _ _
    (sym (folds.fold-roll-EsiType ℕ ℕ width_step field_width_step level))
    (sym (folds.fold-roll-EsiType Marks Marks voids_step field_voids_step level))
    (sym (folds.fold-roll-EsiType Test Test fits_step field_fits_step level))
    (sym (folds.fold-roll-EsiType Pack Pack bits_step field_bits_step level))
    coding

field_coded : (f : Field) → IsCoded f.ty → IsFieldCoded f
field_coded f coding =
    same_coding _ _ _ _ _ _ _ _
    (sym (folds.fold_out-Field ℕ ℕ width_step field_width_step f))
    (sym (folds.fold_out-Field Marks Marks voids_step field_voids_step f))
    (sym (folds.fold_out-Field Test Test fits_step field_fits_step f))
    (sym (folds.fold_out-Field Pack Pack bits_step field_bits_step f))
    coding

sum_more : (f : Field) (fs : List Field) → field_width f + sum (map field_width fs) ≡ sum (map field_width (f ∷ fs))
sum_more f fs = ap (λ n. field_width f + n) (sum-map field_width fs) ∙ sym (sum_by-cons field_width f fs) ∙ sym (sum-map field_width (f ∷ fs))

fields_coded : (held : List CodedField) → IsCoding (sum (map field_width (fields_of held))) (stacked (map field_voids (fields_of held))) (fits_fields (map field_fits (fields_of held))) (first_highest (map field_bits (fields_of held)))
fields_coded [] = no_fields
fields_coded (e ∷ es) =
    subst (λ n. IsCoding n (stacked (map field_voids (fields_of (e ∷ es)))) (fits_fields (map field_fits (fields_of (e ∷ es)))) (first_highest (map field_bits (fields_of (e ∷ es))))) (sum_more e.0 (fields_of es))
    (one_field_more (field_width e.0) (sum (map field_width (fields_of es))) (field_voids e.0) (stacked (map field_voids (fields_of es))) (field_fits e.0) (map field_fits (fields_of es)) (field_bits e.0) (map field_bits (fields_of es))
    e.1 (fields_coded es))

-- every type is coded
pub each_coded : (ty : EsiType) → IsCoded ty
each_coded = folds.ind-EsiType IsCoded IsFieldCoded
    (λ x y e. subst (λ x. IsCoded (roll-EsiType x)) e (of y))
    (λ x y e. subst (λ x. IsFieldCoded (roll-Field x)) e (field y))
  where
    of : (y : EsiType-F Coded CodedField) → IsCoded (roll-EsiType (folds.map-EsiType Coded CodedField EsiType Field (λ e. e.0) (λ e. e.0) y))
    of (EsiType-F.Bits class width) = rolled (EsiType-F.Bits class width) (layer_coded width (replicate width false) (fits_bits width) own_bits (bits_coded width))
    of EsiType-F.Void = rolled EsiType-F.Void (layer_coded 1 (true ∷ []) fits_void (λ x. false ∷ []) void_coded)
    of (EsiType-F.Struct held) =
        let tests = map field_fits (fields_of held) in
        let packs = map field_bits (fields_of held) in
        let width = sum (map field_width (fields_of held)) in
        let marks = stacked (map field_voids (fields_of held)) in
        rolled (EsiType-F.Struct (fields_of held))
        (layer_coded width marks (fits_struct tests) (λ x. first_highest packs (parts_of x)) (struct_coded width marks tests packs (fields_coded held)))
    of (EsiType-F.Array held count) =
        let width = count * width_of held.0 in
        let marks = repeated count (voids_of held.0) in
        rolled (EsiType-F.Array held.0 count)
        (layer_coded width marks (fits_array (fits_of held.0) count) (λ x. first_lowest (bits_of_value held.0) (parts_of x))
        (array_coded width marks (fits_of held.0) count (bits_of_value held.0)
        (items_coded (fits_of held.0) (width_of held.0) count (voids_of held.0) (bits_of_value held.0) held.1)))

    field : (y : Field-F Coded CodedField) → IsFieldCoded (roll-Field (folds.map-Field Coded CodedField EsiType Field (λ e. e.0) (λ e. e.0) y))
    field y = field_coded (roll-Field (folds.map-Field Coded CodedField EsiType Field (λ e. e.0) (λ e. e.0) y)) y.ty.1
