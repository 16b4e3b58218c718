-- Values that are packed one after another into one word.
use Rattle.std.proofs.Common.{◌≡◌, ℕ, zero, suc, ◌+◌, ◌*◌, ◌<◌, ◌≤◌, Bool, true, ◌&&◌, ◌==◌, List, [], ◌∷◌, ◌++◌, length, map, drop, get_or, refl, sym, ap, ◌∙◌, subst, arith, drop-cons, append_assoc, append-nil}
use Rattle.std.specs.Prelude.{All}
use Rattle.std.specs.List.{sum_by, list_all}
use Rattle.std.proofs.lemmas.Bool.{and_parts, and_from, eqb-true, eq-eqb}
use Rattle.std.proofs.lemmas.List.{length-append, length-drop, length-map}
use Rattle.std.proofs.lemmas.List.Elements.{All-head, All-tail}
use Rattle.std.proofs.lemmas.List.Sums.{sum_by-cons}
use Rattle.esi_base.specs.declared.word.TheConstants.{WORD_BITS}
use Rattle.channel_types.specs.Types.{IsGoodType, width_of, field_width}
use Rattle.channel_types.specs.Equations.{width-Struct, width-Array, width-field}
use Rattle.channel_types.specs.Goods.{good_type_fields, good_type_item, good_low, good_high}
use Rattle.channel_types.specs.declared.esi_type.EsiType.{EsiType}
use Rattle.channel_types.specs.declared.esi_type.EsiType.TheVariants as V
use Rattle.channel_types.specs.declared.esi_type.Field.{Field}
use Rattle.bit_packing.specs.declared.value.Value.{Value}
use Rattle.bit_packing.specs.declared.value.Value.TheVariants as W
use Rattle.bit_packing.specs.declared.value.Value.TheVariants.{outs-Struct, outs-Array}
use Rattle.bit_packing.specs.Fitting.{pass_each, fits_fields, fits_struct, fits_array, fits_of, field_fits}
use Rattle.bit_packing.specs.Packing.{first_highest, first_lowest, bits_of_value, field_bits}
use Rattle.bit_packing.specs.Equations.{fits-Struct, fits-Array, fits-field, bits-field}

-- a type that is good
abbrev pub HasGoodType : Field → Type 0
HasGoodType f = IsGoodType f.ty

-- The word is what was packed of a struct's values so far, and these fields and values are left.
pub record IsLaid (word : List Bool) (fields : List Field) (values : List Value) (all : List Field) (all_values : List Value) : Type 0 where
  pub good : All HasGoodType fields
  pub fits : fits_fields (map field_fits fields) values ≡ true
  pub bits : first_highest (map field_bits fields) values ++ word ≡ first_highest (map field_bits all) all_values
  pub width : length word + sum_by field_width fields ≡ sum_by field_width all

pub laid_none : (fields : List Field) (values : List Value) → All HasGoodType fields → fits_fields (map field_fits fields) values ≡ true → IsLaid [] fields values fields values
laid_none fields values good fits = record { good = good; fits = fits; bits = append-nil (first_highest (map field_bits fields) values); width = omega arith }

module _ (word : List Bool) (f : Field) (fs : List Field) (v : Value) (vs : List Value) (all : List Field) (all_values : List Value) where
  fits_parts : IsLaid word (f ∷ fs) (v ∷ vs) all all_values → (fits_of f.ty v ≡ true) × (fits_fields (map field_fits fs) vs ≡ true)
  fits_parts h =
      let p = and_parts (suc (length vs) == suc (length (map field_fits fs))) (field_fits f v && pass_each (map field_fits fs) vs) h.fits in
      let q = and_parts (field_fits f v) (pass_each (map field_fits fs) vs) p.1 in
      let e = eqb-true (suc (length vs)) (suc (length (map field_fits fs))) p.0 in (
        ap (λ t. t v) (sym (fits-field f)) ∙ q.0,
        and_from (length vs == length (map field_fits fs)) (pass_each (map field_fits fs) vs) (eq-eqb (length vs) (length (map field_fits fs)) (omega arith)) q.1,
      )

  pub first_fits : IsLaid word (f ∷ fs) (v ∷ vs) all all_values → fits_of f.ty v ≡ true
  first_fits h = (fits_parts h).0

  pub first_good : IsLaid word (f ∷ fs) (v ∷ vs) all all_values → IsGoodType f.ty
  first_good h = All-head HasGoodType f fs h.good

  pub laid_room : IsLaid word (f ∷ fs) (v ∷ vs) all all_values → length word + width_of f.ty ≤ sum_by field_width all
  laid_room h = omega (arith, h.width, sum_by-cons field_width f fs, width-field f)

  pub laid_more : (part : List Bool) → part ≡ bits_of_value f.ty v → length part ≡ width_of f.ty → IsLaid word (f ∷ fs) (v ∷ vs) all all_values → IsLaid (part ++ word) fs vs all all_values
  laid_more part e w h = record {
    good = All-tail HasGoodType f fs h.good;
    fits = (fits_parts h).1;
    bits =
        sym (append_assoc (first_highest (map field_bits fs) vs) part word)
        ∙ ap (λ p. (first_highest (map field_bits fs) vs ++ p) ++ word) (e ∙ ap (λ p. p v) (sym (bits-field f)))
        ∙ h.bits;
    width = omega (arith, h.width, sum_by-cons field_width f fs, width-field f, length-append part word);
  }

pub laid_all : (word : List Bool) (values : List Value) (all : List Field) (all_values : List Value) → IsLaid word [] values all all_values
    → (word ≡ first_highest (map field_bits all) all_values) × (length word ≡ sum_by field_width all)
laid_all word values all all_values h = (h.bits, omega (arith, h.width))

-- The word is what was packed of an array's items so far, and these items are left.
pub record AreLaid (word : List Bool) (item : EsiType) (values all : List Value) : Type 0 where
  pub fits : list_all (fits_of item) values ≡ true
  pub bits : word ++ first_lowest (bits_of_value item) values ≡ first_lowest (bits_of_value item) all
  pub width : length word + length values * width_of item ≡ length all * width_of item

pub items_laid_none : (item : EsiType) (values : List Value) → list_all (fits_of item) values ≡ true → AreLaid [] item values values
items_laid_none item values fits = record { fits = fits; bits = refl; width = omega arith }

module _ (word : List Bool) (item : EsiType) (v : Value) (vs all : List Value) where
  pub first_item_fits : AreLaid word item (v ∷ vs) all → fits_of item v ≡ true
  first_item_fits h = (and_parts (fits_of item v) (list_all (fits_of item) vs) h.fits).0

  pub items_laid_room : AreLaid word item (v ∷ vs) all → length word + width_of item ≤ length all * width_of item
  items_laid_room h = let e : suc (length vs) * width_of item ≡ width_of item + length vs * width_of item = omega arith in omega (arith, h.width)

  pub items_laid_more : (part : List Bool) → part ≡ bits_of_value item v → length part ≡ width_of item → AreLaid word item (v ∷ vs) all → AreLaid (word ++ part) item vs all
  items_laid_more part e w h = record {
    fits = (and_parts (fits_of item v) (list_all (fits_of item) vs) h.fits).1;
    bits =
        append_assoc word part (first_lowest (bits_of_value item) vs)
        ∙ ap (λ p. word ++ (p ++ first_lowest (bits_of_value item) vs)) e
        ∙ h.bits;
    width = let g : suc (length vs) * width_of item ≡ width_of item + length vs * width_of item = omega arith in omega (arith, h.width, length-append word part);
  }

pub items_laid_all : (word : List Bool) (item : EsiType) (all : List Value) → AreLaid word item [] all
    → (word ≡ first_lowest (bits_of_value item) all) × (length word ≡ length all * width_of item)
items_laid_all word item all h = (sym (append-nil word) ∙ h.bits, omega (arith, h.width))

-- ---- indices of the lists

next_at : {A : Type 0} (xs : List A) (i : ℕ) (x : A) → i < length xs → x ≡ get_or xs i x → drop i xs ≡ x ∷ drop (i + 1) xs
next_at xs i x l e = drop-cons xs i x l ∙ ap (λ y. y ∷ drop (suc i) xs) (sym e) ∙ ap (λ k. x ∷ drop k xs) (let g : suc i ≡ i + 1 = omega arith in g)

as_many_left : (word : List Bool) (fields : List Field) (values : List Value) (i : ℕ) → i < length fields → IsLaid word (drop i fields) (drop i values) fields values → i < length values
as_many_left word fields values i l h =
    let p = and_parts (length (drop i values) == length (map field_fits (drop i fields))) (pass_each (map field_fits (drop i fields)) (drop i values)) h.fits in
    let e = eqb-true (length (drop i values)) (length (map field_fits (drop i fields))) p.0 in
    omega (arith, length-drop i values, length-drop i fields, length-map (drop i fields) field_fits)

module _ (word : List Bool) (fields : List Field) (values : List Value) (i : ℕ) (f : Field) (v : Value) (l : i < length fields) (e : f ≡ get_or fields i f) (g : v ≡ get_or values i v) where
  laid_here : IsLaid word (drop i fields) (drop i values) fields values → IsLaid word (f ∷ drop (i + 1) fields) (v ∷ drop (i + 1) values) fields values
  laid_here h =
      subst (λ fs. IsLaid word fs (v ∷ drop (i + 1) values) fields values) (next_at fields i f l e)
      (subst (λ vs. IsLaid word (drop i fields) vs fields values) (next_at values i v (as_many_left word fields values i l h) g) h)

  pub room_at : IsLaid word (drop i fields) (drop i values) fields values → length word + width_of f.ty ≤ sum_by field_width fields
  room_at h = laid_room word f (drop (i + 1) fields) v (drop (i + 1) values) fields values (laid_here h)

  pub more_at : (part : List Bool) → part ≡ bits_of_value f.ty v → length part ≡ width_of f.ty → IsLaid word (drop i fields) (drop i values) fields values
      → IsLaid (part ++ word) (drop (i + 1) fields) (drop (i + 1) values) fields values
  more_at part a b h = laid_more word f (drop (i + 1) fields) v (drop (i + 1) values) fields values part a b (laid_here h)

-- ---- what a type and its value give

some_field : (fields : List Field) → 1 ≤ sum_by field_width fields → 1 ≤ length fields
some_field [] h = absurd (omega arith)
some_field (f ∷ fs) h = omega arith

some_item : (count width : ℕ) → 1 ≤ count * width → 1 ≤ count
some_item zero width h = absurd (omega arith)
some_item (suc count) width h = omega arith

struct_fits : (fields : List Field) (values : List Value) → fits_of (V.Struct fields) (W.Struct values) ≡ true → fits_fields (map field_fits fields) values ≡ true
struct_fits fields values h = sym (fits-Struct fields (W.Struct values) ∙ ap (fits_struct (map field_fits fields)) (outs-Struct values)) ∙ h

array_fits : (item : EsiType) (count : ℕ) (values : List Value) → fits_of (V.Array item count) (W.Array values) ≡ true → (length values ≡ count) × (list_all (fits_of item) values ≡ true)
array_fits item count values h =
    let p = and_parts (length values == count) (list_all (fits_of item) values) (sym (fits-Array item count (W.Array values) ∙ ap (fits_array (fits_of item) count) (outs-Array values)) ∙ h) in
    (eqb-true (length values) count p.0, p.1)

both_given : (ty other : EsiType) (v w : Value) → ty ≡ other → v ≡ w → fits_of ty v ≡ true → fits_of other w ≡ true
both_given ty other v w e g h = sym (ap (λ t. fits_of t v) e ∙ ap (fits_of other) g) ∙ h

-- a good struct has a field at least, and its fields and their values are such as may be packed
pub struct_given : (ty : EsiType) (v : Value) (fields : List Field) (values : List Value) → ty ≡ V.Struct fields → v ≡ W.Struct values → IsGoodType ty → fits_of ty v ≡ true
    → All HasGoodType fields × (fits_fields (map field_fits fields) values ≡ true) × (1 ≤ length fields) × (sum_by field_width fields ≤ WORD_BITS)
struct_given ty v fields values e g good h =
    let struct : IsGoodType (V.Struct fields) = subst IsGoodType e good in
    let low = good_low (V.Struct fields) struct.each in
    let high = good_high (V.Struct fields) struct.each in
    let width = width-Struct fields in
    (good_type_fields fields struct, struct_fits fields values (both_given ty (V.Struct fields) v (W.Struct values) e g h), some_field fields (omega arith), omega arith)

-- a good array has an item at least, and its items are such as may be packed
pub array_given : (ty : EsiType) (v : Value) (item : EsiType) (count : ℕ) (values : List Value) → ty ≡ V.Array item count → v ≡ W.Array values → IsGoodType ty → fits_of ty v ≡ true
    → IsGoodType item × (list_all (fits_of item) values ≡ true) × (1 ≤ length values) × (length values * width_of item ≤ WORD_BITS)
array_given ty v item count values e g good h =
    let array : IsGoodType (V.Array item count) = subst IsGoodType e good in
    let fits = array_fits item count values (both_given ty (V.Array item count) v (W.Array values) e g h) in
    let low = good_low (V.Array item count) array.each in
    let high = good_high (V.Array item count) array.each in
    let width = width-Array item count in
    let some = some_item count (width_of item) (omega arith) in
    (good_type_item item count array, fits.1, omega (arith, fits.0), subst (λ n. n * width_of item ≤ WORD_BITS) (sym fits.0) (omega arith))
