-- Values that are taken out of a word one after another.
use Rattle.std.proofs.Common.{◌≡◌, ℕ, ◌+◌, ◌-◌, ◌*◌, ◌<◌, ◌≤◌, Bool, true, false, ◌&&◌, ◌==◌, List, [], ◌∷◌, ◌++◌, length, map, take, drop, get_or, slice_range, refl, sym, ap, ◌∙◌, subst, arith, append_assoc, append-nil}
use Rattle.std.specs.List.{sum_by, list_all}
use Rattle.std.proofs.lemmas.Bool.{and_parts, and_from, or_parts, eqb-true, eq-eqb}
use Rattle.std.proofs.lemmas.List.{length-append, length-map, map-append, length-drop, length-take-le, take_more, take_all, drop-drop}
use Rattle.std.proofs.lemmas.List.Folds.{list_all-append}
use Rattle.std.proofs.lemmas.List.Sums.{sum_by_more}
use Rattle.std.proofs.Math.Seq.{take-add}
use Rattle.channel_types.specs.Types.{width_of, field_width}
use Rattle.channel_types.specs.Equations.{width-Bits, width-Void, width-Struct, width-field}
use Rattle.channel_types.specs.declared.Class.{Class}
use Rattle.channel_types.specs.declared.esi_type.EsiType.{EsiType}
use Rattle.channel_types.specs.declared.esi_type.EsiType.TheVariants as V
use Rattle.channel_types.specs.declared.esi_type.Field.{Field}
use Rattle.bit_packing.specs.declared.value.Value.{Value}
use Rattle.bit_packing.specs.declared.value.Value.TheVariants as W
use Rattle.bit_packing.specs.declared.value.Value.TheVariants.{outs-Number, outs-Void, outs-Struct, outs-Array}
use Rattle.bit_packing.specs.Fitting.{Test, pass_each, fits_fields, fits_bits, fits_void, fits_struct, fits_array, fits_of, field_fits}
use Rattle.bit_packing.specs.Packing.{Pack, own_bits, parts_of, first_highest, first_lowest, bits_of_value, field_bits, PacksTo, PackFields, PackItems}
use Rattle.bit_packing.specs.Voids.{has_marked_one, voids_of}
use Rattle.bit_packing.specs.Equations.{fits-Bits, fits-Void, fits-Struct, fits-Array, fits-field, bits-Bits, bits-Void, bits-Struct, bits-Array, bits-field, voids-Void}
use Rattle.bit_packing.proofs.VoidWalk.{fields_set, items_set, IsWalked, walked_none, walked_more, walked_left, walked_room, AreWalked, items_walked_none, items_walked_more, items_left}

-- the bits that stand from an index of the word on, as many as the type is wide
abbrev pub bits_at : List Bool → ℕ → ℕ → List Bool
bits_at word at width = take width (drop at word)

-- ---- one value more

pass_each-snoc : (tests : List Test) (test : Test) (vs : List Value) (v : Value) → length vs ≡ length tests → pass_each (tests ++ test ∷ []) (vs ++ v ∷ []) ≡ (pass_each tests vs && test v)
pass_each-snoc [] test [] v e = and-true (test v)
  where
    and-true : (b : Bool) → (b && true) ≡ b
    and-true true = refl
    and-true false = refl
pass_each-snoc [] test (w ∷ vs) v e = absurd (omega arith)
pass_each-snoc (t ∷ tests) test [] v e = absurd (omega arith)
pass_each-snoc (t ∷ tests) test (w ∷ vs) v e = ap (λ b. t w && b) (pass_each-snoc tests test vs v (omega arith)) ∙ and_assoc (t w) (pass_each tests vs) (test v)
  where
    and_assoc : (a b c : Bool) → (a && (b && c)) ≡ ((a && b) && c)
    and_assoc true b c = refl
    and_assoc false b c = refl

fits_fields-snoc : (tests : List Test) (test : Test) (vs : List Value) (v : Value) → fits_fields tests vs ≡ true → test v ≡ true → fits_fields (tests ++ test ∷ []) (vs ++ v ∷ []) ≡ true
fits_fields-snoc tests test vs v h g =
    let p = and_parts (length vs == length tests) (pass_each tests vs) h in
    let e = eqb-true (length vs) (length tests) p.0 in
    and_from (length (vs ++ v ∷ []) == length (tests ++ test ∷ [])) (pass_each (tests ++ test ∷ []) (vs ++ v ∷ []))
    (eq-eqb (length (vs ++ v ∷ [])) (length (tests ++ test ∷ [])) (omega (arith, length-append vs (v ∷ []), length-append tests (test ∷ []))))
    (pass_each-snoc tests test vs v e ∙ and_from (pass_each tests vs) (test v) p.1 g)

first_highest-snoc : (packs : List Pack) (pack : Pack) (vs : List Value) (v : Value) → length vs ≡ length packs → first_highest (packs ++ pack ∷ []) (vs ++ v ∷ []) ≡ pack v ++ first_highest packs vs
first_highest-snoc [] pack [] v e = sym (append-nil (pack v))
first_highest-snoc [] pack (w ∷ vs) v e = absurd (omega arith)
first_highest-snoc (p ∷ packs) pack [] v e = absurd (omega arith)
first_highest-snoc (p ∷ packs) pack (w ∷ vs) v e = ap (λ bits. bits ++ p w) (first_highest-snoc packs pack vs v (omega arith)) ∙ append_assoc (pack v) (first_highest packs vs) (p w)

first_lowest-snoc : (pack : Pack) (vs : List Value) (v : Value) → first_lowest pack (vs ++ v ∷ []) ≡ first_lowest pack vs ++ pack v
first_lowest-snoc pack [] v = append-nil (pack v)
first_lowest-snoc pack (w ∷ vs) v = ap (λ bits. pack w ++ bits) (first_lowest-snoc pack vs v) ∙ sym (append_assoc (pack w) (first_lowest pack vs) (pack v))

-- ---- fields

-- The values of so many fields are taken, and the bits of the others end below this index.
pub record IsTaken (word : List Bool) (fields : List Field) (end i at : ℕ) (values : List Value) : Type 0 where
  pub walk : IsWalked word fields end i at
  pub index : at + sum_by field_width (take i fields) ≡ end
  pub fits : fits_fields (map field_fits (take i fields)) values ≡ true
  pub packs : first_highest (map field_bits (take i fields)) values ≡ bits_at word at (end - at)

pub taken_none : (word : List Bool) (fields : List Field) (end : ℕ) → sum_by field_width fields ≤ end → IsTaken word fields end 0 end []
taken_none word fields end room = record {
  walk = walked_none word fields end room;
  index = omega arith;
  fits = refl;
  packs = ap (λ k. take k (drop end word)) (let e : 0 ≡ end - end = omega arith in e);
}

module _ (word : List Bool) (fields : List Field) (end i at width : ℕ) (f : Field) (l : i < length fields) (e : f ≡ get_or fields i f) (w : width ≡ width_of f.ty) (clear : fields_set word fields end ≡ false) where
  pub field_clear : IsWalked word fields end i at → has_marked_one (voids_of f.ty) (drop (at - width) word) ≡ false
  field_clear h =
      (or_parts (fields_set word (drop (i + 1) fields) (at - width)) (has_marked_one (voids_of f.ty) (drop (at - width) word))
      (walked_left word fields end i at width f l e w h ∙ clear)).1

  pub taken_more : (values : List Value) (v : Value) → IsTaken word fields end i at values → PacksTo f.ty v (bits_at word (at - width) (width_of f.ty)) → IsTaken word fields end (i + 1) (at - width) (values ++ v ∷ [])
  taken_more values v h one =
      let next : take (i + 1) fields ≡ take i fields ++ f ∷ [] = take_more fields i f l ∙ ap (λ x. take i fields ++ x ∷ []) (sym e) in
      let room = walked_room word fields end i at width f l e w h.walk in
      let p = and_parts (length values == length (map field_fits (take i fields))) (pass_each (map field_fits (take i fields)) values) h.fits in
      let long = eqb-true (length values) (length (map field_fits (take i fields))) p.0 in
      record {
        walk = walked_more word fields end i at width f l e w h.walk (field_clear h.walk);
        index = omega (arith, h.index, sum_by_more field_width fields i f l, ap field_width e, width-field f);
        fits =
            subst (λ fs. fits_fields (map field_fits fs) (values ++ v ∷ []) ≡ true) (sym next)
            (subst (λ ts. fits_fields ts (values ++ v ∷ []) ≡ true) (sym (map-append field_fits (take i fields) (f ∷ [])))
            (fits_fields-snoc (map field_fits (take i fields)) (field_fits f) values v h.fits (ap (λ t. t v) (fits-field f) ∙ one.fits)));
        packs =
            ap (λ fs. first_highest (map field_bits fs) (values ++ v ∷ [])) next
            ∙ ap (λ ps. first_highest ps (values ++ v ∷ [])) (map-append field_bits (take i fields) (f ∷ []))
            ∙ first_highest-snoc (map field_bits (take i fields)) (field_bits f) values v (long ∙ length-map (take i fields) field_fits ∙ sym (length-map (take i fields) field_bits))
            ∙ ap (λ bits. bits ++ first_highest (map field_bits (take i fields)) values) (ap (λ p. p v) (bits-field f) ∙ one.packs ∙ ap (λ k. bits_at word (at - width) k) (sym w))
            ∙ ap (λ bits. bits_at word (at - width) width ++ bits) (h.packs ∙ ap (λ k. bits_at word k (end - at)) (let g : at ≡ at - width + width = omega arith in g) ∙ ap (λ bits. take (end - at) bits) (sym (drop-drop width (at - width) word)))
            ∙ sym (take-add width (end - at) (drop (at - width) word))
            ∙ ap (λ k. bits_at word (at - width) k) (let g : width + (end - at) ≡ end - (at - width) = omega (arith, h.walk.within) in g);
      }

pub taken_all : (word : List Bool) (fields : List Field) (end i at : ℕ) (values : List Value) → length fields ≤ i → IsTaken word fields end i at values
    → PackFields fields values (bits_at word (end - sum_by field_width fields) (sum_by field_width fields))
taken_all word fields end i at values l h =
    let all = take_all i fields l in
    let index : at + sum_by field_width fields ≡ end = ap (λ fs. at + sum_by field_width fs) (sym all) ∙ h.index in
    let e : at ≡ end - sum_by field_width fields = omega arith in
    record {
      fits = subst (λ fs. fits_fields (map field_fits fs) values ≡ true) all h.fits;
      packs =
          ap (λ fs. first_highest (map field_bits fs) values) (sym all)
          ∙ h.packs
          ∙ ap (λ k. bits_at word k (end - at)) e
          ∙ ap (λ k. bits_at word (end - sum_by field_width fields) k) (let g : end - at ≡ sum_by field_width fields = omega arith in g);
    }

-- ---- items

-- So many items are taken, and the bits of the others begin at this index.
pub record AreTaken (word : List Bool) (item : EsiType) (count start i at : ℕ) (values : List Value) : Type 0 where
  pub walk : AreWalked word item count start i at
  pub count_of : length values ≡ i
  pub fits : list_all (fits_of item) values ≡ true
  pub packs : first_lowest (bits_of_value item) values ≡ bits_at word start (i * width_of item)

pub items_taken_none : (word : List Bool) (item : EsiType) (count start : ℕ) → AreTaken word item count start 0 start []
items_taken_none word item count start = record {
  walk = items_walked_none word item count start;
  count_of = refl;
  fits = refl;
  packs = ap (λ k. bits_at word start k) (let e : 0 ≡ 0 * width_of item = omega arith in e);
}

module _ (word : List Bool) (item : EsiType) (count start i at width : ℕ) (l : i < count) (w : width ≡ width_of item) (clear : items_set word item count start ≡ false) where
  pub item_clear : AreWalked word item count start i at → has_marked_one (voids_of item) (drop at word) ≡ false
  item_clear h =
      (or_parts (has_marked_one (voids_of item) (drop at word)) (items_set word item (count - (i + 1)) (at + width))
      (items_left word item count start i at width l w h ∙ clear)).0

  pub items_taken_more : (values : List Value) (v : Value) → AreTaken word item count start i at values → PacksTo item v (bits_at word at (width_of item)) → AreTaken word item count start (i + 1) (at + width) (values ++ v ∷ [])
  items_taken_more values v h one = record {
    walk = items_walked_more word item count start i at width l w h.walk (item_clear h.walk);
    count_of = omega (arith, length-append values (v ∷ []), h.count_of);
    fits = list_all-append (fits_of item) values (v ∷ []) ∙ and_from (list_all (fits_of item) values) (fits_of item v && true) h.fits (and_from (fits_of item v) true one.fits refl);
    packs =
        first_lowest-snoc (bits_of_value item) values v
        ∙ ap (λ bits. bits ++ bits_of_value item v) h.packs
        ∙ ap (λ bits. bits_at word start (i * width_of item) ++ bits)
        (one.packs ∙ ap (λ k. bits_at word k (width_of item)) h.walk.index ∙ ap (λ bits. take (width_of item) bits) (sym (drop-drop (i * width_of item) start word)))
        ∙ sym (take-add (i * width_of item) (width_of item) (drop start word))
        ∙ ap (λ k. bits_at word start k) (let g : i * width_of item + width_of item ≡ (i + 1) * width_of item = grind arith in g);
  }

pub items_taken_all : (word : List Bool) (item : EsiType) (count start i at : ℕ) (values : List Value) → count ≡ i → AreTaken word item count start i at values → PackItems item count values (bits_at word start (count * width_of item))
items_taken_all word item count start i at values e h = record { count_of = h.count_of ∙ sym e; fits = h.fits; packs = h.packs ∙ ap (λ k. bits_at word start (k * width_of item)) (sym e) }

-- ---- a value of each kind of type

pub number_taken : (class : Class) (width : ℕ) (word : List Bool) → length word ≡ width → PacksTo (V.Bits class width) (W.Number word) word
number_taken class width word e = record {
  fits = fits-Bits class width (W.Number word) ∙ ap (fits_bits width) (outs-Number word) ∙ eq-eqb (length word) width e;
  packs = bits-Bits class width (W.Number word) ∙ ap own_bits (outs-Number word);
}

pub void_taken : (bits : List Bool) → length bits ≡ 1 → has_marked_one (true ∷ []) bits ≡ false → PacksTo V.Void W.Void bits
void_taken bits e clear = record {
  fits = fits-Void W.Void ∙ ap fits_void outs-Void;
  packs = bits-Void W.Void ∙ bit bits e clear;
}
  where
    bit : (bits : List Bool) → length bits ≡ 1 → has_marked_one (true ∷ []) bits ≡ false → false ∷ [] ≡ bits
    bit [] e m = absurd (omega arith)
    bit (true ∷ bits) e m = absurd (cc)
    bit (false ∷ []) e m = refl
    bit (false ∷ (b ∷ bits)) e m = absurd (omega arith)

pub struct_taken : (fields : List Field) (values : List Value) (bits : List Bool) → PackFields fields values bits → PacksTo (V.Struct fields) (W.Struct values) bits
struct_taken fields values bits h = record {
  fits = fits-Struct fields (W.Struct values) ∙ ap (fits_struct (map field_fits fields)) (outs-Struct values) ∙ h.fits;
  packs = bits-Struct fields (W.Struct values) ∙ ap (λ x. first_highest (map field_bits fields) (parts_of x)) (outs-Struct values) ∙ h.packs;
}

pub array_taken : (item : EsiType) (count : ℕ) (values : List Value) (bits : List Bool) → PackItems item count values bits → PacksTo (V.Array item count) (W.Array values) bits
array_taken item count values bits h = record {
  fits = fits-Array item count (W.Array values) ∙ ap (fits_array (fits_of item) count) (outs-Array values) ∙ and_from (length values == count) (list_all (fits_of item) values) (eq-eqb (length values) count h.count_of) h.fits;
  packs = bits-Array item count (W.Array values) ∙ ap (λ x. first_lowest (bits_of_value item) (parts_of x)) (outs-Array values) ∙ h.packs;
}

-- ---- the same at a index of a word

pub number_at : (ty : EsiType) (class : Class) (width at : ℕ) (word part : List Bool) → ty ≡ V.Bits class width → 1 ≤ width → at + width ≤ length word → part ≡ slice_range word at (at + width - 1 + 1)
    → PacksTo ty (W.Number part) (bits_at word at (width_of ty))
number_at ty class width at word part e low room g =
    let is_width : width_of ty ≡ width = ap width_of e ∙ width-Bits class width in
    let bits : part ≡ bits_at word at width = g ∙ ap (λ k. take k (drop at word)) (let f : at + width - 1 + 1 - at ≡ width = omega arith in f) in
    let long : length part ≡ width = ap length bits ∙ length-take-le width (drop at word) (omega (arith, length-drop at word)) in
    subst (λ t. PacksTo t (W.Number part) (bits_at word at (width_of ty))) (sym e)
    (subst (PacksTo (V.Bits class width) (W.Number part)) (bits ∙ ap (λ k. bits_at word at k) (sym is_width)) (number_taken class width part long))

first_marked : (bits : List Bool) → has_marked_one (true ∷ []) (take 1 bits) ≡ has_marked_one (true ∷ []) bits
first_marked [] = refl
first_marked (b ∷ bits) = refl

pub void_at : (ty : EsiType) (at : ℕ) (word : List Bool) → ty ≡ V.Void → at + width_of ty ≤ length word → has_marked_one (voids_of ty) (drop at word) ≡ false → PacksTo ty W.Void (bits_at word at (width_of ty))
void_at ty at word e room clear =
    let is_width : width_of ty ≡ 1 = ap width_of e ∙ width-Void in
    let marked : has_marked_one (true ∷ []) (bits_at word at 1) ≡ false =
    first_marked (drop at word) ∙ sym (ap (λ t. has_marked_one (voids_of t) (drop at word)) e ∙ ap (λ marks. has_marked_one marks (drop at word)) voids-Void) ∙ clear in
    subst (λ t. PacksTo t W.Void (bits_at word at (width_of ty))) (sym e)
    (subst (λ k. PacksTo V.Void W.Void (bits_at word at k)) (sym is_width) (void_taken (bits_at word at 1) (length-take-le 1 (drop at word) (omega (arith, length-drop at word))) marked))

pub struct_at : (ty : EsiType) (fields : List Field) (values : List Value) (at width : ℕ) (word : List Bool) → ty ≡ V.Struct fields → width ≡ width_of ty
    → PackFields fields values (bits_at word (at + width - sum_by field_width fields) (sum_by field_width fields)) → PacksTo ty (W.Struct values) (bits_at word at (width_of ty))
struct_at ty fields values at width word e w h =
    let is_width : width_of ty ≡ sum_by field_width fields = ap width_of e ∙ width-Struct fields in
    subst (λ t. PacksTo t (W.Struct values) (bits_at word at (width_of ty))) (sym e)
    (struct_taken fields values (bits_at word at (width_of ty))
    (subst (PackFields fields values) (ap (λ k. bits_at word k (sum_by field_width fields)) (let f : at + width - sum_by field_width fields ≡ at = omega arith in f) ∙ ap (λ k. bits_at word at k) (sym is_width)) h))
