-- A walk over the fields of a struct, or over the items of an array, that looks for a void bit that is 1.
use Rattle.std.proofs.Common.{◌≡◌, ℕ, zero, suc, ◌+◌, ◌-◌, ◌*◌, ◌<◌, ◌≤◌, Bool, true, false, ◌||◌, List, [], ◌∷◌, ◌++◌, length, map, drop, get_or, slice_get, Some, refl, sym, ap, ◌∙◌, arith, drop-cons}
use Rattle.std.specs.List.{sum_by}
use Rattle.std.proofs.lemmas.Bool.{or_left, or_right}
use Rattle.std.proofs.lemmas.List.{drop-drop, drop_all, length-append}
use Rattle.std.proofs.lemmas.List.Sums.{sum_by-cons}
use Rattle.channel_types.specs.Types.{width_of, field_width}
use Rattle.channel_types.specs.Equations.{width-field}
use Rattle.channel_types.specs.declared.esi_type.EsiType.{EsiType}
use Rattle.channel_types.specs.declared.esi_type.EsiType.TheVariants as V
use Rattle.channel_types.specs.declared.esi_type.Field.{Field}
use Rattle.bit_packing.specs.Voids.{stacked, repeated, has_marked_one, voids_of, field_voids}
use Rattle.bit_packing.specs.Equations.{voids-Struct, voids-field}
use Rattle.bit_packing.specs.MarkLemmas.{marked-append}
use Rattle.bit_packing.specs.PackingLaws.{each_coded}

length-voids : (ty : EsiType) → length (voids_of ty) ≡ width_of ty
length-voids ty = (each_coded ty).marked

length-stacked : (fs : List Field) → length (stacked (map field_voids fs)) ≡ sum_by field_width fs
length-stacked [] = refl
length-stacked (f ∷ fs) =
    length-append (stacked (map field_voids fs)) (field_voids f)
    ∙ ap (λ n. n + length (field_voids f)) (length-stacked fs)
    ∙ ap (λ m. sum_by field_width fs + length m) (voids-field f)
    ∙ ap (λ n. sum_by field_width fs + n) (length-voids f.ty ∙ sym (width-field f))
    ∙ let e : sum_by field_width fs + field_width f ≡ field_width f + sum_by field_width fs = omega arith in e
    ∙ sym (sum_by-cons field_width f fs)

-- whether a void bit is 1 among those of the fields, which end below an index of the word
abbrev pub fields_set : List Bool → List Field → ℕ → Bool
fields_set word fields end = has_marked_one (stacked (map field_voids fields)) (drop (end - sum_by field_width fields) word)

-- the first field's bits stand above those of the others
fields_set-cons : (word : List Bool) (f : Field) (fs : List Field) (at : ℕ) → sum_by field_width fs ≤ at
    → fields_set word (f ∷ fs) (at + width_of f.ty) ≡ (fields_set word fs at || has_marked_one (voids_of f.ty) (drop at word))
fields_set-cons word f fs at room =
    let from : at + width_of f.ty - sum_by field_width (f ∷ fs) ≡ at - sum_by field_width fs = omega (arith, sum_by-cons field_width f fs, width-field f) in
    let start = at - sum_by field_width fs in
    ap (λ k. has_marked_one (stacked (map field_voids fs) ++ field_voids f) (drop k word)) from
    ∙ marked-append (stacked (map field_voids fs)) (field_voids f) (drop start word)
    ∙ ap (λ bits. fields_set word fs at || has_marked_one (field_voids f) bits) (ap (λ k. drop k (drop start word)) (length-stacked fs) ∙ drop-drop (sum_by field_width fs) start word ∙ ap (λ k. drop k word) (let e : start + sum_by field_width fs ≡ at = omega arith in e))
    ∙ ap (λ marks. fields_set word fs at || has_marked_one marks (drop at word)) (voids-field f)

-- a struct's void bits are those of its fields
pub struct_set : (word : List Bool) (fields : List Field) (at width : ℕ) → width ≡ sum_by field_width fields → has_marked_one (voids_of (V.Struct fields)) (drop at word) ≡ fields_set word fields (at + width)
struct_set word fields at width e =
    ap (λ marks. has_marked_one marks (drop at word)) (voids-Struct fields)
    ∙ ap (λ k. has_marked_one (stacked (map field_voids fields)) (drop k word)) (let g : at ≡ at + width - sum_by field_width fields = omega arith in g)

-- the one bit of a void
pub void_set : (word : List Bool) (at : ℕ) (b : Bool) → slice_get word at ≡ Some b → has_marked_one (true ∷ []) (drop at word) ≡ b
void_set [] zero b e = absurd (cc)
void_set [] (suc at) b e = absurd (cc)
void_set (x ∷ word) zero b e = or_nothing x ∙ (let g : x ≡ b = cc in g)
  where
    or_nothing : (x : Bool) → (x || false) ≡ x
    or_nothing true = refl
    or_nothing false = refl
void_set (x ∷ word) (suc at) b e = void_set word at b e

-- Of so many fields no void bit is 1, and the bits of the others end below this index.
pub record IsWalked (word : List Bool) (fields : List Field) (end i at : ℕ) : Type 0 where
  pub room : sum_by field_width (drop i fields) ≤ at
  pub within : at ≤ end
  pub left : fields_set word (drop i fields) at ≡ fields_set word fields end

pub walked_none : (word : List Bool) (fields : List Field) (end : ℕ) → sum_by field_width fields ≤ end → IsWalked word fields end 0 end
walked_none word fields end room = record { room = room; within = omega arith; left = refl }

next_field : (fields : List Field) (i : ℕ) (f : Field) → i < length fields → f ≡ get_or fields i f → drop i fields ≡ f ∷ drop (i + 1) fields
next_field fields i f l e = drop-cons fields i f l ∙ ap (λ x. x ∷ drop (suc i) fields) (sym e) ∙ ap (λ k. f ∷ drop k fields) (let g : suc i ≡ i + 1 = omega arith in g)

module _ (word : List Bool) (fields : List Field) (end i at width : ℕ) (f : Field) (l : i < length fields) (e : f ≡ get_or fields i f) (w : width ≡ width_of f.ty) where
  pub walked_room : IsWalked word fields end i at → width + sum_by field_width (drop (i + 1) fields) ≤ at
  walked_room h =
      let next = ap (sum_by field_width) (next_field fields i f l e) ∙ sum_by-cons field_width f (drop (i + 1) fields) in
      omega (arith, h.room, next, width-field f)

  pub walked_left : IsWalked word fields end i at → (fields_set word (drop (i + 1) fields) (at - width) || has_marked_one (voids_of f.ty) (drop (at - width) word)) ≡ fields_set word fields end
  walked_left h =
      let room = walked_room h in
      sym (fields_set-cons word f (drop (i + 1) fields) (at - width) (omega arith))
      ∙ ap (λ k. fields_set word (f ∷ drop (i + 1) fields) k) (let g : at - width + width_of f.ty ≡ at = omega arith in g)
      ∙ ap (λ fs. fields_set word fs at) (sym (next_field fields i f l e))
      ∙ h.left

  pub walked_more : IsWalked word fields end i at → has_marked_one (voids_of f.ty) (drop (at - width) word) ≡ false → IsWalked word fields end (i + 1) (at - width)
  walked_more h clear =
      let room = walked_room h in
      let here = fields_set word (drop (i + 1) fields) (at - width) in
      record {
        room = omega arith;
        within = omega (arith, h.within);
        left = or_false here ∙ ap (λ b. here || b) (sym clear) ∙ walked_left h;
      }
    where
      or_false : (b : Bool) → b ≡ (b || false)
      or_false true = refl
      or_false false = refl

  pub walked_found : IsWalked word fields end i at → has_marked_one (voids_of f.ty) (drop (at - width) word) ≡ true → fields_set word fields end ≡ true
  walked_found h found = sym (walked_left h) ∙ or_right (fields_set word (drop (i + 1) fields) (at - width)) (has_marked_one (voids_of f.ty) (drop (at - width) word)) found

pub walked_all : (word : List Bool) (fields : List Field) (end i at : ℕ) → length fields ≤ i → IsWalked word fields end i at → fields_set word fields end ≡ false
walked_all word fields end i at l h = sym h.left ∙ ap (λ fs. fields_set word fs at) (drop_all i fields l)

-- ---- items

-- whether a void bit is 1 among those of so many items, which begin at an index of the word
abbrev pub items_set : List Bool → EsiType → ℕ → ℕ → Bool
items_set word item count at = has_marked_one (repeated count (voids_of item)) (drop at word)

items_set-suc : (word : List Bool) (item : EsiType) (count at : ℕ) → items_set word item (suc count) at ≡ (has_marked_one (voids_of item) (drop at word) || items_set word item count (at + width_of item))
items_set-suc word item count at =
    marked-append (voids_of item) (repeated count (voids_of item)) (drop at word)
    ∙ ap (λ k. has_marked_one (voids_of item) (drop at word) || has_marked_one (repeated count (voids_of item)) (drop k (drop at word))) (length-voids item)
    ∙ ap (λ bits. has_marked_one (voids_of item) (drop at word) || has_marked_one (repeated count (voids_of item)) bits) (drop-drop (width_of item) at word)

-- Of so many items no void bit is 1, and those of the others begin at this index.
pub record AreWalked (word : List Bool) (item : EsiType) (count start i at : ℕ) : Type 0 where
  pub index : at ≡ start + i * width_of item
  pub left : items_set word item (count - i) at ≡ items_set word item count start

pub items_walked_none : (word : List Bool) (item : EsiType) (count start : ℕ) → AreWalked word item count start 0 start
items_walked_none word item count start = record { index = omega arith; left = ap (λ k. items_set word item k start) (let e : count - 0 ≡ count = omega arith in e) }

module _ (word : List Bool) (item : EsiType) (count start i at width : ℕ) (l : i < count) (w : width ≡ width_of item) where
  pub items_room : AreWalked word item count start i at → at + width + (count - i - 1) * width_of item ≡ start + count * width_of item
  items_room h =
      let e : count ≡ i + 1 + (count - i - 1) = omega arith in
      let rest = count - i - 1 in
      let g : (i + 1 + rest) * width_of item ≡ i * width_of item + width_of item + rest * width_of item = grind arith in
      omega (arith, h.index, g, ap (λ k. k * width_of item) e)

  pub items_left : AreWalked word item count start i at → (has_marked_one (voids_of item) (drop at word) || items_set word item (count - (i + 1)) (at + width)) ≡ items_set word item count start
  items_left h =
      ap (λ k. has_marked_one (voids_of item) (drop at word) || items_set word item (count - (i + 1)) (at + k)) w
      ∙ sym (items_set-suc word item (count - (i + 1)) at)
      ∙ ap (λ k. items_set word item k at) (let e : suc (count - (i + 1)) ≡ count - i = omega arith in e)
      ∙ h.left

  pub items_walked_more : AreWalked word item count start i at → has_marked_one (voids_of item) (drop at word) ≡ false → AreWalked word item count start (i + 1) (at + width)
  items_walked_more h clear = record {
    index = let g : (i + 1) * width_of item ≡ i * width_of item + width_of item = grind arith in omega (arith, h.index);
    left = ap (λ b. b || items_set word item (count - (i + 1)) (at + width)) (sym clear) ∙ items_left h;
  }

  pub items_walked_found : AreWalked word item count start i at → has_marked_one (voids_of item) (drop at word) ≡ true → items_set word item count start ≡ true
  items_walked_found h found = sym (items_left h) ∙ or_left (has_marked_one (voids_of item) (drop at word)) (items_set word item (count - (i + 1)) (at + width)) found

pub items_walked_all : (word : List Bool) (item : EsiType) (count start i at : ℕ) → count ≤ i → AreWalked word item count start i at → items_set word item count start ≡ false
items_walked_all word item count start i at l h = sym h.left ∙ ap (λ k. items_set word item k at) (let e : count - i ≡ 0 = omega arith in e)
