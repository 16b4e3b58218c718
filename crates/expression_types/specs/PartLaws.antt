-- The part of a value that a suffix takes is a slice of the value's bits.
use Rattle.std.proofs.Common.{◌≡◌, ℕ, zero, suc, ◌+◌, ◌*◌, ◌<◌, ◌≤◌, Bool, true, false, Some, List, [], ◌∷◌, length, take, drop, refl, ap, sym, ◌∙◌, subst, arith}
use Rattle.std.specs.Prelude.{if◌then◌else◌, nat_lt}
use Rattle.std.specs.List.{sum_by}
use Rattle.std.specs.Str.{bytes_eq}
use Rattle.std.proofs.lemmas.List.{take_all, length-take-le, length-drop}
use Rattle.std.proofs.lemmas.List.Sums.{sum_by-cons}
use Rattle.std.proofs.lemmas.Nat.{mul-le}
use Rattle.std.proofs.lemmas.Option.{same_Some}
use Rattle.std.proofs.lemmas.Bool.{leb-true}
use Rattle.channel_types.specs.declared.esi_type.EsiType.{EsiType}
use Rattle.channel_types.specs.declared.esi_type.EsiType.TheOpen.{EsiType-F}
use Rattle.channel_types.specs.declared.esi_type.EsiType.TheViews.{out-EsiType}
use Rattle.channel_types.specs.declared.esi_type.Field.{Field}
use Rattle.channel_types.specs.Types.{width_of, field_width, level_width}
use Rattle.channel_types.specs.Equations.{width-level, width-field}
use Rattle.netlist.specs.Nets.{Bits}
use Rattle.netlist.specs.FormulaLaws.{chosen}
use Rattle.design_tree.specs.declared.expression.Suffix.{Suffix}
use Rattle.design_tree.specs.declared.expression.Suffix.TheVariants as X
use Rattle.expression_types.specs.Views.{Piece}
use Rattle.expression_types.specs.Typing.{field_piece, element_piece, level_field, level_element, field_of, element_of, piece_of}
use Rattle.expression_types.specs.Meaning.{field_bits, element_bits, level_part_bits, part_bits, field_type, level_part_type, part_type}

-- a piece of a value: its type, its place within the value, and its bits
pub record IsPiece (ty : EsiType) (suffix : Suffix) (piece : Piece) : Type 0 where
  pub is_type : part_type ty suffix ≡ piece.ty
  pub within : piece.low + width_of piece.ty ≤ width_of ty
  pub bits : (word : Bits) → length word ≡ width_of ty → part_bits ty suffix word ≡ take (width_of piece.ty) (drop piece.low word)

-- ---- lists that are cut

abbrev none : (A : Type 0) → List A
none A = []

take_none : (A : Type 0) (n : ℕ) → take n (none A) ≡ none A
take_none A zero = refl
take_none A (suc n) = refl

drop_none : (A : Type 0) (n : ℕ) → drop n (none A) ≡ none A
drop_none A zero = refl
drop_none A (suc n) = refl

cut_within : {A : Type 0} (n k m : ℕ) (xs : List A) → k + n ≤ m → take n (drop k (take m xs)) ≡ take n (drop k xs)
cut_within {A = A} n k m [] h = ap (λ ys. take n (drop k ys)) (take_none A m)
cut_within n zero zero (x ∷ xs) h = ap (λ j. take j []) (let e : n ≡ 0 = omega arith in e) ∙ sym (ap (λ j. take j (x ∷ xs)) (let e : n ≡ 0 = omega arith in e))
cut_within zero zero (suc m) (x ∷ xs) h = refl
cut_within (suc n) zero (suc m) (x ∷ xs) h = ap (λ ys. x ∷ ys) (cut_within n zero m xs (omega arith))
cut_within n (suc k) zero (x ∷ xs) h = absurd (omega arith)
cut_within n (suc k) (suc m) (x ∷ xs) h = cut_within n k m xs (omega arith)

drop_more : {A : Type 0} (j k : ℕ) (xs : List A) → drop k (drop j xs) ≡ drop (j + k) xs
drop_more zero k xs = ap (λ n. drop n xs) (let e : k ≡ 0 + k = omega arith in e)
drop_more {A = A} (suc j) k [] = drop_none A k ∙ sym (drop_none A (suc j + k))
drop_more (suc j) k (x ∷ xs) = drop_more j k xs ∙ ap (λ n. drop n (x ∷ xs)) (let e : suc (j + k) ≡ suc j + k = omega arith in e)

-- ---- fields

pub record IsFieldPiece (name : List ℕ) (fields : List Field) (piece : Piece) : Type 0 where
  pub is_type : (ty : EsiType) → field_type ty name fields ≡ piece.ty
  pub within : piece.low + width_of piece.ty ≤ sum_by field_width fields
  pub bits : (word : Bits) → length word ≡ sum_by field_width fields → field_bits name fields word ≡ take (width_of piece.ty) (drop piece.low word)

field_found : (name : List ℕ) (fields : List Field) (piece : Piece) → field_piece name fields ≡ Some piece → IsFieldPiece name fields piece
field_found name [] piece e = absurd (cc)
field_found name (f ∷ fs) piece e = of (field_found name fs piece) (bytes_eq f.name name) refl e
  where
    whole : sum_by field_width (f ∷ fs) ≡ width_of f.ty + sum_by field_width fs
    whole = sum_by-cons field_width f fs ∙ ap (λ n. n + sum_by field_width fs) (width-field f)

    of : (field_piece name fs ≡ Some piece → IsFieldPiece name fs piece) → (t : Bool) → bytes_eq f.name name ≡ t → (if t then Some (record { ty = f.ty; low = sum_by field_width fs }) else field_piece name fs) ≡ Some piece → IsFieldPiece name (f ∷ fs) piece
    of later true same e = subst (IsFieldPiece name (f ∷ fs)) (same_Some _ piece e) (record {
      is_type = λ ty. ap (λ (t : Bool). if t then f.ty else field_type ty name fs) same;
      within = omega (arith, whole);
      bits = λ word l.
          ap (λ (t : Bool). if t then drop (sum_by field_width fs) word else field_bits name fs (take (sum_by field_width fs) word)) same
          ∙ sym (take_all (width_of f.ty) (drop (sum_by field_width fs) word) (omega (arith, whole, l, length-drop (sum_by field_width fs) word)));
    })
    of later false same e =
        let found = later e in
        record {
          is_type = λ ty. ap (λ (t : Bool). if t then f.ty else field_type ty name fs) same ∙ found.is_type ty;
          within = omega (arith, whole, found.within);
          bits = λ word l.
              ap (λ (t : Bool). if t then drop (sum_by field_width fs) word else field_bits name fs (take (sum_by field_width fs) word)) same
              ∙ found.bits (take (sum_by field_width fs) word) (length-take-le (sum_by field_width fs) word (omega (arith, whole, l)))
              ∙ cut_within (width_of piece.ty) piece.low (sum_by field_width fs) word found.within;
        }

-- ---- elements

element_cut : (width index : ℕ) (word : Bits) → element_bits width index word ≡ take width (drop (index * width) word)
element_cut width zero word = ap (λ k. take width (drop k word)) (let e : 0 ≡ 0 * width = omega arith in e)
element_cut width (suc index) word =
    element_cut width index (drop width word)
    ∙ ap (take width) (drop_more width (index * width) word)
    ∙ ap (λ k. take width (drop k word)) (let e : width + index * width ≡ suc index * width = grind arith in e)

element_found : (count index : ℕ) (item : EsiType) (piece : Piece) → element_piece index count item ≡ Some piece
    → (piece.ty ≡ item) × (piece.low ≡ index * width_of item) × (index < count)
element_found count index item piece e =
    let c = chosen (nat_lt index count) (Some (record { ty = item; low = index * width_of item })) piece e in
    let same = same_Some _ piece c.1 in
    (sym (ap (λ (p : Piece). p.ty) same), sym (ap (λ (p : Piece). p.low) same), leb-true (suc index) count c.0)

within_array : (index count width : ℕ) → index < count → index * width + width ≤ count * width
within_array index count width h =
    let more : suc index * width ≤ count * width = mul-le (suc index) width count width h (omega arith) in
    let one : index * width + width ≡ suc index * width = grind arith in
    omega (arith, more, one)

-- ---- parts

pub piece_found : (ty : EsiType) (suffix : Suffix) (piece : Piece) → piece_of ty suffix ≡ Some piece → IsPiece ty suffix piece
unfolding field_of element_of part_bits part_type
piece_found ty (X.Field name) piece e = of (out-EsiType ty) refl e
  where
    of : (level : EsiType-F EsiType Field) → out-EsiType ty ≡ level → level_field level name.octets ≡ Some piece → IsPiece ty (X.Field name) piece
    of (EsiType-F.Bits class width) same e = absurd (cc)
    of EsiType-F.Void same e = absurd (cc)
    of (EsiType-F.Array item count) same e = absurd (cc)
    of (EsiType-F.Struct fields) same e =
        let found = field_found name.octets fields piece e in
        let whole : width_of ty ≡ sum_by field_width fields = width-level ty ∙ ap level_width same in
        record {
          is_type = ap (λ level. level_part_type ty level (X.Field name)) same ∙ found.is_type ty;
          within = omega (arith, found.within, whole);
          bits = λ word l. ap (λ level. level_part_bits level (X.Field name) word) same ∙ found.bits word (l ∙ whole);
        }
piece_found ty (X.Element index) piece e = of (out-EsiType ty) refl e
  where
    of : (level : EsiType-F EsiType Field) → out-EsiType ty ≡ level → level_element level index.value ≡ Some piece → IsPiece ty (X.Element index) piece
    of (EsiType-F.Bits class width) same e = absurd (cc)
    of EsiType-F.Void same e = absurd (cc)
    of (EsiType-F.Struct fields) same e = absurd (cc)
    of (EsiType-F.Array item count) same e =
        let found = element_found count index.value item piece e in
        let whole : width_of ty ≡ count * width_of item = width-level ty ∙ ap level_width same in
        let wide : width_of piece.ty ≡ width_of item = ap width_of found.0 in
        let room = within_array index.value count (width_of item) found.2 in
        record {
          is_type = ap (λ level. level_part_type ty level (X.Element index)) same ∙ sym found.0;
          within = omega (arith, found.1, whole, wide, room);
          bits = λ word l.
              ap (λ level. level_part_bits level (X.Element index) word) same
              ∙ element_cut (width_of item) index.value word
              ∙ ap (λ n. take n (drop (index.value * width_of item) word)) (sym wide)
              ∙ ap (λ n. take (width_of piece.ty) (drop n word)) (sym found.1);
        }
