-- What the tests of the table say: each is true exactly where its condition holds.
use Rattle.std.proofs.Common.{◌≡◌, ℕ, zero, suc, ◌+◌, ◌<◌, Bool, true, false, Option, Some, None, List, [], ◌∷◌, length, drop, map, replicate, refl, ap, sym, ◌∙◌, arith}
use Rattle.std.specs.Prelude.{slice_get, if◌then◌else◌, nat_le, ◌||◌, not, ◌==◌, Ok}
use Rattle.std.specs.List.{sum_by}
use Rattle.std.specs.Str.{bytes_eq}
use Rattle.std.proofs.lemmas.Bool.{and_parts, and_from, eqb-true, eq-eqb, le-leb}
use Rattle.std.proofs.lemmas.Option.{same_Some}
use Rattle.std.proofs.lemmas.List.{length-replicate}
use Rattle.std.proofs.lemmas.Slice.Eq.{bytes_eq-Decides}
use Rattle.design_lex.specs.declared.token.Class.{Class}
use Rattle.design_lex.specs.declared.token.Class.TheVariants.{Unsigned, Signed, Plain}
use Rattle.design_lex.specs.declared.limits.TheConstants.{WIDEST_TYPE}
use Rattle.channel_types.specs.declared.esi_type.EsiType.{EsiType}
use Rattle.channel_types.specs.declared.esi_type.EsiType.TheVariants.{outs-Bits}
use Rattle.channel_types.specs.declared.esi_type.EsiType.TheViews.{out-EsiType}
use Rattle.channel_types.specs.declared.esi_type.Field.{Field}
use Rattle.channel_types.specs.Types.{field_width}
use Rattle.channel_types.specs.SameTypes.{same_types}
use Rattle.channel_types.specs.SameTypesLaws.{is_test}
use Rattle.netlist.specs.declared.formula.Formula.TheVariants as F
use Rattle.netlist.specs.FormulaLaws.{chosen}
use Rattle.design_tree.specs.declared.leaves.Name.{Name}
use Rattle.expression_types.specs.declared.number_type.NumberType.{NumberType}
use Rattle.expression_types.specs.Views.{Variable, Typed, Piece}
use Rattle.expression_types.specs.Typing.{Typing, made, is_unsigned, is_signed, number_type, level_number, variable_from, field_piece, fields_given, all_same, elements_given, same_width, common_number}
use Rattle.expression_types.specs.WidthLaws.{IsNumber, number_is}
use Rattle.expression_types.specs.OperatorLaws.{typed_as, same_typed}
use Rattle.expression_types.specs.Rows.{IsVariable, IsField, type_of_field}

pub not_true : (b : Bool) → not b ≡ true → b ≡ false
not_true true e = absurd (cc)
not_true false e = refl

-- ---- classes

pub not_signed : (c : Class) → not (is_signed c) ≡ true → c ≡ Signed → ⊥
not_signed Signed e same = absurd (cc)
not_signed Unsigned e same = absurd (cc)
not_signed Plain e same = absurd (cc)

pub signed_not : (c : Class) → (c ≡ Signed → ⊥) → not (is_signed c) ≡ true
signed_not Signed h = absurd (h refl)
signed_not Unsigned h = refl
signed_not Plain h = refl

pub not_plain : (c : Class) → (is_unsigned c || is_signed c) ≡ true → c ≡ Plain → ⊥
not_plain Plain e same = absurd (cc)
not_plain Unsigned e same = absurd (cc)
not_plain Signed e same = absurd (cc)

pub plain_not : (c : Class) → (c ≡ Plain → ⊥) → (is_unsigned c || is_signed c) ≡ true
plain_not Plain h = absurd (h refl)
plain_not Unsigned h = refl
plain_not Signed h = refl

pub unsigned_is : (c : Class) → is_unsigned c ≡ true → c ≡ Unsigned
unsigned_is Unsigned e = refl
unsigned_is Signed e = absurd (cc)
unsigned_is Plain e = absurd (cc)

-- ---- bits types, widths

pub number_given : (ty : EsiType) (n : NumberType) → IsNumber ty n → number_type ty ≡ Some n
unfolding number_type
number_given ty n h =
    ap (λ ty. level_number (out-EsiType ty)) h.is
    ∙ ap level_number (outs-Bits n.class n.width)
    ∙ ap (λ (t : Bool). if t then Some n else None) (and_from (nat_le 1 n.width) (nat_le n.width WIDEST_TYPE) (le-leb 1 n.width h.low) (le-leb n.width WIDEST_TYPE h.high))

pub common_found : (left right : EsiType) (n : NumberType) → common_number left right ≡ Some n → (left ≡ right) × IsNumber left n
unfolding common_number
common_found left right n e = let c = chosen (same_types left right) (number_type left) n e in ((is_test left right).0 c.0, number_is left n c.1)

pub common_given : (left right : EsiType) (n : NumberType) → left ≡ right → IsNumber left n → common_number left right ≡ Some n
unfolding common_number
common_given left right n same h = ap (λ (t : Bool). if t then number_type left else None) ((is_test left right).1 same) ∙ number_given left n h

pub same_width_found : (x y : Option ℕ) → same_width x y ≡ true → (n : ℕ) × (x ≡ Some n) × (y ≡ Some n)
same_width_found None None e = absurd (cc)
same_width_found None (Some b) e = absurd (cc)
same_width_found (Some a) None e = absurd (cc)
same_width_found (Some a) (Some b) e = (a, refl, ap Some (sym (eqb-true a b e)))

pub same_width_given : (x y : Option ℕ) (n : ℕ) → x ≡ Some n → y ≡ Some n → same_width x y ≡ true
same_width_given x y n one other = ap (λ x. same_width x y) one ∙ ap (same_width (Some n)) other ∙ eq-eqb n n refl

-- ---- the first of a name

pub record VariableFound (vs : List Variable) (name : Name) (before : ℕ) (t : Typed) : Type 0 where
  pub i : ℕ
  pub ty : EsiType
  pub is : IsVariable vs name.octets i ty
  pub same : typed_as name.at ty (F.Var (before + i)) ≡ t

bytes_not : (a b : List ℕ) → bytes_eq a b ≡ false → a ≡ b → ⊥
bytes_not a b e same = let yes = (bytes_eq-Decides a b).1 same in absurd (cc)

not_bytes : (a b : List ℕ) (t : Bool) → bytes_eq a b ≡ t → (a ≡ b → ⊥) → t ≡ false
not_bytes a b false e h = refl
not_bytes a b true e h = absurd (h ((bytes_eq-Decides a b).0 e))

pub variable_found : (name : Name) (before : ℕ) (vs : List Variable) (t : Typed) → variable_from name before vs ≡ Ok t → VariableFound vs name before t
variable_found name before [] t e = absurd (cc)
variable_found name before (v ∷ vs) t e = of (variable_found name (before + 1) vs t) (bytes_eq v.name name.octets) refl e
  where
    of : (variable_from name (before + 1) vs ≡ Ok t → VariableFound vs name (before + 1) t)
        → (same : Bool) → bytes_eq v.name name.octets ≡ same
        → ◌≡◌ {A = Typing} (if same then Ok (typed_as name.at v.ty (F.Var before)) else variable_from name (before + 1) vs) (Ok t)
        → VariableFound (v ∷ vs) name before t
    of later true same e = record {
      i = 0;
      ty = v.ty;
      is = record { variable = v; stands = refl; named = (bytes_eq-Decides v.name name.octets).0 same; typed = refl; first = λ k other less s n. absurd (omega (arith, less)) };
      same = ap (λ i. typed_as name.at v.ty (F.Var i)) (let k : before + 0 ≡ before = omega arith in k) ∙ same_typed _ t e;
    }
    of later false same e =
        let found = later e in
        record {
          i = suc found.i;
          ty = found.ty;
          is = record {
            variable = found.is.variable;
            stands = found.is.stands;
            named = found.is.named;
            typed = found.is.typed;
            first = first found.i found.is.first;
          };
          same = ap (λ i. typed_as name.at found.ty (F.Var i)) (let k : before + suc found.i ≡ before + 1 + found.i = omega arith in k) ∙ found.same;
        }
      where
        first : (i : ℕ) → ((k : ℕ) (other : Variable) → k < i → slice_get vs k ≡ Some other → other.name ≡ name.octets → ⊥)
            → (k : ℕ) (other : Variable) → k < suc i → slice_get (v ∷ vs) k ≡ Some other → other.name ≡ name.octets → ⊥
        first i h zero other less s n = bytes_not v.name name.octets same (ap (λ (v : Variable). v.name) (same_Some v other s) ∙ n)
        first i h (suc k) other less s n = h k other (omega (arith, less)) s n

pub variable_given : (name : Name) (before : ℕ) (vs : List Variable) (i : ℕ) (ty : EsiType) → IsVariable vs name.octets i ty
    → variable_from name before vs ≡ Ok (typed_as name.at ty (F.Var (before + i)))
variable_given name before [] i ty is = let none = is.stands in absurd (cc)
variable_given name before (v ∷ vs) zero ty is =
    let own : v ≡ is.variable = same_Some v is.variable is.stands in
    ap (λ (t : Bool). if t then made name.at v.ty (F.Var before) else variable_from name (before + 1) vs)
    ((bytes_eq-Decides v.name name.octets).1 (ap (λ (v : Variable). v.name) own ∙ is.named))
    ∙ ap (λ ty. made name.at ty (F.Var before)) (ap (λ (v : Variable). v.ty) own ∙ is.typed)
    ∙ ap (λ i. made name.at ty (F.Var i)) (let k : before ≡ before + 0 = omega arith in k)
variable_given name before (v ∷ vs) (suc i) ty is =
    ap (λ (t : Bool). if t then made name.at v.ty (F.Var before) else variable_from name (before + 1) vs)
    (not_bytes v.name name.octets (bytes_eq v.name name.octets) refl (λ n. is.first 0 v (omega arith) refl n))
    ∙ variable_given name (before + 1) vs i ty (record {
      variable = is.variable;
      stands = is.stands;
      named = is.named;
      typed = is.typed;
      first = λ k other less s n. is.first (suc k) other (omega (arith, less)) s n;
    })
    ∙ ap (λ i. made name.at ty (F.Var i)) (let k : before + 1 + i ≡ before + suc i = omega arith in k)

pub field_is : (name : List ℕ) (fields : List Field) (piece : Piece) → field_piece name fields ≡ Some piece → IsField fields name piece.ty piece.low
field_is name [] piece e = absurd (cc)
field_is name (f ∷ fs) piece e = of (field_is name fs piece) (bytes_eq f.name name) refl e
  where
    of : (field_piece name fs ≡ Some piece → IsField fs name piece.ty piece.low)
        → (same : Bool) → bytes_eq f.name name ≡ same
        → (if same then Some (record { ty = f.ty; low = sum_by field_width fs }) else field_piece name fs) ≡ Some piece
        → IsField (f ∷ fs) name piece.ty piece.low
    of later true same e =
        let own = same_Some _ piece e in
        record {
          i = 0;
          field = f;
          stands = refl;
          named = (bytes_eq-Decides f.name name).0 same;
          typed = ap (λ (p : Piece). p.ty) own;
          first = λ k other less s n. absurd (omega (arith, less));
          below = ap (λ (p : Piece). p.low) own;
        }
    of later false same e =
        let found = later e in
        record {
          i = suc found.i;
          field = found.field;
          stands = found.stands;
          named = found.named;
          typed = found.typed;
          first = first found.i found.first;
          below = ap (λ n. sum_by field_width (drop n (f ∷ fs))) (let k : suc found.i + 1 ≡ suc (found.i + 1) = omega arith in k) ∙ found.below;
        }
      where
        first : (i : ℕ) → ((k : ℕ) (other : Field) → k < i → slice_get fs k ≡ Some other → other.name ≡ name → ⊥)
            → (k : ℕ) (other : Field) → k < suc i → slice_get (f ∷ fs) k ≡ Some other → other.name ≡ name → ⊥
        first i h zero other less s n = bytes_not f.name name same (ap (λ (f : Field). f.name) (same_Some f other s) ∙ n)
        first i h (suc k) other less s n = h k other (omega (arith, less)) s n

abbrev pub piece_as : EsiType → ℕ → Piece
piece_as ty low = record { ty = ty; low = low }

pub is_field : (name : List ℕ) (fields : List Field) (ty : EsiType) (low i : ℕ) (field : Field) → slice_get fields i ≡ Some field → field.name ≡ name → field.ty ≡ ty
    → ((k : ℕ) (other : Field) → k < i → slice_get fields k ≡ Some other → other.name ≡ name → ⊥)
    → sum_by field_width (drop (i + 1) fields) ≡ low → field_piece name fields ≡ Some (piece_as ty low)
is_field name [] ty low i field s n t first below = absurd (cc)
is_field name (f ∷ fs) ty low zero field s n t first below =
    let own : f ≡ field = same_Some f field s in
    ap (λ (t : Bool). if t then Some (piece_as f.ty (sum_by field_width fs)) else field_piece name fs)
    ((bytes_eq-Decides f.name name).1 (ap (λ (f : Field). f.name) own ∙ n))
    ∙ ap (λ ty. Some (piece_as ty (sum_by field_width fs))) (ap (λ (f : Field). f.ty) own ∙ t)
    ∙ ap (λ low. Some (piece_as ty low)) below
is_field name (f ∷ fs) ty low (suc i) field s n t first below =
    ap (λ (t : Bool). if t then Some (piece_as f.ty (sum_by field_width fs)) else field_piece name fs)
    (not_bytes f.name name (bytes_eq f.name name) refl (λ n. first 0 f (omega arith) refl n))
    ∙ is_field name fs ty low i field s n t
    (λ k other less s n. first (suc k) other (omega (arith, less)) s n)
    (ap (λ n. sum_by field_width (drop n (f ∷ fs))) (let k : suc (i + 1) ≡ suc i + 1 = omega arith in k) ∙ below)

-- ---- parts that are made one

pub fields_same : (fields : List Field) (types : List EsiType) → fields_given fields types ≡ true → types ≡ map type_of_field fields
fields_same [] [] e = refl
fields_same [] (ty ∷ types) e = absurd (cc)
fields_same (f ∷ fs) [] e = absurd (cc)
fields_same (f ∷ fs) (ty ∷ types) e =
    let p = and_parts (same_types ty f.ty) (fields_given fs types) e in
    ap (λ ty. ty ∷ types) ((is_test ty f.ty).0 p.0) ∙ ap (λ types. f.ty ∷ types) (fields_same fs types p.1)

pub same_fields_given : (fields : List Field) → fields_given fields (map type_of_field fields) ≡ true
same_fields_given [] = refl
same_fields_given (f ∷ fs) = and_from (same_types f.ty f.ty) (fields_given fs (map type_of_field fs)) ((is_test f.ty f.ty).1 refl) (same_fields_given fs)

all_same_is : (item : EsiType) (types : List EsiType) → all_same item types ≡ true → types ≡ replicate (length types) item
all_same_is item [] e = refl
all_same_is item (ty ∷ types) e =
    let p = and_parts (same_types ty item) (all_same item types) e in
    ap (λ ty. ty ∷ types) ((is_test ty item).0 p.0) ∙ ap (λ types. item ∷ types) (all_same_is item types p.1)

pub elements_same : (item : EsiType) (count : ℕ) (types : List EsiType) → elements_given item count types ≡ true → types ≡ replicate count item
elements_same item count types e =
    let p = and_parts (length types == count) (all_same item types) e in
    all_same_is item types p.1 ∙ ap (λ n. replicate n item) (eqb-true (length types) count p.0)

all_same_given : (item : EsiType) (count : ℕ) → all_same item (replicate count item) ≡ true
all_same_given item zero = refl
all_same_given item (suc count) = and_from (same_types item item) (all_same item (replicate count item)) ((is_test item item).1 refl) (all_same_given item count)

pub same_elements_given : (item : EsiType) (count : ℕ) → elements_given item count (replicate count item) ≡ true
same_elements_given item count =
    and_from (length (replicate count item) == count) (all_same item (replicate count item))
    (eq-eqb (length (replicate count item)) count (length-replicate count item))
    (all_same_given item count)
