-- What a good type says of its parts, and what parts make a good type.
use Rattle.std.proofs.Common.{◌≡◌, ℕ, ◌+◌, ◌≤◌, List, [], ◌∷◌, get_or, map, refl, ap, sym, ◌∙◌, subst, arith}
use Rattle.std.specs.Prelude.{All}
use Rattle.std.proofs.lemmas.List.Elements.{All-nil, All-cons, All-head, All-tail, All-same, All-map, All-weaker}
use Rattle.design_lex.specs.declared.token.Class.{Class}
use Rattle.design_lex.specs.declared.limits.TheConstants.{WIDEST_TYPE}
use Rattle.design_grammar.specs.Names.{IsName}
use Rattle.channel_types.specs.declared.esi_type.EsiType.{EsiType}
use Rattle.channel_types.specs.declared.esi_type.EsiType.TheVariants as V
use Rattle.channel_types.specs.declared.esi_type.EsiType.TheVariants.{outs-Bits, outs-Struct, outs-Array, rolls-Bits, rolls-Void, rolls-Struct, rolls-Array}
use Rattle.channel_types.specs.declared.esi_type.EsiType.TheOpen.{EsiType-F}
use Rattle.channel_types.specs.declared.esi_type.EsiType.TheViews.{out-EsiType, out-Field}
use Rattle.channel_types.specs.declared.esi_type.EsiType.TheFolds as folds
use Rattle.channel_types.specs.declared.esi_type.Field.{Field}
use Rattle.channel_types.specs.declared.limits.TheConstants.{OPEN_TYPES}
use Rattle.channel_types.specs.Types.{width_of, nesting_of, field_nesting, greatest, IsLevel, IsEachGood, IsGoodField, IsGoodType}
use Rattle.channel_types.specs.Equations.{width-level, nesting-Bits, nesting-Void, nesting-Struct, nesting-Array, nesting-field}

-- It and every type in it is good, and at most so many types stand inside one another.
pub record IsGoodWithin (levels : ℕ) (ty : EsiType) : Type 0 where
  pub each : IsEachGood ty
  pub nesting : nesting_of ty ≤ levels

-- a type, and a field, each with the proof that it is good
abbrev Good : Type 0
Good = (ty : EsiType) × IsEachGood ty

abbrev GoodField : Type 0
GoodField = (f : Field) × IsGoodField f

-- a level without the proofs
abbrev bare : EsiType-F Good GoodField → EsiType-F EsiType Field
bare = folds.map-EsiType Good GoodField EsiType Field (λ e. e.0) (λ e. e.0)

-- ---- what a good type says of its parts

-- its level, by each kind of type
pub good_level : (ty : EsiType) → IsEachGood ty → IsLevel (out-EsiType ty)
good_level ty good = folds.every_here-EsiType IsLevel (λ f. Unit {0}) ty good

pub good_level_Bits : (class : Class) (width : ℕ) → IsEachGood (V.Bits class width) → IsLevel (EsiType-F.Bits class width)
good_level_Bits class width good = subst IsLevel (outs-Bits class width) (good_level (V.Bits class width) good)

pub good_level_Struct : (fields : List Field) → IsEachGood (V.Struct fields) → IsLevel (EsiType-F.Struct fields)
good_level_Struct fields good = subst IsLevel (outs-Struct fields) (good_level (V.Struct fields) good)

pub good_level_Array : (item : EsiType) (count : ℕ) → IsEachGood (V.Array item count) → IsLevel (EsiType-F.Array item count)
good_level_Array item count good = subst IsLevel (outs-Array item count) (good_level (V.Array item count) good)

-- its width
pub good_low : (ty : EsiType) → IsEachGood ty → 1 ≤ width_of ty
good_low ty good = let level = good_level ty good in omega (arith, level.low, width-level ty)

pub good_high : (ty : EsiType) → IsEachGood ty → width_of ty ≤ WIDEST_TYPE
good_high ty good = let level = good_level ty good in omega (arith, level.high, width-level ty)

-- the type of a good field
pub good_field : (f : Field) → IsGoodField f → IsEachGood f.ty
good_field f good = let h = folds.every_held-Field IsLevel (λ f. Unit {0}) f good in subst IsEachGood (ap (λ x. x.ty) h.1) h.0.ty.1

all_held : (fields : List GoodField) → All IsGoodField (map (λ e. e.0) fields)
all_held fields = All-map IsGoodField (λ (e : GoodField). e.0) fields (λ k d l. (get_or fields k d).1)

-- the fields of a good struct
pub good_fields : (fields : List Field) → IsEachGood (V.Struct fields) → All IsGoodField fields
good_fields fields good = let h = folds.every_held-EsiType IsLevel (λ f. Unit {0}) (V.Struct fields) good in of h.0 (h.1 ∙ outs-Struct fields)
  where
    of : (level : EsiType-F Good GoodField) → bare level ≡ EsiType-F.Struct fields → All IsGoodField fields
    of (EsiType-F.Bits class width) e = absurd (cc)
    of EsiType-F.Void e = absurd (cc)
    of (EsiType-F.Struct held) e = let same : map (λ e. e.0) held ≡ fields = cc in All-same IsGoodField fields _ (sym same) (all_held held)
    of (EsiType-F.Array item count) e = absurd (cc)

-- the item of a good array
pub good_item : (item : EsiType) (count : ℕ) → IsEachGood (V.Array item count) → IsEachGood item
good_item item count good = let h = folds.every_held-EsiType IsLevel (λ f. Unit {0}) (V.Array item count) good in of h.0 (h.1 ∙ outs-Array item count)
  where
    of : (level : EsiType-F Good GoodField) → bare level ≡ EsiType-F.Array item count → IsEachGood item
    of (EsiType-F.Bits class width) e = absurd (cc)
    of EsiType-F.Void e = absurd (cc)
    of (EsiType-F.Struct held) e = absurd (cc)
    of (EsiType-F.Array held many) e = let same : held.0 ≡ item = cc in subst IsEachGood same held.1

-- the same with the nesting: the parts of a type stand one level deeper
pub fields_within : (levels : ℕ) (fields : List Field) → IsGoodWithin (levels + 1) (V.Struct fields) → All (λ f. IsGoodWithin levels f.ty) fields
fields_within levels fields good =
    let nesting : greatest (map field_nesting fields) ≤ levels = omega (arith, good.nesting, nesting-Struct fields) in
    of fields (good_fields fields good.each) nesting
  where
    of : (fs : List Field) → All IsGoodField fs → greatest (map field_nesting fs) ≤ levels → All (λ f. IsGoodWithin levels f.ty) fs
    of [] each nesting = All-nil (λ f. IsGoodWithin levels f.ty)
    of (f ∷ fs) each nesting = All-cons (λ f. IsGoodWithin levels f.ty) f fs
        (record { each = good_field f (All-head IsGoodField f fs each); nesting = omega (arith, nesting-field f) })
        (of fs (All-tail IsGoodField f fs each) (omega arith))

pub item_within : (levels : ℕ) (item : EsiType) (count : ℕ) → IsGoodWithin (levels + 1) (V.Array item count) → IsGoodWithin levels item
item_within levels item count good = record { each = good_item item count good.each; nesting = omega (arith, good.nesting, nesting-Array item count) }

-- ---- what parts make a good type

pub good_bits : (class : Class) (width : ℕ) → 1 ≤ width → width ≤ WIDEST_TYPE → IsGoodWithin 1 (V.Bits class width)
good_bits class width low high =
    let level : IsLevel (EsiType-F.Bits class width) = record { low = low; high = high; names = All-nil IsName; distinct = refl } in
    record {
      each = subst IsEachGood (rolls-Bits class width) (folds.every_made-EsiType IsLevel (λ f. Unit {0}) (EsiType-F.Bits class width) (EsiType-F.Bits class width) refl level);
      nesting = omega (arith, nesting-Bits class width);
    }

pub good_void : IsGoodWithin 1 V.Void
good_void =
    let level : IsLevel EsiType-F.Void = record { low = omega arith; high = omega arith; names = All-nil IsName; distinct = refl } in
    record {
      each = subst IsEachGood rolls-Void (folds.every_made-EsiType IsLevel (λ f. Unit {0}) EsiType-F.Void EsiType-F.Void refl level);
      nesting = omega (arith, nesting-Void);
    }

pub made_field : (f : Field) → IsEachGood f.ty → IsGoodField f
made_field f good = folds.every_made-Field IsLevel (λ f. Unit {0}) (out-Field f) (record { name = f.name; ty = (f.ty, good) }) refl tt

paired : (fields : List Field) → All IsGoodField fields → List GoodField
paired [] each = []
paired (f ∷ fs) each = (f, All-head IsGoodField f fs each) ∷ paired fs (All-tail IsGoodField f fs each)

map-paired : (fields : List Field) (each : All IsGoodField fields) → map (λ e. e.0) (paired fields each) ≡ fields
unfolding paired
map-paired [] each = refl
map-paired (f ∷ fs) each = ap (λ s. f ∷ s) (map-paired fs (All-tail IsGoodField f fs each))

made_struct : (fields : List Field) → IsLevel (EsiType-F.Struct fields) → All IsGoodField fields → IsEachGood (V.Struct fields)
made_struct fields level each = subst IsEachGood (rolls-Struct fields)
    (folds.every_made-EsiType IsLevel (λ f. Unit {0}) (EsiType-F.Struct fields) (EsiType-F.Struct (paired fields each)) (ap EsiType-F.Struct (map-paired fields each)) level)

greatest_within : (levels : ℕ) (fields : List Field) → All (λ f. IsGoodWithin levels f.ty) fields → greatest (map field_nesting fields) ≤ levels
greatest_within levels [] each = omega arith
greatest_within levels (f ∷ fs) each =
    let here = All-head (λ f. IsGoodWithin levels f.ty) f fs each in
    let behind = greatest_within levels fs (All-tail (λ f. IsGoodWithin levels f.ty) f fs each) in
    omega (arith, here.nesting, nesting-field f)

pub good_struct : (levels : ℕ) (fields : List Field) → IsLevel (EsiType-F.Struct fields) → All (λ f. IsGoodWithin levels f.ty) fields → IsGoodWithin (levels + 1) (V.Struct fields)
good_struct levels fields level each = record {
  each = made_struct fields level (All-weaker (λ f. IsGoodWithin levels f.ty) IsGoodField (λ f good. made_field f good.each) fields each);
  nesting = omega (arith, nesting-Struct fields, greatest_within levels fields each);
}

pub good_array : (levels : ℕ) (item : EsiType) (count : ℕ) → IsLevel (EsiType-F.Array item count) → IsGoodWithin levels item → IsGoodWithin (levels + 1) (V.Array item count)
good_array levels item count level good = record {
  each = subst IsEachGood (rolls-Array item count)
      (folds.every_made-EsiType IsLevel (λ f. Unit {0}) (EsiType-F.Array item count) (EsiType-F.Array (item, good.each) count) refl level);
  nesting = omega (arith, nesting-Array item count, good.nesting);
}

pub good_deeper : (levels more : ℕ) (ty : EsiType) → levels ≤ more → IsGoodWithin levels ty → IsGoodWithin more ty
good_deeper levels more ty deeper good = record { each = good.each; nesting = omega (arith, good.nesting) }

-- ---- a good type is good within as many levels as may stand inside one another

pub good_type : (ty : EsiType) → IsGoodWithin OPEN_TYPES ty → IsGoodType ty
good_type ty good = record { each = good.each; nesting = good.nesting }

pub good_within : (ty : EsiType) → IsGoodType ty → IsGoodWithin OPEN_TYPES ty
good_within ty good = record { each = good.each; nesting = good.nesting }

pub good_type_fields : (fields : List Field) → IsGoodType (V.Struct fields) → All (λ f. IsGoodType f.ty) fields
good_type_fields fields good =
    All-weaker (λ f. IsGoodWithin 15 f.ty) (λ f. IsGoodType f.ty) (λ f within. good_type f.ty (good_deeper 15 OPEN_TYPES f.ty (omega arith) within)) fields
    (fields_within 15 fields (good_within (V.Struct fields) good))

pub good_type_item : (item : EsiType) (count : ℕ) → IsGoodType (V.Array item count) → IsGoodType item
good_type_item item count good = good_type item (good_deeper 15 OPEN_TYPES item (omega arith) (item_within 15 item count (good_within (V.Array item count) good)))
