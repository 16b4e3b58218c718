-- What fits, the bits and the void bits of a type are, at each kind of type.
use Rattle.std.proofs.Common.{◌≡◌, ℕ, true, false, List, [], ◌∷◌, map, replicate, ap, sym, ◌∙◌}
use Rattle.channel_types.specs.declared.Class.{Class}
use Rattle.channel_types.specs.declared.esi_type.EsiType.{EsiType}
use Rattle.channel_types.specs.declared.esi_type.EsiType.TheVariants as V
use Rattle.channel_types.specs.declared.esi_type.EsiType.TheVariants.{rolls-Bits, rolls-Void, rolls-Struct, rolls-Array}
use Rattle.channel_types.specs.declared.esi_type.EsiType.TheOpen.{EsiType-F}
use Rattle.channel_types.specs.declared.esi_type.EsiType.TheFolds.{fold_out-Field, fold-roll-EsiType}
use Rattle.channel_types.specs.declared.esi_type.Field.{Field}
use Rattle.bit_packing.specs.declared.value.Value.{Value}
use Rattle.bit_packing.specs.declared.value.Value.TheViews.{out-Value}
use Rattle.bit_packing.specs.Fitting.{Test, fits_bits, fits_void, fits_struct, fits_array, fits_step, field_fits_step, fits_of, field_fits}
use Rattle.bit_packing.specs.Packing.{Pack, own_bits, parts_of, first_highest, first_lowest, bits_step, field_bits_step, bits_of_value, field_bits}
use Rattle.bit_packing.specs.Voids.{Marks, stacked, repeated, voids_step, field_voids_step, voids_of, field_voids}

-- ---- which values fit

pub fits-Bits : (class : Class) (width : ℕ) (v : Value) → fits_of (V.Bits class width) v ≡ fits_bits width (out-Value v)
fits-Bits class width v = ap (λ t. fits_of t v) (sym (rolls-Bits class width)) ∙ ap (λ f. f v) (fold-roll-EsiType Test Test fits_step field_fits_step (EsiType-F.Bits class width))

pub fits-Void : (v : Value) → fits_of V.Void v ≡ fits_void (out-Value v)
fits-Void v = ap (λ t. fits_of t v) (sym rolls-Void) ∙ ap (λ f. f v) (fold-roll-EsiType Test Test fits_step field_fits_step EsiType-F.Void)

pub fits-Struct : (fields : List Field) (v : Value) → fits_of (V.Struct fields) v ≡ fits_struct (map field_fits fields) (out-Value v)
fits-Struct fields v = ap (λ t. fits_of t v) (sym (rolls-Struct fields)) ∙ ap (λ f. f v) (fold-roll-EsiType Test Test fits_step field_fits_step (EsiType-F.Struct fields))

pub fits-Array : (item : EsiType) (count : ℕ) (v : Value) → fits_of (V.Array item count) v ≡ fits_array (fits_of item) count (out-Value v)
fits-Array item count v = ap (λ t. fits_of t v) (sym (rolls-Array item count)) ∙ ap (λ f. f v) (fold-roll-EsiType Test Test fits_step field_fits_step (EsiType-F.Array item count))

pub fits-field : (f : Field) → field_fits f ≡ fits_of f.ty
fits-field f = fold_out-Field Test Test fits_step field_fits_step f

-- ---- the bits of a value

pub bits-Bits : (class : Class) (width : ℕ) (v : Value) → bits_of_value (V.Bits class width) v ≡ own_bits (out-Value v)
bits-Bits class width v = ap (λ t. bits_of_value t v) (sym (rolls-Bits class width)) ∙ ap (λ f. f v) (fold-roll-EsiType Pack Pack bits_step field_bits_step (EsiType-F.Bits class width))

pub bits-Void : (v : Value) → bits_of_value V.Void v ≡ false ∷ []
bits-Void v = ap (λ t. bits_of_value t v) (sym rolls-Void) ∙ ap (λ f. f v) (fold-roll-EsiType Pack Pack bits_step field_bits_step EsiType-F.Void)

pub bits-Struct : (fields : List Field) (v : Value) → bits_of_value (V.Struct fields) v ≡ first_highest (map field_bits fields) (parts_of (out-Value v))
bits-Struct fields v = ap (λ t. bits_of_value t v) (sym (rolls-Struct fields)) ∙ ap (λ f. f v) (fold-roll-EsiType Pack Pack bits_step field_bits_step (EsiType-F.Struct fields))

pub bits-Array : (item : EsiType) (count : ℕ) (v : Value) → bits_of_value (V.Array item count) v ≡ first_lowest (bits_of_value item) (parts_of (out-Value v))
bits-Array item count v = ap (λ t. bits_of_value t v) (sym (rolls-Array item count)) ∙ ap (λ f. f v) (fold-roll-EsiType Pack Pack bits_step field_bits_step (EsiType-F.Array item count))

pub bits-field : (f : Field) → field_bits f ≡ bits_of_value f.ty
bits-field f = fold_out-Field Pack Pack bits_step field_bits_step f

-- ---- the void bits of a type

pub voids-Bits : (class : Class) (width : ℕ) → voids_of (V.Bits class width) ≡ replicate width false
voids-Bits class width = ap voids_of (sym (rolls-Bits class width)) ∙ fold-roll-EsiType Marks Marks voids_step field_voids_step (EsiType-F.Bits class width)

pub voids-Void : voids_of V.Void ≡ true ∷ []
voids-Void = ap voids_of (sym rolls-Void) ∙ fold-roll-EsiType Marks Marks voids_step field_voids_step EsiType-F.Void

pub voids-Struct : (fields : List Field) → voids_of (V.Struct fields) ≡ stacked (map field_voids fields)
voids-Struct fields = ap voids_of (sym (rolls-Struct fields)) ∙ fold-roll-EsiType Marks Marks voids_step field_voids_step (EsiType-F.Struct fields)

pub voids-Array : (item : EsiType) (count : ℕ) → voids_of (V.Array item count) ≡ repeated count (voids_of item)
voids-Array item count = ap voids_of (sym (rolls-Array item count)) ∙ fold-roll-EsiType Marks Marks voids_step field_voids_step (EsiType-F.Array item count)

pub voids-field : (f : Field) → field_voids f ≡ voids_of f.ty
voids-field f = fold_out-Field Marks Marks voids_step field_voids_step f
