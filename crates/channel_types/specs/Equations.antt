-- What the width, the nesting and the text of a type are, at each kind of type.
use Rattle.std.proofs.Common.{◌≡◌, ℕ, ◌+◌, ◌*◌, List, ◌++◌, map, refl, ap, sym, ◌∙◌}
use Rattle.std.specs.Prelude.{codes}
use Rattle.std.specs.List.{sum_by}
use Rattle.std.specs.Fmt.{decimal}
use Rattle.std.proofs.lemmas.List.Sums.{sum-map}
use Rattle.design_lex.specs.Spellings.{class_letters}
use Rattle.design_lex.specs.declared.token.Class.{Class}
use Rattle.channel_types.specs.declared.esi_type.EsiType.{EsiType}
use Rattle.channel_types.specs.declared.esi_type.EsiType.TheVariants as V
use Rattle.channel_types.specs.declared.esi_type.EsiType.TheVariants.{rolls-Bits, rolls-Void, rolls-Struct, rolls-Array}
use Rattle.channel_types.specs.declared.esi_type.EsiType.TheOpen.{EsiType-F}
use Rattle.channel_types.specs.declared.esi_type.EsiType.TheViews.{out-EsiType}
use Rattle.channel_types.specs.declared.esi_type.EsiType.TheFolds.{map-EsiType, fold_out-EsiType, fold_out-Field, fold-roll-EsiType}
use Rattle.channel_types.specs.declared.esi_type.Field.{Field}
use Rattle.channel_types.specs.Types.{width_step, field_width_step, width_of, field_width, nesting_step, nesting_of, field_nesting, greatest, level_width}
use Rattle.channel_types.specs.Text.{text_step, field_text_step, text_of, field_text, listed}

-- the width, by the parts of a level
pub width-level : (ty : EsiType) → width_of ty ≡ level_width (out-EsiType ty)
width-level ty = fold_out-EsiType ℕ ℕ width_step field_width_step ty ∙ of (out-EsiType ty)
  where
    of : (level : EsiType-F EsiType Field) → width_step (map-EsiType EsiType Field ℕ ℕ width_of field_width level) ≡ level_width level
    of (EsiType-F.Bits class width) = refl
    of EsiType-F.Void = refl
    of (EsiType-F.Struct fields) = sum-map field_width fields
    of (EsiType-F.Array item count) = refl

pub width-Bits : (class : Class) (width : ℕ) → width_of (V.Bits class width) ≡ width
width-Bits class width = ap width_of (sym (rolls-Bits class width)) ∙ fold-roll-EsiType ℕ ℕ width_step field_width_step (EsiType-F.Bits class width)

pub width-Void : width_of V.Void ≡ 1
width-Void = ap width_of (sym rolls-Void) ∙ fold-roll-EsiType ℕ ℕ width_step field_width_step EsiType-F.Void

pub width-Struct : (fields : List Field) → width_of (V.Struct fields) ≡ sum_by field_width fields
width-Struct fields = ap width_of (sym (rolls-Struct fields)) ∙ fold-roll-EsiType ℕ ℕ width_step field_width_step (EsiType-F.Struct fields) ∙ sum-map field_width fields

pub width-Array : (item : EsiType) (count : ℕ) → width_of (V.Array item count) ≡ count * width_of item
width-Array item count = ap width_of (sym (rolls-Array item count)) ∙ fold-roll-EsiType ℕ ℕ width_step field_width_step (EsiType-F.Array item count)

pub width-field : (f : Field) → field_width f ≡ width_of f.ty
width-field f = fold_out-Field ℕ ℕ width_step field_width_step f

pub nesting-field : (f : Field) → field_nesting f ≡ nesting_of f.ty
nesting-field f = fold_out-Field ℕ ℕ nesting_step field_width_step f

pub nesting-Bits : (class : Class) (width : ℕ) → nesting_of (V.Bits class width) ≡ 1
nesting-Bits class width = ap nesting_of (sym (rolls-Bits class width)) ∙ fold-roll-EsiType ℕ ℕ nesting_step field_width_step (EsiType-F.Bits class width)

pub nesting-Void : nesting_of V.Void ≡ 1
nesting-Void = ap nesting_of (sym rolls-Void) ∙ fold-roll-EsiType ℕ ℕ nesting_step field_width_step EsiType-F.Void

pub nesting-Struct : (fields : List Field) → nesting_of (V.Struct fields) ≡ greatest (map field_nesting fields) + 1
nesting-Struct fields = ap nesting_of (sym (rolls-Struct fields)) ∙ fold-roll-EsiType ℕ ℕ nesting_step field_width_step (EsiType-F.Struct fields)

pub nesting-Array : (item : EsiType) (count : ℕ) → nesting_of (V.Array item count) ≡ nesting_of item + 1
nesting-Array item count = ap nesting_of (sym (rolls-Array item count)) ∙ fold-roll-EsiType ℕ ℕ nesting_step field_width_step (EsiType-F.Array item count)

pub text-Bits : (class : Class) (width : ℕ) → text_of (V.Bits class width) ≡ class_letters class ++ decimal width
text-Bits class width = ap text_of (sym (rolls-Bits class width)) ∙ fold-roll-EsiType (List ℕ) (List ℕ) text_step field_text_step (EsiType-F.Bits class width)

pub text-Void : text_of V.Void ≡ codes "void"
text-Void = ap text_of (sym rolls-Void) ∙ fold-roll-EsiType (List ℕ) (List ℕ) text_step field_text_step EsiType-F.Void

pub text-Struct : (fields : List Field) → text_of (V.Struct fields) ≡ codes "struct<" ++ (listed (map field_text fields) ++ codes ">")
text-Struct fields = ap text_of (sym (rolls-Struct fields)) ∙ fold-roll-EsiType (List ℕ) (List ℕ) text_step field_text_step (EsiType-F.Struct fields)

pub text-Array : (item : EsiType) (count : ℕ) → text_of (V.Array item count) ≡ codes "array<" ++ (text_of item ++ (codes ", " ++ (decimal count ++ codes ">")))
text-Array item count = ap text_of (sym (rolls-Array item count)) ∙ fold-roll-EsiType (List ℕ) (List ℕ) text_step field_text_step (EsiType-F.Array item count)

pub text-field : (f : Field) → field_text f ≡ f.name ++ (codes ": " ++ text_of f.ty)
text-field f = fold_out-Field (List ℕ) (List ℕ) text_step field_text_step f
