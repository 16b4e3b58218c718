-- The text of a type as it is printed: one space after a comma or a colon, and none elsewhere.
use Rattle.std.specs.Prelude.{ℕ, List, [], ◌∷◌, ◌++◌, codes}
use Rattle.std.specs.List.{flat_map}
use Rattle.std.specs.Fmt.{decimal}
use Rattle.design_lex.specs.Spellings.{class_letters}
use Rattle.channel_types.specs.declared.esi_type.EsiType.{EsiType}
use Rattle.channel_types.specs.declared.esi_type.EsiType.TheOpen.{EsiType-F, Field-F}
use Rattle.channel_types.specs.declared.esi_type.EsiType.TheFolds.{fold-EsiType, fold-Field}
use Rattle.channel_types.specs.declared.esi_type.Field.{Field}

-- texts with commas between them
abbrev pub listed : List (List ℕ) → List ℕ
listed [] = []
listed (x ∷ xs) = x ++ flat_map (λ y. codes ", " ++ y) xs

abbrev pub text_step : EsiType-F (List ℕ) (List ℕ) → List ℕ
text_step (EsiType-F.Bits class width) = class_letters class ++ decimal width
text_step EsiType-F.Void = codes "void"
text_step (EsiType-F.Struct fields) = codes "struct<" ++ (listed fields ++ codes ">")
text_step (EsiType-F.Array item count) = codes "array<" ++ (item ++ (codes ", " ++ (decimal count ++ codes ">")))

abbrev pub field_text_step : Field-F (List ℕ) (List ℕ) → List ℕ
field_text_step f = f.name ++ (codes ": " ++ f.ty)

-- the text of a type
abbrev pub text_of : EsiType → List ℕ
text_of = fold-EsiType (List ℕ) (List ℕ) text_step field_text_step

-- the text of a field
abbrev pub field_text : Field → List ℕ
field_text = fold-Field (List ℕ) (List ℕ) text_step field_text_step
