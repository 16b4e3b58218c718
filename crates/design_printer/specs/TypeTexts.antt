-- A type has one text: the canonical text of its tokens is the text with which it is printed alone.
use Rattle.std.proofs.Common.{◌≡◌, ℕ, Bool, true, false, cond, List, [], ◌∷◌, ◌++◌, map, refl, ap, sym, ◌∙◌, subst, append-nil, append_assoc}
use Rattle.std.specs.Prelude.{codes}
use Rattle.std.specs.List.{flat_map}
use Rattle.std.specs.Fmt.{decimal}
use Rattle.design_lex.specs.Spellings.{class_letters}
use Rattle.design_lex.specs.declared.token.Class.{Class}
use Rattle.design_lex.specs.declared.token.Token.{Token}
use Rattle.design_lex.specs.declared.token.Token.TheVariants.{Word, TypeWord, Number}
use Rattle.channel_types.specs.declared.esi_type.EsiType.{EsiType}
use Rattle.channel_types.specs.declared.esi_type.EsiType.TheOpen.{EsiType-F, Field-F}
use Rattle.channel_types.specs.declared.esi_type.EsiType.TheViews.{roll-EsiType, roll-Field}
use Rattle.channel_types.specs.declared.esi_type.EsiType.TheFolds.{map-EsiType, map-Field, fold-roll-EsiType, fold-roll-Field, ind-EsiType}
use Rattle.channel_types.specs.declared.esi_type.Field.{Field}
use Rattle.channel_types.specs.Text.{listed as listed_texts, text_step, field_text_step, text_of, field_text}
use Rattle.design_tree.specs.Tokens.{with_commas, type_step, field_step, type_tokens, field_tokens, COLON, COMMA, LESS, GREATER}
use Rattle.design_printer.specs.Canonical.{canonical}
use Rattle.design_printer.specs.TextFrom.{text_from, canonical_from}

-- the space before a word, where one may stand
abbrev lead : Bool → List ℕ
lead allows_space = cond allows_space (32 ∷ []) []

-- Wherever these tokens stand, whatever stands after them, their text is this one, and a space may follow it.
abbrev IsTextOf : List Token → List ℕ → Type 0
IsTextOf ts z = (allows_space : Bool) (behind : List Token) → text_from allows_space (ts ++ behind) ≡ lead allows_space ++ (z ++ text_from true behind)

-- a word and a type word
word_text : (w : List ℕ) → IsTextOf (Word w ∷ []) w
unfolding text_from
word_text w true behind = refl
word_text w false behind = refl

type_word_text : (class : Class) (width : ℕ) → IsTextOf (TypeWord class width ∷ []) (class_letters class ++ decimal width)
unfolding text_from
type_word_text class width true behind = refl
type_word_text class width false behind = refl

-- a name, a colon and more
named_text : (name : List ℕ) (ts : List Token) (z : List ℕ) → IsTextOf ts z → IsTextOf (Word name ∷ COLON ∷ ts) (name ++ (codes ": " ++ z))
unfolding text_from
named_text name ts z h allows_space behind =
    word_text name allows_space (COLON ∷ (ts ++ behind))
    ∙ ap (λ (q : List ℕ). lead allows_space ++ (name ++ (58 ∷ q))) (h true behind)
    ∙ ap (λ (q : List ℕ). lead allows_space ++ q) (sym (append_assoc name (58 ∷ 32 ∷ z) (text_from true behind)))

abbrev IsTypePrinted : EsiType → Type 0
IsTypePrinted ty = IsTextOf (type_tokens ty) (text_of ty)

abbrev IsFieldPrinted : Field → Type 0
IsFieldPrinted f = IsTextOf (field_tokens f) (field_text f)

-- a type, and a field, each with the proof of its text
abbrev PrintedType : Type 0
PrintedType = (ty : EsiType) × IsTypePrinted ty

abbrev PrintedField : Type 0
PrintedField = (f : Field) × IsFieldPrinted f

-- the tokens and the texts of fields
abbrev tokens_in : List PrintedField → List (List Token)
tokens_in held = map field_tokens (map (λ (e : PrintedField). e.0) held)

abbrev texts_in : List PrintedField → List (List ℕ)
texts_in held = map field_text (map (λ (e : PrintedField). e.0) held)

-- fields, each after a comma
others_text : (held : List PrintedField) (behind : List Token)
    → text_from true (flat_map (λ y. COMMA ∷ y) (tokens_in held) ++ behind) ≡ flat_map (λ y. codes ", " ++ y) (texts_in held) ++ text_from true behind
unfolding text_from
others_text [] behind = refl
others_text (e ∷ es) behind =
    let more : List Token = flat_map (λ y. COMMA ∷ y) (tokens_in es) in
    let texts : List ℕ = flat_map (λ y. codes ", " ++ y) (texts_in es) in
    ap (λ (q : List Token). 44 ∷ text_from true q) (append_assoc (field_tokens e.0) more behind)
    ∙ ap (λ (q : List ℕ). 44 ∷ q) (e.1 true (more ++ behind))
    ∙ ap (λ (q : List ℕ). 44 ∷ 32 ∷ (field_text e.0 ++ q)) (others_text es behind)
    ∙ ap (λ (q : List ℕ). 44 ∷ 32 ∷ q) (sym (append_assoc (field_text e.0) texts (text_from true behind)))

-- the fields of a struct, up to its end
fields_text : (held : List PrintedField) (behind : List Token)
    → text_from false (with_commas (tokens_in held) ++ (GREATER ∷ behind)) ≡ listed_texts (texts_in held) ++ (62 ∷ text_from true behind)
unfolding text_from
fields_text [] behind = refl
fields_text (e ∷ es) behind =
    let more : List Token = flat_map (λ y. COMMA ∷ y) (tokens_in es) in
    let texts : List ℕ = flat_map (λ y. codes ", " ++ y) (texts_in es) in
    ap (λ (q : List Token). text_from false q) (append_assoc (field_tokens e.0) more (GREATER ∷ behind))
    ∙ e.1 false (more ++ (GREATER ∷ behind))
    ∙ ap (λ (q : List ℕ). field_text e.0 ++ q) (others_text es (GREATER ∷ behind))
    ∙ sym (append_assoc (field_text e.0) texts (62 ∷ text_from true behind))

struct_text : (held : List PrintedField) → IsTextOf (Word (codes "struct") ∷ LESS ∷ (with_commas (tokens_in held) ++ GREATER ∷ [])) (codes "struct<" ++ (listed_texts (texts_in held) ++ codes ">"))
unfolding text_from
struct_text held allows_space behind =
    word_text (codes "struct") allows_space (LESS ∷ ((with_commas (tokens_in held) ++ GREATER ∷ []) ++ behind))
    ∙ ap (λ (q : List Token). lead allows_space ++ (codes "struct<" ++ text_from false q)) (append_assoc (with_commas (tokens_in held)) (GREATER ∷ []) behind)
    ∙ ap (λ (q : List ℕ). lead allows_space ++ (codes "struct<" ++ q)) (fields_text held behind)
    ∙ ap (λ (q : List ℕ). lead allows_space ++ (codes "struct<" ++ q)) (sym (append_assoc (listed_texts (texts_in held)) (62 ∷ []) (text_from true behind)))

array_text : (ts : List Token) (z : List ℕ) (count : ℕ) → IsTextOf ts z
    → IsTextOf (Word (codes "array") ∷ LESS ∷ (ts ++ COMMA ∷ Number count ∷ GREATER ∷ [])) (codes "array<" ++ (z ++ (codes ", " ++ (decimal count ++ codes ">"))))
unfolding text_from
array_text ts z count h allows_space behind =
    let rest : List ℕ = text_from true behind in
    word_text (codes "array") allows_space (LESS ∷ ((ts ++ COMMA ∷ Number count ∷ GREATER ∷ []) ++ behind))
    ∙ ap (λ (q : List Token). lead allows_space ++ (codes "array<" ++ text_from false q)) (append_assoc ts (COMMA ∷ Number count ∷ GREATER ∷ []) behind)
    ∙ ap (λ (q : List ℕ). lead allows_space ++ (codes "array<" ++ q)) (h false (COMMA ∷ Number count ∷ GREATER ∷ behind))
    ∙ ap (λ (q : List ℕ). lead allows_space ++ (codes "array<" ++ (z ++ (44 ∷ 32 ∷ q)))) (sym (append_assoc (decimal count) (62 ∷ []) rest))
    ∙ ap (λ (q : List ℕ). lead allows_space ++ (codes "array<" ++ q)) (sym (append_assoc z (44 ∷ 32 ∷ (decimal count ++ 62 ∷ [])) rest))

-- the tokens and the text may be replaced by equal ones
text_as : (ts us : List Token) (z w : List ℕ) → ts ≡ us → z ≡ w → IsTextOf us w → IsTextOf ts z
text_as ts us z w e f h allows_space behind =
    ap (λ (q : List Token). text_from allows_space (q ++ behind)) e ∙ h allows_space behind ∙ ap (λ (q : List ℕ). lead allows_space ++ (q ++ text_from true behind)) (sym f)

-- a level, and a field, without the proofs
abbrev bare : EsiType-F PrintedType PrintedField → EsiType-F EsiType Field
bare = map-EsiType PrintedType PrintedField EsiType Field (λ e. e.0) (λ e. e.0)

abbrev bare_field : Field-F PrintedType PrintedField → Field-F EsiType Field
bare_field = map-Field PrintedType PrintedField EsiType Field (λ e. e.0) (λ e. e.0)

-- a level whose parts have their texts has its own
level_text : (y : EsiType-F PrintedType PrintedField)
    → IsTextOf (type_step (map-EsiType EsiType Field (List Token) (List Token) type_tokens field_tokens (bare y))) (text_step (map-EsiType EsiType Field (List ℕ) (List ℕ) text_of field_text (bare y)))
level_text (EsiType-F.Bits class width) = type_word_text class width
level_text EsiType-F.Void = word_text (codes "void")
level_text (EsiType-F.Struct held) = struct_text held
level_text (EsiType-F.Array item count) = array_text (type_tokens item.0) (text_of item.0) count item.1

type_level : (x : EsiType-F EsiType Field) (y : EsiType-F PrintedType PrintedField) → bare y ≡ x → IsTypePrinted (roll-EsiType x)
type_level x y is =
    subst (λ z. IsTypePrinted (roll-EsiType z)) is
    (text_as _ _ _ _ (fold-roll-EsiType (List Token) (List Token) type_step field_step (bare y)) (fold-roll-EsiType (List ℕ) (List ℕ) text_step field_text_step (bare y)) (level_text y))

field_level : (x : Field-F EsiType Field) (y : Field-F PrintedType PrintedField) → bare_field y ≡ x → IsFieldPrinted (roll-Field x)
field_level x y is =
    subst (λ z. IsFieldPrinted (roll-Field z)) is
    (text_as _ _ _ _ (fold-roll-Field (List Token) (List Token) type_step field_step (bare_field y)) (fold-roll-Field (List ℕ) (List ℕ) text_step field_text_step (bare_field y))
    (named_text y.name (type_tokens y.ty.0) (text_of y.ty.0) y.ty.1))

every_type : (ty : EsiType) → IsTypePrinted ty
every_type = ind-EsiType IsTypePrinted IsFieldPrinted type_level field_level

-- So the text of a type in a design is the text of the type alone.
pub type_text : (ty : EsiType) → canonical (type_tokens ty) ≡ text_of ty
unfolding text_from
type_text ty =
    sym (canonical_from (type_tokens ty)) ∙ ap (λ (q : List Token). text_from false q) (sym (append-nil (type_tokens ty))) ∙ every_type ty false [] ∙ append-nil (text_of ty)
