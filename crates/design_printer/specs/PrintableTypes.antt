-- The tokens of a good type are printable.
use Rattle.std.proofs.Common.{◌≡◌, ℕ, zero, suc, ◌+◌, ◌*◌, ◌<◌, ◌≤◌, ◌^◌, List, [], ◌∷◌, ◌++◌, map, refl, sym, ap, ◌∙◌, subst, arith, add-one}
use Rattle.std.specs.Prelude.{codes, All}
use Rattle.std.specs.List.{flat_map}
use Rattle.std.proofs.Math.Nat.{le-mul_of_pos_right}
use Rattle.std.proofs.lemmas.List.Elements.{All-nil, All-cons, All-head, All-tail, All-append}
use Rattle.design_lex.specs.Spellings.{IsWordText}
use Rattle.design_lex.specs.Tokens.{word_token}
use Rattle.design_lex.specs.declared.token.Token.{Token}
use Rattle.design_lex.specs.declared.token.Token.TheVariants.{Word, TypeWord, Number}
use Rattle.design_grammar.specs.Names.{IsName}
use Rattle.channel_types.specs.declared.esi_type.EsiType.{EsiType}
use Rattle.channel_types.specs.declared.esi_type.EsiType.TheVariants as V
use Rattle.channel_types.specs.declared.esi_type.EsiType.TheVariants.{rolls-Bits, rolls-Void, rolls-Struct, rolls-Array}
use Rattle.channel_types.specs.declared.esi_type.EsiType.TheOpen.{EsiType-F}
use Rattle.channel_types.specs.declared.esi_type.EsiType.TheViews.{out-EsiType, roll-EsiType, roll-out-EsiType}
use Rattle.channel_types.specs.declared.esi_type.Field.{Field}
use Rattle.channel_types.specs.Types.{name_of, width_of, nesting_of, IsGoodType}
use Rattle.channel_types.specs.Equations.{nesting-Bits, nesting-Void, nesting-Struct, nesting-Array}
use Rattle.channel_types.specs.Goods.{IsGoodWithin, good_level_Bits, good_level_Struct, good_level_Array, good_low, good_within, fields_within, item_within}
use Rattle.design_tree.specs.Tokens.{with_commas, type_tokens, field_tokens, COLON, COMMA, LESS, GREATER}
use Rattle.design_tree.specs.Equations.{type-Bits, type-Void, type-Struct, type-Array, type-field}
use Rattle.design_printer.specs.CutAgain.{IsPrintable}

abbrev pub ArePrintable : List Token → Type 0
ArePrintable = All IsPrintable

-- one more in front
pub one_more : (t : Token) (ts : List Token) → IsPrintable t → ArePrintable ts → ArePrintable (t ∷ ts)
one_more t ts h all = All-cons IsPrintable t ts h all

pub none_printable : ArePrintable []
none_printable = All-nil IsPrintable

-- parts with commas between them
behind_commas : (xs : List (List Token)) → All ArePrintable xs → ArePrintable (flat_map (λ y. COMMA ∷ y) xs)
behind_commas [] all = none_printable
behind_commas (x ∷ xs) all =
    All-append IsPrintable (COMMA ∷ x) (flat_map (λ y. COMMA ∷ y) xs) (one_more COMMA x refl (All-head ArePrintable x xs all)) (behind_commas xs (All-tail ArePrintable x xs all))

pub listed_printable : (xs : List (List Token)) → All ArePrintable xs → ArePrintable (with_commas xs)
listed_printable [] all = none_printable
listed_printable (x ∷ xs) all = All-append IsPrintable x (flat_map (λ y. COMMA ∷ y) xs) (All-head ArePrintable x xs all) (behind_commas xs (All-tail ArePrintable x xs all))

void_word : IsWordText (codes "void")
unfolding word_token
void_word = record { begins = refl; octets = refl; spells = refl }

struct_word : IsWordText (codes "struct")
unfolding word_token
struct_word = record { begins = refl; octets = refl; spells = refl }

array_word : IsWordText (codes "array")
unfolding word_token
array_word = record { begins = refl; octets = refl; spells = refl }

few : (count width : ℕ) → 1 ≤ width → count * width ≤ 1024 → count < 2 ^ 128
few count width h k = let e : count ≤ count * width = le-mul_of_pos_right count h in omega arith

module _ (d : ℕ) (below : (ty : EsiType) → IsGoodWithin d ty → ArePrintable (type_tokens ty)) where
  field_printable : (f : Field) → IsName f.name → IsGoodWithin d f.ty → ArePrintable (field_tokens f)
  field_printable f name good = subst ArePrintable (sym (type-field f)) (one_more (Word f.name) (COLON ∷ type_tokens f.ty) name.word (one_more COLON (type_tokens f.ty) refl (below f.ty good)))

  fields_printable : (fs : List Field) → All IsName (map name_of fs) → All (λ f. IsGoodWithin d f.ty) fs → All ArePrintable (map field_tokens fs)
  fields_printable [] names good = All-nil ArePrintable
  fields_printable (f ∷ fs) names good =
      All-cons ArePrintable (field_tokens f) (map field_tokens fs)
      (field_printable f (All-head IsName f.name (map name_of fs) names) (All-head (λ f. IsGoodWithin d f.ty) f fs good))
      (fields_printable fs (All-tail IsName f.name (map name_of fs) names) (All-tail (λ f. IsGoodWithin d f.ty) f fs good))

  level_printable : (ty : EsiType) (level : EsiType-F EsiType Field) → roll-EsiType level ≡ ty → IsGoodWithin (d + 1) ty → ArePrintable (type_tokens ty)
  level_printable ty (EsiType-F.Bits class width) e good =
      let same : V.Bits class width ≡ ty = sym (rolls-Bits class width) ∙ e in
      let good_here = subst (λ z. IsGoodWithin (d + 1) z) (sym same) good in
      subst (λ z. ArePrintable (type_tokens z)) same
      (subst ArePrintable (sym (type-Bits class width)) (one_more (TypeWord class width) [] (good_level_Bits class width good_here.each).high none_printable))
  level_printable ty EsiType-F.Void e good =
      subst (λ z. ArePrintable (type_tokens z)) (sym rolls-Void ∙ e) (subst ArePrintable (sym type-Void) (one_more (Word (codes "void")) [] void_word none_printable))
  level_printable ty (EsiType-F.Struct fields) e good =
      let same : V.Struct fields ≡ ty = sym (rolls-Struct fields) ∙ e in
      let good_here = subst (λ z. IsGoodWithin (d + 1) z) (sym same) good in
      let level = good_level_Struct fields good_here.each in
      let parts = listed_printable (map field_tokens fields) (fields_printable fields level.names (fields_within d fields good_here)) in
      let all : ArePrintable (with_commas (map field_tokens fields) ++ (GREATER ∷ [])) =
      All-append IsPrintable (with_commas (map field_tokens fields)) (GREATER ∷ []) parts (one_more GREATER [] refl none_printable) in
      subst (λ z. ArePrintable (type_tokens z)) same
      (subst ArePrintable (sym (type-Struct fields)) (one_more (Word (codes "struct")) (LESS ∷ (with_commas (map field_tokens fields) ++ (GREATER ∷ []))) struct_word (one_more LESS (with_commas (map field_tokens fields) ++ (GREATER ∷ [])) refl all)))
  level_printable ty (EsiType-F.Array item count) e good =
      let same : V.Array item count ≡ ty = sym (rolls-Array item count) ∙ e in
      let good_here = subst (λ z. IsGoodWithin (d + 1) z) (sym same) good in
      let level = good_level_Array item count good_here.each in
      let inside = item_within d item count good_here in
      let small : count < 2 ^ 128 = few count (width_of item) (good_low item inside.each) level.high in
      let end : ArePrintable (COMMA ∷ Number count ∷ GREATER ∷ []) = one_more COMMA (Number count ∷ GREATER ∷ []) refl (one_more (Number count) (GREATER ∷ []) small (one_more GREATER [] refl none_printable)) in
      let all : ArePrintable (type_tokens item ++ (COMMA ∷ Number count ∷ GREATER ∷ [])) = All-append IsPrintable (type_tokens item) (COMMA ∷ Number count ∷ GREATER ∷ []) (below item inside) end in
      subst (λ z. ArePrintable (type_tokens z)) same
      (subst ArePrintable (sym (type-Array item count)) (one_more (Word (codes "array")) (LESS ∷ (type_tokens item ++ (COMMA ∷ Number count ∷ GREATER ∷ []))) array_word (one_more LESS (type_tokens item ++ (COMMA ∷ Number count ∷ GREATER ∷ [])) refl all)))

nesting_some : (ty : EsiType) (level : EsiType-F EsiType Field) → roll-EsiType level ≡ ty → 1 ≤ nesting_of ty
nesting_some ty (EsiType-F.Bits class width) e = omega (arith, nesting-Bits class width, ap nesting_of (sym (rolls-Bits class width) ∙ e))
nesting_some ty EsiType-F.Void e = omega (arith, nesting-Void, ap nesting_of (sym rolls-Void ∙ e))
nesting_some ty (EsiType-F.Struct fields) e = omega (arith, nesting-Struct fields, ap nesting_of (sym (rolls-Struct fields) ∙ e))
nesting_some ty (EsiType-F.Array item count) e = omega (arith, nesting-Array item count, ap nesting_of (sym (rolls-Array item count) ∙ e))

within_printable : (d : ℕ) (ty : EsiType) → IsGoodWithin d ty → ArePrintable (type_tokens ty)
within_printable zero ty good = absurd (omega (arith, nesting_some ty (out-EsiType ty) (roll-out-EsiType ty), good.nesting))
within_printable (suc d) ty good = level_printable d (within_printable d) ty (out-EsiType ty) (roll-out-EsiType ty) (subst (λ n. IsGoodWithin n ty) (sym (add-one d)) good)

-- The tokens of a good type are printable.
pub type_printable : (ty : EsiType) → IsGoodType ty → ArePrintable (type_tokens ty)
type_printable ty good = within_printable 16 ty (good_within ty good)
