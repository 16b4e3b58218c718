-- The printed text of a good type is a text of that type.
use Rattle.std.proofs.Common.{◌≡◌, ℕ, zero, suc, ◌+◌, ◌*◌, ◌<◌, ◌≤◌, ◌^◌, true, false, List, [], ◌∷◌, ◌++◌, length, map, refl, sym, ap, ◌∙◌, subst, arith, append_assoc, append-nil, add-one}
use Rattle.std.specs.Prelude.{codes, All}
use Rattle.std.specs.List.{flat_map}
use Rattle.std.specs.Fmt.{decimal}
use Rattle.std.proofs.Math.Nat.{le-mul_of_pos_right}
use Rattle.std.proofs.lemmas.List.Elements.{All-head, All-tail}
use Rattle.design_lex.specs.declared.limits.TheConstants.{WIDEST_TYPE}
use Rattle.ll1_grammar.specs.Rule.{Rule, Tree, ◌⟫◌}
use Rattle.ll1_grammar.specs.Rule.Rule.{alt, star}
use Rattle.ll1_grammar.specs.Rule.Tree.{left, right, node, held}
use Rattle.ll1_grammar.specs.Kinds.{spell, first, second}
use Rattle.ll1_grammar.specs.Trees.Fits.{fits_left, fits_right, fits_call, fits_checked}
use Rattle.ll1_grammar.specs.Nested.{NoTree, TooDeep, no_level}
use Rattle.ll1_grammar.specs.Nesting.{NestingTree}
use Rattle.ll1_grammar.specs.NestingLaws.{all_own}
use Rattle.ll1_grammar.specs.Bridge.{leaf_by, items}
use Rattle.design_lex.specs.Octet.{is_word_octet}
use Rattle.design_lex.specs.Cuts.{stops}
use Rattle.design_lex.specs.Spellings.{IsWordText, class_letters}
use Rattle.design_lex.specs.Printed.{nothing_cut}
use Rattle.design_lex.specs.Tokens.{lexemes_from, word_token}
use Rattle.design_lex.specs.declared.token.Class.{Class}
use Rattle.design_lex.specs.declared.token.Token.{Token}
use Rattle.design_grammar.specs.declared.kind.Kind.TheVariants.{Less, Greater, Colon, Comma, Void, Struct, Array}
use Rattle.design_grammar.specs.Kinds.{word_kind}
use Rattle.design_grammar.specs.Grammar.{word_in, number_in}
use Rattle.design_grammar.specs.Names.{IsName}
use Rattle.channel_types.specs.declared.esi_type.EsiType.{EsiType}
use Rattle.channel_types.specs.declared.esi_type.EsiType.TheVariants as V
use Rattle.channel_types.specs.declared.esi_type.EsiType.TheVariants.{rolls-Bits, rolls-Void, rolls-Struct, rolls-Array}
use Rattle.channel_types.specs.declared.esi_type.EsiType.TheOpen.{EsiType-F}
use Rattle.channel_types.specs.declared.esi_type.EsiType.TheViews.{out-EsiType, roll-EsiType, roll-out-EsiType}
use Rattle.channel_types.specs.declared.esi_type.Field.{Field}
use Rattle.channel_types.specs.declared.limits.TheConstants.{OPEN_TYPES}
use Rattle.channel_types.specs.Types.{width_of, nesting_of, name_of, IsGoodType}
use Rattle.channel_types.specs.Text.{text_of, field_text}
use Rattle.channel_types.specs.Equations.{nesting-Bits, nesting-Void, nesting-Struct, nesting-Array, text-Bits, text-Void, text-Struct, text-Array, text-field}
use Rattle.channel_types.specs.Goods.{IsGoodWithin, good_level, good_level_Bits, good_level_Struct, good_level_Array, good_low, good_within, fields_within, item_within}
use Rattle.design_grammar.specs.Rules.{designs, token, a_type, field_rule, struct_rule, array_rule, level_rule}
use Rattle.channel_types.specs.TypeGrammar.{type_check, check_of, field_in, struct_in, array_in, level_in, type_of}
use Rattle.channel_types.specs.TypeRuleLaws.{check_of-level}
use Rattle.channel_types.specs.TypeAnswers.{IsTypeTree, IsTypeText}
use Rattle.channel_types.specs.Pieces.{Cut, Piece, join, gap, worth_so, sign_piece, word_piece, name_piece, bits_piece, count_piece, star_none, star_more}

-- the trees of the rules that are called, with so many levels still to be opened
abbrev Called : ℕ → ℕ → Tree Token → Type 0
Called d = NestingTree designs all_own type_check (no_level designs) NoTree (TooDeep designs) d

-- The printed text of a type is cut into the tokens of a tree whose value is the type.
pub record TypeCut (d : ℕ) (ty : EsiType) (behind : List ℕ) (at : ℕ) : Type 0 where
  pub tree : Tree Token
  pub fits : IsTypeTree d tree
  pub worth : (type_of d tree).0 ≡ ty
  pub cut : lexemes_from 0 false at (text_of ty ++ behind) ≡ spell tree ++ lexemes_from 0 false (at + length (text_of ty)) behind

-- an array of so few bits has few items
few : (count width : ℕ) → 1 ≤ width → count * width ≤ WIDEST_TYPE → count < 2 ^ 32
few count width h k = let e : count ≤ count * width = le-mul_of_pos_right count h in omega arith

module _ (d : ℕ) where
  -- a piece of a type's level
  abbrev P : Rule → (Tree Token → Type 0) → List ℕ → List ℕ → Type 0
  P r V piece behind = Piece (type_check d) (Called d) r V piece behind

  -- the same piece, of an equal text
  piece_as : {r : Rule} {V : Tree Token → Type 0} (a b behind : List ℕ) → a ≡ b → P r V a behind → P r V b behind
  piece_as {r} {V} a b behind e p = subst (λ z. P r V z behind) e p

  on_left : {r s : Rule} {V W : Tree Token → Type 0} (a behind : List ℕ) → ((t : Tree Token) → V t → W (left t)) → P r V a behind → P (alt r s) W a behind
  on_left {r} {s} {V} {W} a behind f p at = of (p at)
    where
      of : Cut (type_check d) (Called d) r V a behind at → Cut (type_check d) (Called d) (alt r s) W a behind at
      of x = record { tree = left x.tree; fits = fits_left x.fits; worth = f x.tree x.worth; cut = x.cut }

  on_right : {r s : Rule} {V W : Tree Token → Type 0} (a behind : List ℕ) → ((t : Tree Token) → V t → W (right t)) → P s V a behind → P (alt r s) W a behind
  on_right {r} {s} {V} {W} a behind f p at = of (p at)
    where
      of : Cut (type_check d) (Called d) s V a behind at → Cut (type_check d) (Called d) (alt r s) W a behind at
      of x = record { tree = right x.tree; fits = fits_right x.fits; worth = f x.tree x.worth; cut = x.cut }

  bits_level : (class : Class) (width : ℕ) (behind : List ℕ) → width ≤ WIDEST_TYPE → stops is_word_octet behind ≡ true
      → P level_rule (λ t. (level_in (type_of d) t).0 ≡ V.Bits class width) (text_of (V.Bits class width)) behind
  bits_level class width behind h s =
      piece_as _ _ behind (sym (text-Bits class width))
      (on_left (class_letters class ++ decimal width) behind (λ t e. ap (λ w. V.Bits w.0 w.1) e) (bits_piece (type_check d) (Called d) class width behind h s))

  void_word : IsWordText (codes "void")
  unfolding word_token
  void_word = record { begins = refl; octets = refl; spells = refl }

  struct_word : IsWordText (codes "struct")
  unfolding word_token
  struct_word = record { begins = refl; octets = refl; spells = refl }

  array_word : IsWordText (codes "array")
  unfolding word_token
  array_word = record { begins = refl; octets = refl; spells = refl }

  void_level : (behind : List ℕ) → stops is_word_octet behind ≡ true → P level_rule (λ t. (level_in (type_of d) t).0 ≡ V.Void) (text_of V.Void) behind
  unfolding word_kind
  void_level behind s =
      piece_as _ _ behind (sym text-Void)
      (on_right (codes "void") behind (λ t e. e) (on_left {V = λ t. leaf_by designs (λ x. word_in x.1) t ≡ codes "void"} {W = λ t. (level_in (type_of d) (right t)).0 ≡ V.Void} (codes "void") behind (λ t e. refl) (word_piece (type_check d) (Called d) Void (codes "void") behind void_word refl s)))

  -- where the types in it are cut
  module _ (below : (ty : EsiType) → IsGoodWithin d ty → (behind : List ℕ) → stops is_word_octet behind ≡ true → (at : ℕ) → TypeCut d ty behind at) where
    call_piece : (ty : EsiType) (behind : List ℕ) → IsGoodWithin d ty → stops is_word_octet behind ≡ true → P a_type (λ t. (type_of d t).0 ≡ ty) (text_of ty) behind
    call_piece ty behind good s at = of (below ty good behind s at)
      where
        of : TypeCut d ty behind at → Cut (type_check d) (Called d) a_type (λ t. (type_of d t).0 ≡ ty) (text_of ty) behind at
        of x = record { tree = x.tree; fits = fits_call x.fits; worth = x.worth; cut = x.cut }

    field_is : (n : List ℕ) (ty : EsiType) (f : Field) → n ≡ f.name → ty ≡ f.ty → ◌≡◌ {A = Field} (record { name = n; ty = ty }) f
    field_is n ty f d e = ap (λ (m : List ℕ). let x : Field = record { name = m; ty = ty } in x) d ∙ ap (λ (u : EsiType). let x : Field = record { name = f.name; ty = u } in x) e

    field_piece : (f : Field) (behind : List ℕ) → IsName f.name → IsGoodWithin d f.ty → stops is_word_octet behind ≡ true → P field_rule (λ t. field_in (type_of d) t ≡ f) (field_text f) behind
    field_piece f behind name good s =
        piece_as _ _ behind (sym (text-field f))
        (worth_so (type_check d) (Called d) (f.name ++ (58 ∷ 32 ∷ text_of f.ty)) behind (λ t v. field_is _ _ f v.0 v.1.1)
        (join (type_check d) (Called d) f.name ((58 ∷ []) ++ (32 ∷ text_of f.ty)) behind (name_piece (type_check d) (Called d) f.name _ name refl)
        (join (type_check d) (Called d) (58 ∷ []) (32 ∷ text_of f.ty) behind (sign_piece (type_check d) (Called d) Colon 58 _ refl refl) (gap (type_check d) (Called d) (text_of f.ty) behind (call_piece f.ty behind good s)))))

    -- the fields after commas
    abbrev others_of : List Field → List ℕ
    others_of fs = flat_map (λ y. codes ", " ++ y) (map field_text fs)

    stops_behind : (fs : List Field) (behind : List ℕ) → stops is_word_octet behind ≡ true → stops is_word_octet (others_of fs ++ behind) ≡ true
    stops_behind [] behind s = s
    stops_behind (f ∷ fs) behind s = refl

    fields_piece : (fs : List Field) (behind : List ℕ) → All IsName (map name_of fs) → All (λ f. IsGoodWithin d f.ty) fs → stops is_word_octet behind ≡ true
        → P (star (token Comma ⟫ field_rule)) (λ t. items (λ w. field_in (type_of d) (second w)) t ≡ fs) (others_of fs) behind
    fields_piece [] behind names good s = star_none (type_check d) (Called d) (λ w. field_in (type_of d) (second w)) behind
    fields_piece (f ∷ fs) behind names good s =
        star_more (type_check d) (Called d) (λ w. field_in (type_of d) (second w)) f fs (codes ", " ++ field_text f) (others_of fs) behind
        (worth_so (type_check d) (Called d) (codes ", " ++ field_text f) (others_of fs ++ behind) (λ t v. v.1)
        (join (type_check d) (Called d) (44 ∷ []) (32 ∷ field_text f) (others_of fs ++ behind) (sign_piece (type_check d) (Called d) Comma 44 _ refl refl)
        (gap (type_check d) (Called d) (field_text f) (others_of fs ++ behind)
        (field_piece f (others_of fs ++ behind) (All-head IsName f.name (map name_of fs) names) (All-head (λ f. IsGoodWithin d f.ty) f fs good) (stops_behind fs behind s)))))
        (fields_piece fs behind (All-tail IsName f.name (map name_of fs) names) (All-tail (λ f. IsGoodWithin d f.ty) f fs good) s)

    struct_text : (f : Field) (fs : List Field) → (codes "struct" ++ ((60 ∷ []) ++ (field_text f ++ (others_of fs ++ (62 ∷ []))))) ≡ text_of (V.Struct (f ∷ fs))
    struct_text f fs = ap (λ z. codes "struct<" ++ z) (sym (append_assoc (field_text f) (others_of fs) (62 ∷ []))) ∙ sym (text-Struct (f ∷ fs))

    struct_level : (f : Field) (fs : List Field) (behind : List ℕ) → All IsName (map name_of (f ∷ fs)) → All (λ f. IsGoodWithin d f.ty) (f ∷ fs) → stops is_word_octet behind ≡ true
        → P struct_rule (λ t. (struct_in (type_of d) (second (second t))).0 ≡ V.Struct (f ∷ fs)) (text_of (V.Struct (f ∷ fs))) behind
    unfolding word_kind
    struct_level f fs behind names good s =
        piece_as _ _ behind (struct_text f fs)
        (worth_so (type_check d) (Called d) _ behind (λ t v. ap (λ g. V.Struct (g ∷ items (λ w. field_in (type_of d) (second w)) (first (second (second (second t)))))) v.1.1.0 ∙ ap (λ gs. V.Struct (f ∷ gs)) v.1.1.1.0)
        (join (type_check d) (Called d) (codes "struct") _ behind (word_piece (type_check d) (Called d) Struct (codes "struct") _ struct_word refl refl)
        (join (type_check d) (Called d) (60 ∷ []) _ behind (sign_piece (type_check d) (Called d) Less 60 _ refl refl)
        (join (type_check d) (Called d) (field_text f) (others_of fs ++ (62 ∷ [])) behind
        (field_piece f ((others_of fs ++ (62 ∷ [])) ++ behind) (All-head IsName f.name (map name_of fs) names) (All-head (λ f. IsGoodWithin d f.ty) f fs good)
        (subst (λ z. stops is_word_octet z ≡ true) (sym (append_assoc (others_of fs) (62 ∷ []) behind)) (stops_behind fs ((62 ∷ []) ++ behind) refl)))
        (join (type_check d) (Called d) (others_of fs) (62 ∷ []) behind (fields_piece fs ((62 ∷ []) ++ behind) (All-tail IsName f.name (map name_of fs) names) (All-tail (λ f. IsGoodWithin d f.ty) f fs good) refl)
        (sign_piece (type_check d) (Called d) Greater 62 behind refl refl))))))

    array_level : (item : EsiType) (count : ℕ) (behind : List ℕ) → IsGoodWithin d item → count < 2 ^ 32 → stops is_word_octet behind ≡ true
        → P array_rule (λ t. (array_in (type_of d) (second (second t))).0 ≡ V.Array item count) (text_of (V.Array item count)) behind
    unfolding word_kind
    array_level item count behind good small s =
        piece_as (codes "array" ++ ((60 ∷ []) ++ (text_of item ++ ((44 ∷ []) ++ ((32 ∷ decimal count) ++ (62 ∷ [])))))) _ behind (sym (text-Array item count))
        (worth_so (type_check d) (Called d) _ behind (λ t v. ap (λ i. V.Array i (leaf_by designs (λ x. number_in x.1) (first (second (second (second (second t))))))) v.1.1.0 ∙ ap (λ n. V.Array item n) v.1.1.1.1.0)
        (join (type_check d) (Called d) (codes "array") _ behind (word_piece (type_check d) (Called d) Array (codes "array") _ array_word refl refl)
        (join (type_check d) (Called d) (60 ∷ []) _ behind (sign_piece (type_check d) (Called d) Less 60 _ refl refl)
        (join (type_check d) (Called d) (text_of item) _ behind (call_piece item _ good refl)
        (join (type_check d) (Called d) (44 ∷ []) _ behind (sign_piece (type_check d) (Called d) Comma 44 _ refl refl)
        (join (type_check d) (Called d) (32 ∷ decimal count) (62 ∷ []) behind (gap (type_check d) (Called d) (decimal count) _ (count_piece (type_check d) (Called d) count _ small refl))
        (sign_piece (type_check d) (Called d) Greater 62 behind refl refl)))))))

    -- a type by its level
    level_of : (ty : EsiType) (level : EsiType-F EsiType Field) → roll-EsiType level ≡ ty → IsGoodWithin (d + 1) ty → (behind : List ℕ) → stops is_word_octet behind ≡ true
        → P level_rule (λ t. (level_in (type_of d) t).0 ≡ ty) (text_of ty) behind
    level_of ty (EsiType-F.Bits class width) e good behind s =
        let same : V.Bits class width ≡ ty = sym (rolls-Bits class width) ∙ e in
        let good_here = subst (λ z. IsGoodWithin (d + 1) z) (sym same) good in
        subst (λ z. P level_rule (λ t. (level_in (type_of d) t).0 ≡ z) (text_of z) behind) same (bits_level class width behind (good_level_Bits class width good_here.each).high s)
    level_of ty EsiType-F.Void e good behind s =
        let same : V.Void ≡ ty = sym rolls-Void ∙ e in
        subst (λ z. P level_rule (λ t. (level_in (type_of d) t).0 ≡ z) (text_of z) behind) same (void_level behind s)
    level_of ty (EsiType-F.Struct []) e good behind s =
        let same : V.Struct [] ≡ ty = sym (rolls-Struct []) ∙ e in
        let good_here = subst (λ z. IsGoodWithin (d + 1) z) (sym same) good in
        let level = good_level_Struct [] good_here.each in
        absurd (omega (arith, level.low))
    level_of ty (EsiType-F.Struct (f ∷ fs)) e good behind s =
        let same : V.Struct (f ∷ fs) ≡ ty = sym (rolls-Struct (f ∷ fs)) ∙ e in
        let good_here = subst (λ z. IsGoodWithin (d + 1) z) (sym same) good in
        let level = good_level_Struct (f ∷ fs) good_here.each in
        subst (λ z. P level_rule (λ t. (level_in (type_of d) t).0 ≡ z) (text_of z) behind) same
        (on_right (text_of (V.Struct (f ∷ fs))) behind (λ t e. e)
        (on_right {V = λ t. (level_in (type_of d) (right (right t))).0 ≡ V.Struct (f ∷ fs)} {W = λ t. (level_in (type_of d) (right t)).0 ≡ V.Struct (f ∷ fs)} (text_of (V.Struct (f ∷ fs))) behind (λ t e. e)
        (on_left {W = λ t. (level_in (type_of d) (right (right t))).0 ≡ V.Struct (f ∷ fs)} (text_of (V.Struct (f ∷ fs))) behind (λ t e. e)
        (struct_level f fs behind level.names (fields_within d (f ∷ fs) good_here) s))))
    level_of ty (EsiType-F.Array item count) e good behind s =
        let same : V.Array item count ≡ ty = sym (rolls-Array item count) ∙ e in
        let good_here = subst (λ z. IsGoodWithin (d + 1) z) (sym same) good in
        let level = good_level_Array item count good_here.each in
        let inside = item_within d item count good_here in
        subst (λ z. P level_rule (λ t. (level_in (type_of d) t).0 ≡ z) (text_of z) behind) same
        (on_right (text_of (V.Array item count)) behind (λ t e. e)
        (on_right {V = λ t. (level_in (type_of d) (right (right t))).0 ≡ V.Array item count} {W = λ t. (level_in (type_of d) (right t)).0 ≡ V.Array item count} (text_of (V.Array item count)) behind (λ t e. e)
        (on_right {W = λ t. (level_in (type_of d) (right (right t))).0 ≡ V.Array item count} (text_of (V.Array item count)) behind (λ t e. e)
        (array_level item count behind inside (few count (width_of item) (good_low item inside.each) level.high) s))))

    level_cut : (ty : EsiType) → IsGoodWithin (d + 1) ty → (behind : List ℕ) → stops is_word_octet behind ≡ true → (at : ℕ) → TypeCut (suc d) ty behind at
    level_cut ty good behind s at = of (level_of ty (out-EsiType ty) (roll-out-EsiType ty) good behind s at)
      where
        of : Cut (type_check d) (Called d) level_rule (λ t. (level_in (type_of d) t).0 ≡ ty) (text_of ty) behind at → TypeCut (suc d) ty behind at
        of x = record {
          tree = node (held x.tree);
          fits = record { inner = held x.tree; is = refl; fits = fits_checked x.fits (ap check_of x.worth ∙ check_of-level ty (good_level ty good.each)) };
          worth = x.worth;
          cut = x.cut;
        }

nesting_some : (ty : EsiType) (level : EsiType-F EsiType Field) → roll-EsiType level ≡ ty → 1 ≤ nesting_of ty
nesting_some ty (EsiType-F.Bits class width) e = omega (arith, nesting-Bits class width, ap nesting_of (sym (rolls-Bits class width) ∙ e))
nesting_some ty EsiType-F.Void e = omega (arith, nesting-Void, ap nesting_of (sym rolls-Void ∙ e))
nesting_some ty (EsiType-F.Struct fields) e = omega (arith, nesting-Struct fields, ap nesting_of (sym (rolls-Struct fields) ∙ e))
nesting_some ty (EsiType-F.Array item count) e = omega (arith, nesting-Array item count, ap nesting_of (sym (rolls-Array item count) ∙ e))

-- the text of a type that is good within so many levels is cut into a tree as deep
pub type_cut : (d : ℕ) (ty : EsiType) → IsGoodWithin d ty → (behind : List ℕ) → stops is_word_octet behind ≡ true → (at : ℕ) → TypeCut d ty behind at
type_cut zero ty good behind s at = absurd (omega (arith, nesting_some ty (out-EsiType ty) (roll-out-EsiType ty), good.nesting))
type_cut (suc d) ty good behind s at = level_cut d (type_cut d) ty (subst (λ n. IsGoodWithin n ty) (sym (add-one d)) good) behind s at

-- So the printed text of a good type is the text of that type.
pub printed_is_type : (ty : EsiType) → IsGoodType ty → IsTypeText (text_of ty) ty
printed_is_type ty good = of (type_cut OPEN_TYPES ty (good_within ty good) [] refl 0)
  where
    of : TypeCut OPEN_TYPES ty [] 0 → IsTypeText (text_of ty) ty
    of x = record {
      tree = x.tree;
      fits = x.fits;
      parts = ap (λ z. lexemes_from 0 false 0 z) (sym (append-nil (text_of ty))) ∙ (x.cut ∙ (ap (λ z. spell x.tree ++ z) (nothing_cut (0 + length (text_of ty))) ∙ append-nil (spell x.tree)));
      is = sym x.worth;
    }
