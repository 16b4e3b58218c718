-- What is read is good: each level breaks no rule, and names are tokens of the kind of names.
use Rattle.std.proofs.Common.{◌≡◌, ◌+◌, ℕ, zero, suc, true, List, [], ◌∷◌, ◌++◌, map, drop, sym, subst, arith, add-one, Result, Ok, Err, IfOk}
use Rattle.std.specs.Prelude.{All}
use Rattle.std.proofs.lemmas.List.Elements.{All-nil, All-cons}
use Rattle.ll1_grammar.specs.Lexemes.{Lexeme, Lexemes}
use Rattle.ll1_grammar.specs.Rule.{Tree, ◌⟫◌}
use Rattle.ll1_grammar.specs.Rule.Rule.{star, call}
use Rattle.ll1_grammar.specs.Kinds.{among, spell, second, inside}
use Rattle.ll1_grammar.specs.Trees.{Fits}
use Rattle.ll1_grammar.specs.Trees.Fits.{fits_one, fits_seq, fits_left, fits_right, fits_last, fits_turn, fits_call, fits_checked}
use Rattle.ll1_grammar.specs.declared.refusal.TokenRefusal.{TokenRefusal}
use Rattle.ll1_grammar.specs.Nested.{NodeOf, NoTree, TooDeep, no_level}
use Rattle.ll1_grammar.specs.Nesting.{NestingTree}
use Rattle.ll1_grammar.specs.NestingLaws.{all_own}
use Rattle.ll1_grammar.specs.Bridge.{items}
use Rattle.design_lex.specs.Spellings.{AreSpelled}
use Rattle.design_lex.specs.WordTexts.{spelled_first, spelled_second, words_spelled}
use Rattle.design_lex.specs.declared.token.Token.{Token}
use Rattle.design_grammar.specs.declared.kind.Kind.TheVariants.{Comma}
use Rattle.design_grammar.specs.Kinds.{names}
use Rattle.design_grammar.specs.Grammar.{kind_code, word_in, number_in, width_in}
use Rattle.design_grammar.specs.Names.{IsName, name_token}
use Rattle.channel_types.specs.declared.esi_type.EsiType.{EsiType}
use Rattle.channel_types.specs.declared.esi_type.EsiType.TheVariants as V
use Rattle.channel_types.specs.declared.esi_type.EsiType.TheVariants.{outs-Bits, outs-Struct, outs-Array}
use Rattle.channel_types.specs.declared.esi_type.EsiType.TheOpen.{EsiType-F}
use Rattle.channel_types.specs.declared.esi_type.EsiType.TheViews.{out-EsiType}
use Rattle.channel_types.specs.declared.esi_type.Field.{Field}
use Rattle.channel_types.specs.declared.limits.TheConstants.{OPEN_TYPES}
use Rattle.channel_types.specs.Types.{name_of, level_names, IsLevel, IsGoodType}
use Rattle.channel_types.specs.TypeRuleLaws.{level_of_unbroken}
use Rattle.channel_types.specs.Goods.{IsGoodWithin, good_bits, good_void, good_struct, good_array, good_deeper, good_type}
use Rattle.design_grammar.specs.Rules.{designs, token, field_rule, struct_rule, array_rule, level_rule, type_rule}
use Rattle.channel_types.specs.TypeGrammar.{type_check, check_of, Found, field_in, struct_in, array_in, level_in, type_of}
use Rattle.channel_types.specs.TypeAnswers.{IsTypeTree, IsTypeAt, IsTypeText}
use Rattle.esi_base.specs.declared.stop.Stop.{Stop}
use Rattle.design_grammar.specs.Grammar.{AnswersAt}
use Rattle.design_types.specs.TypeReading.{type_at}
use Rattle.design_types.specs.TypeMeaning.{call_in, type_found}

-- the level of a type that breaks no rule, with names for its fields
level_good : (ty : EsiType) (level : EsiType-F EsiType Field) → out-EsiType ty ≡ level → check_of ty ≡ 0 → All IsName (level_names level) → IsLevel level
level_good ty level e unbroken names = subst IsLevel e (level_of_unbroken ty unbroken (subst (λ z. All IsName (level_names z)) (sym e) names))

module _ (d : ℕ) (called : ℕ → Tree Token → Type 0) (inner : (t : Tree Token) → called 0 t → AreSpelled (spell t) → IsGoodWithin d (type_of d t).0) where
  -- a name, by its token
  name_in : (x : Lexeme Token) → among names (kind_code x.1) ≡ true → AreSpelled (x ∷ []) → IsName (word_in x.1)
  name_in x m h = name_token x.1 m h.0

  call_good : (t : Tree Token) → Fits designs (type_check d) called (call 0) t → AreSpelled (spell t) → IsGoodWithin d (type_of d t).0
  call_good t (fits_call h) s = inner t h s

  field_good : (t : Tree Token) → Fits designs (type_check d) called field_rule t → AreSpelled (spell t) → IsGoodWithin d (field_in (type_of d) t).ty × IsName (name_of (field_in (type_of d) t))
  field_good t (fits_seq (fits_one {x = x} m) (fits_seq {a = b} {b = u} h k)) s = (
    call_good u k (spelled_second (spell b) (spell u) (spelled_second (x ∷ []) (spell b ++ spell u) s)),
    name_in x m (spelled_first (x ∷ []) (spell b ++ spell u) s),
  )

  -- good fields, with good names
  abbrev AreGoodFields : List Field → Type 0
  AreGoodFields fields = All (λ f. IsGoodWithin d f.ty) fields × All IsName (map name_of fields)

  and_field : (f : Field) (fs : List Field) → IsGoodWithin d f.ty × IsName (name_of f) → AreGoodFields fs → AreGoodFields (f ∷ fs)
  and_field f fs h k = (All-cons (λ f. IsGoodWithin d f.ty) f fs h.0 k.0, All-cons IsName (name_of f) (map name_of fs) h.1 k.1)

  fields_good : (t : Tree Token) → Fits designs (type_check d) called (star (token Comma ⟫ field_rule)) t → AreSpelled (spell t) → AreGoodFields (items (λ w. field_in (type_of d) (second w)) t)
  fields_good t fits_last s = (All-nil (λ f. IsGoodWithin d f.ty), All-nil IsName)
  fields_good t (fits_turn {a = b} {t = u} h k) s = and_field _ _ (after_comma b h (spelled_first (spell b) (spell u) s)) (fields_good u k (spelled_second (spell b) (spell u) s))
    where
      after_comma : (w : Tree Token) → Fits designs (type_check d) called (token Comma ⟫ field_rule) w → AreSpelled (spell w)
          → IsGoodWithin d (field_in (type_of d) (second w)).ty × IsName (name_of (field_in (type_of d) (second w)))
      after_comma w (fits_seq {a = c} {b = v} g k) s = field_good v k (spelled_second (spell c) (spell v) s)

  struct_good : (t : Tree Token) → Fits designs (type_check d) called struct_rule t → AreSpelled (spell t) → check_of (struct_in (type_of d) (second (second t))).0 ≡ 0
      → IsGoodWithin (d + 1) (struct_in (type_of d) (second (second t))).0
  struct_good t (fits_seq (fits_one m1) (fits_seq (fits_one m2) (fits_seq {a = f} {b = b3} h (fits_seq {a = more} {b = b4} k g)))) s j =
      let fields : List Field = field_in (type_of d) f ∷ items (λ w. field_in (type_of d) (second w)) more in
      let first_field = field_good f h (spelled_first (spell f) (spell more ++ spell b4) s.1.1) in
      let others = fields_good more k (spelled_first (spell more) (spell b4) (spelled_second (spell f) (spell more ++ spell b4) s.1.1)) in
      let each : AreGoodFields fields = and_field (field_in (type_of d) f) (items (λ w. field_in (type_of d) (second w)) more) first_field others in
      good_struct d fields (level_good (V.Struct fields) (EsiType-F.Struct fields) (outs-Struct fields) j each.1) each.0

  array_good : (t : Tree Token) → Fits designs (type_check d) called array_rule t → AreSpelled (spell t) → check_of (array_in (type_of d) (second (second t))).0 ≡ 0
      → IsGoodWithin (d + 1) (array_in (type_of d) (second (second t))).0
  array_good t (fits_seq (fits_one m1) (fits_seq (fits_one m2) (fits_seq {a = i} {b = b3} h (fits_seq k (fits_seq (fits_one {x = n} m) g))))) s j =
      let item : EsiType = (type_of d i).0 in
      let count : ℕ = number_in n.1 in
      good_array d item count (level_good (V.Array item count) (EsiType-F.Array item count) (outs-Array item count) j (All-nil IsName)) (call_good i h (spelled_first (spell i) (spell b3) s.1.1))

  bits_good : (x : Lexeme Token) → check_of (V.Bits (width_in x.1).0 (width_in x.1).1) ≡ 0 → IsGoodWithin (d + 1) (V.Bits (width_in x.1).0 (width_in x.1).1)
  bits_good x j =
      let level = level_good (V.Bits (width_in x.1).0 (width_in x.1).1) (EsiType-F.Bits (width_in x.1).0 (width_in x.1).1) (outs-Bits (width_in x.1).0 (width_in x.1).1) j (All-nil IsName) in
      good_deeper 1 (d + 1) _ (omega arith) (good_bits (width_in x.1).0 (width_in x.1).1 level.low level.high)

  one_level_good : (t : Tree Token) → Fits designs (type_check d) called level_rule t → AreSpelled (spell t) → check_of (level_in (type_of d) t).0 ≡ 0 → IsGoodWithin (d + 1) (level_in (type_of d) t).0
  one_level_good t (fits_left (fits_one {x = x} m)) s j = bits_good x j
  one_level_good t (fits_right (fits_left (fits_one m))) s j = good_deeper 1 (d + 1) V.Void (omega arith) good_void
  one_level_good t (fits_right (fits_right (fits_left {a = u} h))) s j = struct_good u h s j
  one_level_good t (fits_right (fits_right (fits_right {b = u} h))) s j = array_good u h s j

  type_rule_good : (t : Tree Token) → Fits designs (type_check d) called type_rule t → AreSpelled (spell t) → IsGoodWithin (d + 1) (level_in (type_of d) (inside t)).0
  type_rule_good t (fits_checked {t = u} h j) s = one_level_good u h s j

-- the trees of the rules that are called, with so many levels still to be opened
abbrev Called : ℕ → ℕ → Tree Token → Type 0
Called d = NestingTree designs all_own type_check (no_level designs) NoTree (TooDeep designs) d

-- the type of a tree is good, as deep as the tree
pub tree_good : (d : ℕ) (t : Tree Token) → IsTypeTree d t → AreSpelled (spell t) → IsGoodWithin d (type_of d t).0
tree_good zero t h s = absurd h
tree_good (suc d) t h s = of h s (tree_good d)
  where
    in_node : (u : Tree Token) → Fits designs (type_check d) (Called d) type_rule u → AreSpelled (spell u) → ((v : Tree Token) → IsTypeTree d v → AreSpelled (spell v) → IsGoodWithin d (type_of d v).0)
        → IsGoodWithin (suc d) (level_in (type_of d) (inside u)).0
    in_node u f s below = subst (λ n. IsGoodWithin n (level_in (type_of d) (inside u)).0) (add-one d) (type_rule_good d (Called d) below u f s)

    of : NodeOf designs (type_check d) (Called d) 0 t → AreSpelled (spell t) → ((v : Tree Token) → IsTypeTree d v → AreSpelled (spell v) → IsGoodWithin d (type_of d v).0) → IsGoodWithin (suc d) (type_of (suc d) t).0
    of o s below =
        subst (λ z. IsGoodWithin (suc d) (type_of (suc d) z).0) (sym o.is)
        (in_node o.inner o.fits (subst (λ z. AreSpelled (spell z)) o.is s) below)

-- so what a text has at an offset is good,
pub at_good : (text : List ℕ) (at : ℕ) (found : Found) → IsTypeAt text at found → IsGoodType found.0
at_good text at found o =
    subst (λ z. IsGoodType z.0) (sym o.is) (good_type (type_of OPEN_TYPES o.tree).0
    (tree_good OPEN_TYPES o.tree o.fits (spelled_first (spell o.tree) o.rest (subst AreSpelled o.parts (words_spelled at (drop at text))))))

-- and so is the type of a whole text
pub text_good : (text : List ℕ) (ty : EsiType) → IsTypeText text ty → IsGoodType ty
text_good text ty o = subst IsGoodType (sym o.is) (good_type (type_of OPEN_TYPES o.tree).0 (tree_good OPEN_TYPES o.tree o.fits (subst AreSpelled o.parts (words_spelled 0 (drop 0 text)))))

-- and so is what was read from the lexemes of a text
pub read_good : (ts : Lexemes Token) (result : Result Found (Stop TokenRefusal)) (new : Lexemes Token) → AnswersAt (type_at OPEN_TYPES ts) result new → AreSpelled ts → IfOk result (λ found. IsGoodType found.0)
read_good ts (Ok a) new e spelled =
    let o = type_found ts a new e in
    subst (λ z. IsGoodType z.0) (sym o.is) (good_type (type_of OPEN_TYPES o.tree).0 (tree_good OPEN_TYPES o.tree (call_in OPEN_TYPES o.tree o.fits) (spelled_first (spell o.tree) new (subst AreSpelled o.parts spelled))))
read_good ts (Err halt) new e spelled = tt
