-- The readers of types read exactly the grammar.
use Rattle.std.proofs.Common.{◌≡◌, ℕ, zero, suc, Bool, true, false, if◌then◌else◌, [], ◌∷◌, Err, refl, sym, ap, ◌∙◌}
use Rattle.ll1_grammar.specs.Lexemes.{Lexemes, first_place}
use Rattle.ll1_grammar.specs.Rule.{Kinds, Rule, Tree, ◌⟫◌}
use Rattle.ll1_grammar.specs.Rule.Rule.{star}
use Rattle.ll1_grammar.specs.Rule.Tree.{node}
use Rattle.ll1_grammar.specs.Kinds.{among, second, inside, first_kind, first_token}
use Rattle.ll1_grammar.specs.Parse.{Parser, parse}
use Rattle.ll1_grammar.specs.Parse.ParseStop.{unwanted, broken}
use Rattle.ll1_grammar.specs.Trees.{Checks}
use Rattle.ll1_grammar.specs.Nested.{NoTree, TooDeep, no_level}
use Rattle.ll1_grammar.specs.Nesting.{nesting, NestingTree, NestingBreak}
use Rattle.ll1_grammar.specs.NestingLaws.{all_own, no_base, nesting_readable}
use Rattle.ll1_grammar.specs.WholeTexts.{Readable, first_there}
use Rattle.ll1_grammar.specs.Readers.{Reader, checking, refused}
use Rattle.ll1_grammar.specs.Bridge.{Implements, AreReported, read_of, leaf_by, items, map_implements, seq_implements, alt_implements, checked_implements, read_of_wrap}
use Rattle.design_lex.specs.declared.token.Token.{Token}
use Rattle.design_grammar.specs.declared.kind.Kind.TheVariants.{TypeWord, Less, Greater, Colon, Comma, Void, Struct, Array}
use Rattle.design_grammar.specs.RuleNumbers.{rule_number}
use Rattle.design_grammar.specs.declared.rule.GrammarRule.TheVariants.{TooManyOpenTypes}
use Rattle.design_grammar.specs.Kinds.{code, unwanted as unwanted_rule, word_kind}
use Rattle.design_grammar.specs.Grammar.{word_in, number_in, width_in}
use Rattle.channel_types.specs.declared.esi_type.EsiType.TheVariants as V
use Rattle.channel_types.specs.declared.esi_type.Field.{Field}
use Rattle.design_grammar.specs.Decided.{designs_calls}
use Rattle.design_grammar.specs.Implementing.{reported_alike, countless, behind_countless, expect_implements, name_implements, count_implements, type_word_implements, then_implements}
use Rattle.design_grammar.specs.Rules.{designs, token, a_type, field_rule, struct_rule, array_rule, level_rule, type_rule, type_first_set}
use Rattle.design_grammar.specs.Lists.{items_implements}
use Rattle.channel_types.specs.TypeGrammar.{check_of, end_in, field_in, struct_in, array_in, level_in, type_of, type_check}
use Rattle.design_types.specs.TypeReading.{bits, void, field, more_fields, struct_type, array_type, level, too_deep, type_at}

-- the readers of the rules that are called, with so many levels still to be opened
abbrev pub env : ℕ → ℕ → Parser Token
env d = nesting designs all_own type_check (no_level designs) NoTree (TooDeep designs) d

pub readable : (d : ℕ) → Readable designs (type_check d) (NestingTree designs all_own type_check (no_level designs) NoTree (TooDeep designs) d) (NestingBreak designs all_own type_check (no_level designs) NoTree (TooDeep designs) d) (env d)
readable d = nesting_readable designs designs_calls all_own type_check (no_level designs) NoTree (TooDeep designs) (no_base designs designs_calls) d (type_check d)

-- what a do-block reads is what the rule's reader does, with the value of its tree
abbrev pub Reading : {A : Type 0} → ℕ → Reader Token A → (Tree Token → A) → Rule → Kinds → Type 0
Reading d read value r also = Implements designs (type_check d) (env d) read value r also

-- what begins a type
starts_reported : AreReported designs (code TypeWord ∷ []) type_first_set
unfolding unwanted_rule
starts_reported = reported_alike (code TypeWord ∷ []) type_first_set (λ k. refl)

module _ (d : ℕ) where
  bits_implements : Reading d bits (leaf_by designs (λ x. (V.Bits (width_in x.1).0 (width_in x.1).1, x.0.1))) (token TypeWord) []
  unfolding bits
  bits_implements = map_implements designs (type_check d) (env d) (λ w. (V.Bits w.0.0 w.0.1, w.1)) (type_word_implements (type_check d) (env d) [] refl)

  void_implements : Reading d void (λ t. (V.Void, end_in t)) (token Void) (code TypeWord ∷ [])
  unfolding void
  void_implements = map_implements designs (type_check d) (env d) (λ end. (V.Void, end)) (expect_implements (type_check d) (env d) Void (code TypeWord ∷ []) refl refl refl)

  -- where the readers of the types in it are those of their rule
  module _ (calls : Reading d (type_at d) (type_of d) a_type []) where
    pub field_implements : Reading d (field (type_at d)) (field_in (type_of d)) field_rule []
    unfolding field
    field_implements =
        seq_implements designs (type_check d) (env d) _ _ (name_implements (type_check d) (env d)) (λ t. seq_implements designs (type_check d) (env d) _ _ (expect_implements (type_check d) (env d) Colon [] refl refl refl)
        (λ u. map_implements designs (type_check d) (env d) (λ found. record { name = leaf_by designs (λ x. word_in x.1) t; ty = found.0 }) calls))

    more_fields_implements : (f : Field) → Reading d (more_fields (type_at d) f) (λ t. f ∷ items (λ w. field_in (type_of d) (second w)) t) (star (token Comma ⟫ field_rule)) []
    unfolding word_kind
    more_fields_implements f =
        items_implements (type_check d) (env d) _ _ (readable d) (token Comma ⟫ field_rule) refl (then_implements (type_check d) (env d) Comma [] refl refl refl field_implements) (code Comma ∷ []) refl (f ∷ []) []

    struct_implements : (also : Kinds) → countless also ≡ true → Reading d (struct_type (type_at d)) (λ t. struct_in (type_of d) (second (second t))) struct_rule also
    unfolding struct_type
    struct_implements also reported =
        seq_implements designs (type_check d) (env d) _ _ (expect_implements (type_check d) (env d) Struct also reported refl refl) (λ t1.
        seq_implements designs (type_check d) (env d) _ _ (expect_implements (type_check d) (env d) Less [] refl refl refl) (λ t2.
        seq_implements designs (type_check d) (env d) _ _ field_implements (λ t3.
        seq_implements designs (type_check d) (env d) _ _ (more_fields_implements (field_in (type_of d) t3)) (λ t4.
        map_implements designs (type_check d) (env d) (λ e. (V.Struct (field_in (type_of d) t3 ∷ items (λ w. field_in (type_of d) (second w)) t4), e))
        (expect_implements (type_check d) (env d) Greater _ (behind_countless (star (token Comma ⟫ field_rule)) t4 [] refl refl) refl refl)))))

    array_implements : (also : Kinds) → countless also ≡ true → Reading d (array_type (type_at d)) (λ t. array_in (type_of d) (second (second t))) array_rule also
    unfolding array_type
    array_implements also reported =
        seq_implements designs (type_check d) (env d) _ _ (expect_implements (type_check d) (env d) Array also reported refl refl) (λ t1.
        seq_implements designs (type_check d) (env d) _ _ (expect_implements (type_check d) (env d) Less [] refl refl refl) (λ t2.
        seq_implements designs (type_check d) (env d) _ _ calls (λ t3.
        seq_implements designs (type_check d) (env d) _ _ (expect_implements (type_check d) (env d) Comma [] refl refl refl) (λ t4.
        seq_implements designs (type_check d) (env d) _ _ (count_implements (type_check d) (env d)) (λ t5.
        map_implements designs (type_check d) (env d) (λ e. (V.Array (type_of d t3).0 (leaf_by designs (λ x. number_in x.1) t5), e)) (expect_implements (type_check d) (env d) Greater [] refl refl refl))))))

    level_implements : Reading d (level (type_at d)) (level_in (type_of d)) level_rule []
    unfolding level
    level_implements =
        alt_implements designs (type_check d) (env d) (code TypeWord) refl bits_implements
        (alt_implements designs (type_check d) (env d) (code Void) refl void_implements
        (alt_implements designs (type_check d) (env d) (code Struct) refl (struct_implements (code Void ∷ code TypeWord ∷ []) refl) (array_implements (code Struct ∷ code Void ∷ code TypeWord ∷ []) refl)))

    checked_level : Reading d (checking (λ found. check_of found.0) (level (type_at d))) (λ t. level_in (type_of d) (inside t)) type_rule []
    unfolding word_kind
    checked_level =
        checked_implements designs (type_check d) (env d) 0 (λ found. check_of found.0) level_implements (λ t. refl)
        (λ ts t us e. first_there designs (type_check d) _ _ (env d) (readable d) level_rule refl refl [] ts t us e)

-- The reader of types reads what the grammar's reader does, to each depth.
pub type_implements : (d : ℕ) (check : Checks Token) → Implements designs check (env d) (type_at d) (type_of d) a_type []
unfolding type_at too_deep
type_implements zero check = record { at = λ ts. of ts (among type_first_set (first_kind designs ts)) }
  where
    of : (ts : Lexemes Token) (b : Bool) → Err (if b then record { number = rule_number TooManyOpenTypes; at = first_place ts } else refused designs (code TypeWord ∷ []) ts)
        ≡ read_of designs (type_of zero) (if b then Err (broken (record { number = rule_number TooManyOpenTypes; at = first_place ts }) ts) else Err (unwanted type_first_set ts))
    of ts true = refl
    of ts false = ap (λ n. Err (record { number = n; at = first_place ts })) (starts_reported.same (first_token designs ts))
type_implements (suc d) check = record {
  at = λ ts. (checked_level d (type_implements d (type_check d))).at ts ∙ sym (read_of_wrap designs (type_of (suc d)) node (parse designs (type_check d) (env d) type_rule [] ts));
}
