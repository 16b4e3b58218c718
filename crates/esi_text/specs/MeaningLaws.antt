-- What a design text means is what the grammar says of it: laws of the meaning, whoever reads the text.
use Rattle.std.proofs.Common.{◌≡◌, ◌<◌, ◌≤◌, ℕ, true, false, List, [], ◌∷◌, length, drop, map, Result, Ok, Err, refl, sym, ap, ◌∙◌, subst, inl, inr}
use Rattle.std.specs.Prelude.{All, ◌⊎◌}
use Rattle.std.proofs.Math.Dec.{ltb}
use Rattle.std.proofs.lemmas.Bool.{lt-ltb, le-ltb, cases_lt}
use Rattle.ll1_grammar.specs.Rule.{Kinds, Tree}
use Rattle.ll1_grammar.specs.Kinds.{among, follow_of}
use Rattle.ll1_grammar.specs.declared.refusal.TokenRefusal.{TokenRefusal}
use Rattle.ll1_grammar.specs.Among.{is_false, true_false}
use Rattle.ll1_grammar.specs.FollowSets.{bound}
use Rattle.ll1_grammar.specs.WithoutLimits.{no_check}
use Rattle.ll1_grammar.specs.WholeTexts.{IsTextOf, found, only, stops}
use Rattle.ll1_grammar.specs.Lexemes.{Lexemes}
use Rattle.ll1_grammar.specs.Readers.{Read, refused, read_to_end}
use Rattle.ll1_grammar.specs.Bridge.{AreReported, Implements}
use Rattle.esi_base.specs.Answers.{StopsAs}
use Rattle.esi_base.specs.declared.place.Refusal.{Refusal}
use Rattle.esi_base.specs.declared.stop.Stop.{Stop}
use Rattle.esi_base.specs.declared.stop.Stop.TheVariants.{Refused, NoMemory}
use Rattle.design_lex.specs.Spellings.{AreSpelled}
use Rattle.design_lex.specs.WordTexts.{words_spelled}
use Rattle.design_lex.specs.Tokens.{tokens}
use Rattle.design_lex.specs.declared.token.Token.{Token}
use Rattle.design_grammar.specs.declared.kind.Kind.TheVariants.{Nothing, Name, One, Small}
use Rattle.design_grammar.specs.declared.rule.GrammarRule.TheVariants.{UnexpectedToken}
use Rattle.design_grammar.specs.Kinds.{code, unwanted}
use Rattle.design_grammar.specs.Rules.{designs, design_rule}
use Rattle.design_grammar.specs.Decided.{is_plain_design, called_bound}
use Rattle.design_grammar.specs.Implementing.{reported_alike}
use Rattle.channel_types.specs.Types.{IsGoodType}
use Rattle.channel_types.specs.TypeAnswers.{refusal_at}
use Rattle.channel_types.specs.declared.limits.TheConstants.{OPEN_TYPES}
use Rattle.design_tree.specs.declared.design.DesignTree.{DesignTree}
use Rattle.design_tree.specs.Tokens.{tokens_of}
use Rattle.design_expressions.specs.ExpressionTrees.{ExpressionTree, ExpressionBreak, expression_env, expression_readable}
use Rattle.design_expressions.specs.declared.limits.TheConstants.{OPEN_EXPRESSIONS}
use Rattle.design_reader.specs.DesignReading.{design_at}
use Rattle.design_reader.specs.DesignSteps.{designs_read}
use Rattle.design_roundtrip.specs.RoundTrip.{design_of_tree, IsWritten, tree_tokens, text_written, ReadsBackAs}
use Rattle.esi_text.specs.declared.limits.TheConstants.{LONGEST_DESIGN}
use Rattle.esi_text.specs.TypesIn.{types_in}
use Rattle.esi_text.specs.TypesGood.{all_good}
use Rattle.esi_text.specs.Designs.{too_long, meaning_in, stop_in, design_by_grammar, meaning_of_tokens, design_of_depth, design_of, IsDesignTextOfDepth, StopsToBeDesignOfDepth, IsDesignText, StopsToBeDesign, OneDesign}

-- ---- the lexemes of a whole text

-- where neither a name nor the version nor a count may stand, each token breaks the same rule
none_wanted : (ks : Kinds) (k : ℕ) → among ks (code Name) ≡ false → among ks (code One) ≡ false → among ks (code Small) ≡ false → unwanted ks k ≡ UnexpectedToken
unfolding unwanted
none_wanted ks k a b c = rw (a, b, c) refl

-- no token may stand after a design
nothing_goes : (t : Tree Token) (k : ℕ) → among (follow_of designs design_rule t) k ≡ false
nothing_goes t k = is_false _ (λ m. true_false _ (bound designs called_bound design_rule t k m) refl)

none_reported : (t : Tree Token) → AreReported designs (code Nothing ∷ []) (follow_of designs design_rule t)
none_reported t =
    reported_alike (code Nothing ∷ []) (follow_of designs design_rule t)
    (λ k. none_wanted (code Nothing ∷ []) k refl refl refl ∙ sym (none_wanted (follow_of designs design_rule t) k (nothing_goes t (code Name)) (nothing_goes t (code One)) (nothing_goes t (code Small))))

-- an answer is not both
pub not_both : (tree : DesignTree) (refusal : Refusal) → let a : Result DesignTree Refusal = Ok tree in let b : Result DesignTree Refusal = Err refusal in a ≡ b → ⊥
not_both tree refusal e = cc

pub ok_is : (a b : DesignTree) → let x : Result DesignTree Refusal = Ok a in let y : Result DesignTree Refusal = Ok b in x ≡ y → a ≡ b
ok_is a b e = cc

one_value : (a b : DesignTree) → let x : Result DesignTree TokenRefusal = Ok a in let y : Result DesignTree TokenRefusal = Ok b in x ≡ y → a ≡ b
one_value a b e = cc

pub err_is : (a b : Refusal) → let x : Result DesignTree Refusal = Err a in let y : Result DesignTree Refusal = Err b in x ≡ y → a ≡ b
err_is a b e = cc

-- so many expressions may be open at a place
module _ (depth : ℕ) where
  -- the grammar's reader is the law's, seen by what its trees say,
  by_grammar : Implements designs no_check (expression_env depth) (design_by_grammar depth) (design_of_tree depth) design_rule []
  unfolding design_by_grammar
  by_grammar = record { at = λ ts. refl }

  -- and what the readers read step by step is what it reads
  pub steps_read : (text : List ℕ) → read_to_end designs (code Nothing ∷ []) (design_at OPEN_TYPES depth (tokens text 0)) ≡ meaning_of_tokens depth text
  unfolding design_by_grammar
  steps_read text = ap (λ z. read_to_end designs (code Nothing ∷ []) z) ((designs_read depth).at (tokens text 0))

  -- what is read is a text of the grammar, each such text is read, and all else stops there to be one
  tokens_found : (text : List ℕ) (tree : DesignTree) → meaning_of_tokens depth text ≡ Ok tree → IsDesignTextOfDepth depth text tree
  tokens_found text tree e = of (found designs no_check (ExpressionTree depth) (ExpressionBreak depth) (expression_env depth) (expression_readable depth no_check) design_rule is_plain_design (design_of_tree depth) (design_by_grammar depth) by_grammar (code Nothing ∷ []) none_reported (tokens text 0) tree e)
    where
      of : IsTextOf designs no_check (ExpressionTree depth) design_rule (design_of_tree depth) (tokens text 0) tree → IsDesignTextOfDepth depth text tree
      of o = record { tree = o.tree; is_text = o.text; says = o.is }

  tokens_only : (text : List ℕ) (tree : DesignTree) → IsDesignTextOfDepth depth text tree → meaning_of_tokens depth text ≡ Ok tree
  tokens_only text tree o =
      only designs no_check (ExpressionTree depth) (ExpressionBreak depth) (expression_env depth) (expression_readable depth no_check) design_rule is_plain_design (design_of_tree depth) (design_by_grammar depth) by_grammar (code Nothing ∷ []) none_reported (tokens text 0) tree
      (record { tree = o.tree; text = o.is_text; is = o.says })

  tokens_refused : (text : List ℕ) (token_refusal : TokenRefusal) → meaning_of_tokens depth text ≡ Err token_refusal → StopsToBeDesignOfDepth depth text (refusal_at text token_refusal)
  tokens_refused text token_refusal e = record {
    token_refusal = token_refusal;
    stops = stops designs no_check (ExpressionTree depth) (ExpressionBreak depth) (expression_env depth) (expression_readable depth no_check) design_rule is_plain_design (design_of_tree depth) (design_by_grammar depth) by_grammar (code Nothing ∷ []) none_reported (tokens text 0) token_refusal e;
    is_reported = refl;
  }

  -- ---- texts and what they mean

  -- a text that is not too long means what its lexemes do
  pub meaning_of_short : (text : List ℕ) → length text ≤ LONGEST_DESIGN → design_of_depth depth text ≡ meaning_in text (meaning_of_tokens depth text)
  unfolding design_of_depth
  meaning_of_short text h = let e : ltb LONGEST_DESIGN (length text) ≡ false = le-ltb LONGEST_DESIGN (length text) h in rw e refl

  -- a text that is too long is refused
  pub meaning_of_long : (text : List ℕ) → LONGEST_DESIGN < length text → design_of_depth depth text ≡ Err too_long
  unfolding design_of_depth
  meaning_of_long text h = let e : ltb LONGEST_DESIGN (length text) ≡ true = lt-ltb LONGEST_DESIGN (length text) h in rw e refl

  -- what the lexemes tell
  found_of_tokens : (text : List ℕ) (tree : DesignTree) (read : Result DesignTree TokenRefusal) → meaning_of_tokens depth text ≡ read → meaning_in text read ≡ Ok tree → IsDesignTextOfDepth depth text tree
  found_of_tokens text tree (Ok other) e f = subst (λ z. IsDesignTextOfDepth depth text z) (ok_is other tree f) (tokens_found text other e)
  found_of_tokens text tree (Err token_refusal) e f = absurd (not_both tree (refusal_at text token_refusal) (sym f))

  pub refused_of_tokens : (text : List ℕ) (refusal : Refusal) (read : Result DesignTree TokenRefusal) → meaning_of_tokens depth text ≡ read → meaning_in text read ≡ Err refusal → StopsToBeDesignOfDepth depth text refusal
  refused_of_tokens text refusal (Ok tree) e f = absurd (not_both tree refusal f)
  refused_of_tokens text refusal (Err token_refusal) e f = subst (λ z. StopsToBeDesignOfDepth depth text z) (err_is (refusal_at text token_refusal) refusal f) (tokens_refused text token_refusal e)

  pub only_of_tokens : (text : List ℕ) (tree : DesignTree) → IsDesignTextOfDepth depth text tree → meaning_in text (meaning_of_tokens depth text) ≡ Ok tree
  only_of_tokens text tree o = ap (meaning_in text) (tokens_only text tree o)

  -- what a text means that has a design
  pub text_of_meaning : (text : List ℕ) (tree : DesignTree) → design_of_depth depth text ≡ Ok tree → (length text ≤ LONGEST_DESIGN) × IsDesignTextOfDepth depth text tree
  text_of_meaning text tree e =
      elim (cases_lt LONGEST_DESIGN (length text)) [
        | inl h ↦ absurd (not_both tree too_long (sym e ∙ meaning_of_long text h))
        | inr h ↦ (h, found_of_tokens text tree (meaning_of_tokens depth text) refl (sym (meaning_of_short text h) ∙ e))
      ]

  -- each type in it is good
  pub types_are_good : (text : List ℕ) (tree : DesignTree) → IsDesignTextOfDepth depth text tree → All IsGoodType (types_in tree)
  types_are_good text tree o =
      subst (λ z. All IsGoodType (types_in z)) (sym o.says) (all_good depth o.tree o.is_text.0 (subst AreSpelled o.is_text.1 (words_spelled 0 (drop 0 text))))

  -- the text's tokens are those of the design
  pub tokens_are_written : (text : List ℕ) (tree : DesignTree) → IsDesignTextOfDepth depth text tree → map (λ x. x.1) (tokens text 0) ≡ tokens_of tree
  tokens_are_written text tree o = ap (λ z. map (λ x. x.1) z) o.is_text.1 ∙ (tree_tokens depth o.tree o.is_text.0 ∙ ap tokens_of (sym o.says))

  pub design_is_written : (text : List ℕ) (tree : DesignTree) → IsDesignTextOfDepth depth text tree → IsWritten depth tree
  design_is_written text tree o = text_written depth text tree o.tree o.is_text.0 o.is_text.1 o.says

  -- what the printed text of a design means: the design of a tree that differs in offsets alone
  pub reread_meaning : (text : List ℕ) (tree : DesignTree) → (r : ReadsBackAs depth text tree) → length text ≤ LONGEST_DESIGN → design_of_depth depth text ≡ Ok (design_of_tree depth r.tree)
  reread_meaning text tree r h = meaning_of_short text h ∙ only_of_tokens text (design_of_tree depth r.tree) (record { tree = r.tree; is_text = (r.fits, r.parts); says = refl })

  pub reread_is : (text : List ℕ) (tree other : DesignTree) → (r : ReadsBackAs depth text tree) → design_of_depth depth text ≡ Ok other → design_of_tree depth r.tree ≡ other
  reread_is text tree other r e = ok_is (design_of_tree depth r.tree) other (sym (reread_meaning text tree r (text_of_meaning text other e).0) ∙ e)

  -- ---- what the readers answer step by step, and what the text means

  meaning_read : (text : List ℕ) (ts : Lexemes Token) (read : Read Token DesignTree) → length text ≤ LONGEST_DESIGN → ts ≡ tokens text 0 → design_at OPEN_TYPES depth ts ≡ read
      → design_of_depth depth text ≡ meaning_in text (read_to_end designs (code Nothing ∷ []) read)
  meaning_read text ts read h at e =
      meaning_of_short text h ∙ ap (meaning_in text) (sym (steps_read text) ∙ ap (λ z. read_to_end designs (code Nothing ∷ []) z) (ap (λ z. design_at OPEN_TYPES depth z) (sym at) ∙ e))

  -- a design after which no token is left is what the text means,
  pub means_design : (text : List ℕ) (ts rest : Lexemes Token) (tree : DesignTree) → length text ≤ LONGEST_DESIGN → ts ≡ tokens text 0 → design_at OPEN_TYPES depth ts ≡ Ok (tree, rest) → rest ≡ []
      → design_of_depth depth text ≡ Ok tree
  means_design text ts [] tree h at e none = meaning_read text ts (Ok (tree, [])) h at e
  means_design text ts (y ∷ us) tree h at e none = absurd (cc)

  -- a token that is left is refused,
  pub means_left_over : (text : List ℕ) (ts rest : Lexemes Token) (tree : DesignTree) → length text ≤ LONGEST_DESIGN → ts ≡ tokens text 0 → design_at OPEN_TYPES depth ts ≡ Ok (tree, rest) → (rest ≡ [] → ⊥)
      → design_of_depth depth text ≡ Err (refusal_at text (refused designs (code Nothing ∷ []) rest))
  means_left_over text ts [] tree h at e some = absurd (some refl)
  means_left_over text ts (y ∷ us) tree h at e some = meaning_read text ts (Ok (tree, y ∷ us)) h at e

  -- and what stops the reader of the design stops that of the text
  pub means_stop : (text : List ℕ) (ts : Lexemes Token) (stop : Stop TokenRefusal) → length text ≤ LONGEST_DESIGN → ts ≡ tokens text 0 → StopsAs (design_at OPEN_TYPES depth ts) stop
      → StopsAs (design_of_depth depth text) (stop_in text stop)
  means_stop text ts (Refused token_refusal) h at e = meaning_read text ts (Err token_refusal) h at e
  means_stop text ts NoMemory h at e = tt

  -- no text has two designs
  one_of_depth : (text : List ℕ) (a b : DesignTree) → IsDesignTextOfDepth depth text a → IsDesignTextOfDepth depth text b → a ≡ b
  one_of_depth text a b o p = one_value a b (sym (tokens_only text a o) ∙ tokens_only text b p)

-- ---- the meaning of a text, and the relations between a text and its design or refusal

-- what means a design is not too long, and is a text of the grammar with that design,
pub means_text : (text : List ℕ) (tree : DesignTree) → design_of text ≡ Ok tree → (length text ≤ LONGEST_DESIGN) × IsDesignText text tree
means_text text tree e = text_of_meaning OPEN_EXPRESSIONS text tree e

-- and what means a refusal is too long, or stops there to be a design
pub means_refusal : (text : List ℕ) (refusal : Refusal) → design_of text ≡ Err refusal → ((LONGEST_DESIGN < length text) × (refusal ≡ too_long)) ⊎ StopsToBeDesign text refusal
means_refusal text refusal e =
    elim (cases_lt LONGEST_DESIGN (length text)) [
      | inl h ↦ inl (h, err_is refusal too_long (sym e ∙ meaning_of_long OPEN_EXPRESSIONS text h))
      | inr h ↦ inr (refused_of_tokens OPEN_EXPRESSIONS text refusal (meaning_of_tokens OPEN_EXPRESSIONS text) refl (sym (meaning_of_short OPEN_EXPRESSIONS text h) ∙ e))
    ]

-- no text has two designs
pub only_one : OneDesign
only_one text a b o p = one_of_depth OPEN_EXPRESSIONS text a b o p
