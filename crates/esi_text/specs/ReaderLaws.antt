-- The clauses of the reader of design texts: what an answer is that is the text's meaning, and what a design keeps.
use Rattle.std.proofs.Common.{◌≡◌, ◌↔◌, ◌<◌, ◌≤◌, ℕ, List, length, map, Result, Ok, Err, refl, sym, ap, ◌∙◌, subst, inl, inr, IfOk}
use Rattle.std.specs.Prelude.{All}
use Rattle.std.proofs.Math.Logic.{∥∥₁_map}
use Rattle.std.proofs.lemmas.Bool.{cases_lt}
use Rattle.esi_base.specs.Answers.{AnswersAs, IfRefused}
use Rattle.esi_base.specs.declared.place.Refusal.{Refusal}
use Rattle.esi_base.specs.declared.stop.Stop.{Stop}
use Rattle.esi_base.specs.declared.stop.Stop.TheVariants.{Refused, NoMemory}
use Rattle.design_lex.specs.Tokens.{tokens}
use Rattle.channel_types.specs.Types.{IsGoodType}
use Rattle.design_tree.specs.declared.design.DesignTree.{DesignTree}
use Rattle.design_tree.specs.Tokens.{tokens_of}
use Rattle.design_printer.specs.Canonical.{canonical}
use Rattle.design_roundtrip.specs.RoundTrip.{design_of_tree, IsWritten, SameButOffsets, ReadsBackAs, reads_back}
use Rattle.esi_text.specs.declared.design.Design.{Design}
use Rattle.esi_text.specs.declared.limits.TheConstants.{LONGEST_DESIGN}
use Rattle.esi_text.specs.declared.rule.DesignRule.TheVariants.{TooLong}
use Rattle.esi_text.specs.DesignAnswers.{tree_of}
use Rattle.esi_text.specs.DesignNumbers.{stop_has_number, never_too_long, too_long_has_number}
use Rattle.esi_text.specs.Designs.{too_long, meaning_of_tokens, design_of_depth, IsDesignTextOfDepth, StopsToBeDesignOfDepth}
use Rattle.esi_text.specs.MeaningLaws.{not_both, err_is, meaning_of_short, meaning_of_long, refused_of_tokens, only_of_tokens, text_of_meaning, types_are_good, tokens_are_written, design_is_written, reread_meaning, reread_is}
use Rattle.esi_text.specs.RuleNumbers.{rule_number, IsDesignNumber}
use Rattle.esi_text.specs.TypesIn.{types_in}

-- so many expressions may be open at a place
module _ (depth : ℕ) where
  -- what is read is a text of the grammar
  pub reads_found : (text : List ℕ) (result : Result Design (Stop Refusal)) → AnswersAs tree_of (design_of_depth depth text) result → IfOk result (λ design. IsDesignTextOfDepth depth text design.tree)
  reads_found text (Ok design) r = (text_of_meaning depth text design.tree r).1
  reads_found text (Err stop) r = tt

  -- each text of the grammar that is not too long is read
  pub reads_only : (text : List ℕ) (result : Result Design (Stop Refusal)) (tree : DesignTree) → AnswersAs tree_of (design_of_depth depth text) result → length text ≤ LONGEST_DESIGN → IsDesignTextOfDepth depth text tree
      → AnswersAs tree_of (Ok tree) result
  reads_only text result tree r h o = subst (λ (z : Result DesignTree Refusal). AnswersAs tree_of z result) (meaning_of_short depth text h ∙ only_of_tokens depth text tree o) r

  -- a text that is not too long is refused where it stops to be one of the grammar
  pub reads_refused : (text : List ℕ) (result : Result Design (Stop Refusal)) → AnswersAs tree_of (design_of_depth depth text) result → length text ≤ LONGEST_DESIGN → IfRefused result (StopsToBeDesignOfDepth depth text)
  reads_refused text (Ok design) r h = tt
  reads_refused text (Err (Refused refusal)) r h = refused_of_tokens depth text refusal (meaning_of_tokens depth text) refl (sym (meaning_of_short depth text h) ∙ r)
  reads_refused text (Err NoMemory) r h = tt

  -- the tokens of what is read are those of the text,
  pub reads_written : (text : List ℕ) (result : Result Design (Stop Refusal)) → AnswersAs tree_of (design_of_depth depth text) result → IfOk result (λ design. map (λ x. x.1) (tokens text 0) ≡ tokens_of design.tree)
  reads_written text (Ok design) r = tokens_are_written depth text design.tree (text_of_meaning depth text design.tree r).1
  reads_written text (Err stop) r = tt

  -- and each type in it is good
  pub reads_good : (text : List ℕ) (result : Result Design (Stop Refusal)) → AnswersAs tree_of (design_of_depth depth text) result → IfOk result (λ design. All IsGoodType (types_in design.tree))
  reads_good text (Ok design) r = types_are_good depth text design.tree (text_of_meaning depth text design.tree r).1
  reads_good text (Err stop) r = tt

  -- a refusal has one of the numbers of a design text
  pub reads_numbers : (text : List ℕ) (result : Result Design (Stop Refusal)) → AnswersAs tree_of (design_of_depth depth text) result → IfRefused result (λ refusal. IsDesignNumber refusal.number)
  reads_numbers text (Ok design) r = tt
  reads_numbers text (Err (Refused refusal)) r =
      elim (cases_lt LONGEST_DESIGN (length text)) [
        | inl h ↦ subst (λ z. IsDesignNumber z.number) (err_is too_long refusal (sym (meaning_of_long depth text h) ∙ r)) too_long_has_number
        | inr h ↦ stop_has_number depth text refusal (refused_of_tokens depth text refusal (meaning_of_tokens depth text) refl (sym (meaning_of_short depth text h) ∙ r))
      ]
  reads_numbers text (Err NoMemory) r = tt

  -- a text that is too long is refused for that
  pub reads_too_long : (text : List ℕ) (result : Result Design (Stop Refusal)) → AnswersAs tree_of (design_of_depth depth text) result → LONGEST_DESIGN < length text → AnswersAs tree_of (Err too_long) result
  reads_too_long text result r h = subst (λ (z : Result DesignTree Refusal). AnswersAs tree_of z result) (meaning_of_long depth text h) r

  -- the number of that rule says that the text is too long, and nothing else
  pub reads_only_too_long : (text : List ℕ) (result : Result Design (Stop Refusal)) → AnswersAs tree_of (design_of_depth depth text) result → IfRefused result (λ refusal. (refusal.number ≡ rule_number TooLong) ↔ (LONGEST_DESIGN < length text))
  reads_only_too_long text (Ok design) r = tt
  reads_only_too_long text (Err (Refused refusal)) r = (
    (λ e. elim (cases_lt LONGEST_DESIGN (length text)) [
      | inl h ↦ h
      | inr h ↦ absurd (never_too_long depth text refusal (refused_of_tokens depth text refusal (meaning_of_tokens depth text) refl (sym (meaning_of_short depth text h) ∙ r)) e)
    ]),
    (λ h. ap (λ x. x.number) (err_is refusal too_long (sym r ∙ meaning_of_long depth text h))),
  )
  reads_only_too_long text (Err NoMemory) r = tt

  -- the printed text of a design is read as the same design, places aside,
  pub reads_again : (text : List ℕ) (result : Result Design (Stop Refusal)) (tree : DesignTree) → AnswersAs tree_of (design_of_depth depth text) result → IsWritten depth tree → text ≡ canonical (tokens_of tree)
      → IfOk result (λ design. SameButOffsets depth tree design.tree)
  reads_again text (Ok design) tree r w e = let o = reads_back depth tree w text e in subst (λ z. SameButOffsets depth tree z) (reread_is depth text tree design.tree o r) o.same
  reads_again text (Err stop) tree r w e = tt

  -- is refused only where it is too long,
  pub reads_never_refused : (text : List ℕ) (result : Result Design (Stop Refusal)) (tree : DesignTree) → AnswersAs tree_of (design_of_depth depth text) result → IsWritten depth tree → text ≡ canonical (tokens_of tree)
      → IfRefused result (λ refusal. LONGEST_DESIGN < length text)
  reads_never_refused text (Ok design) tree r w e = tt
  reads_never_refused text (Err (Refused refusal)) tree r w e =
      elim (cases_lt LONGEST_DESIGN (length text)) [
        | inl h ↦ h
        | inr h ↦ absurd (let o = reads_back depth tree w text e in not_both (design_of_tree depth o.tree) refusal (sym (reread_meaning depth text tree o h) ∙ r))
      ]
  reads_never_refused text (Err NoMemory) tree r w e = tt

  -- and is what that design is printed as
  pub reads_printed_again : (text : List ℕ) (result : Result Design (Stop Refusal)) (tree : DesignTree) → AnswersAs tree_of (design_of_depth depth text) result → IsWritten depth tree → text ≡ canonical (tokens_of tree)
      → IfOk result (λ design. canonical (tokens_of design.tree) ≡ text)
  reads_printed_again text (Ok design) tree r w e =
      let o = reads_back depth tree w text e in
      ap (λ z. canonical (tokens_of z)) (sym (reread_is depth text tree design.tree o r)) ∙ (ap canonical o.written ∙ sym e)
  reads_printed_again text (Err stop) tree r w e = tt

  -- ---- what a design keeps

  pub keeps_text : (text kept : List ℕ) (tree : DesignTree) → kept ≡ text → design_of_depth depth text ≡ Ok tree → IsDesignTextOfDepth depth kept tree
  keeps_text text kept tree same e = subst (λ z. IsDesignTextOfDepth depth z tree) (sym same) (text_of_meaning depth text tree e).1

  pub keeps_short : (text kept : List ℕ) (tree : DesignTree) → kept ≡ text → design_of_depth depth text ≡ Ok tree → length kept ≤ LONGEST_DESIGN
  keeps_short text kept tree same e = subst (λ z. length z ≤ LONGEST_DESIGN) (sym same) (text_of_meaning depth text tree e).0

  pub keeps_good : (text : List ℕ) (tree : DesignTree) → design_of_depth depth text ≡ Ok tree → All IsGoodType (types_in tree)
  keeps_good text tree e = types_are_good depth text tree (text_of_meaning depth text tree e).1

  -- so its printed text is read as that design again, places aside
  design_again : (text : List ℕ) (tree : DesignTree) → ∥ IsDesignTextOfDepth depth text tree ∥₁ → (printed : List ℕ) → printed ≡ canonical (tokens_of tree) → ∥ ReadsBackAs depth printed tree ∥₁
  design_again text tree kept printed e = ∥∥₁_map kept (λ o. reads_back depth tree (design_is_written depth text tree o) printed e)

  pub prints_again : {E : Type 0} (text : List ℕ) (tree : DesignTree) → ∥ IsDesignTextOfDepth depth text tree ∥₁ → (result : Result (List ℕ) E) → IfOk result (λ printed. printed ≡ canonical (tokens_of tree))
      → IfOk result (λ printed. ∥ ReadsBackAs depth printed tree ∥₁)
  prints_again text tree kept (Ok printed) e = design_again text tree kept printed e
  prints_again text tree kept (Err stop) e = tt
