-- What `format` promises holds, and only what its file is read for counts.
use Rattle.std.specs.Prelude.{◌≡◌, ℕ, List, [], ◌∷◌, Result, Ok, Err, refl}
use Rattle.std.proofs.Common.{ap}
use Rattle.esi_base.specs.declared.place.Refusal.{Refusal}
use Rattle.design_tree.specs.declared.design.DesignTree.{DesignTree}
use Rattle.design_roundtrip.specs.RoundTrip.{ReadsBackAs, reads_back}
use Rattle.design_expressions.specs.declared.limits.TheConstants.{OPEN_EXPRESSIONS}
use Rattle.esi_text.specs.Designs.{design_of}
use Rattle.esi_text.specs.MeaningLaws.{means_text, means_refusal, design_is_written}
use Rattle.esi_text.specs.declared.limits.TheConstants.{LONGEST_DESIGN}
use Rattle.command_runs.specs.Account.{cut_texts}
use Rattle.esi_commands.specs.Cuts.{design_cut}
use Rattle.esi_commands.specs.Format.{printed, formats, format_meaning, FormatPromise}
use Rattle.esi_commands.specs.Texts.{text_at}

pub format_cut : (texts : List (List ℕ)) → format_meaning (cut_texts (LONGEST_DESIGN ∷ []) texts) ≡ format_meaning texts
format_cut [] = refl
format_cut (design ∷ others) = ap formats (design_cut design)

-- the canonical text of what a text means is read as that design again
printed_again : (text : List ℕ) (tree : DesignTree) → design_of text ≡ Ok tree → ∥ ReadsBackAs OPEN_EXPRESSIONS (printed tree) tree ∥₁
printed_again text tree means = ∣ reads_back OPEN_EXPRESSIONS tree (design_is_written OPEN_EXPRESSIONS text tree (means_text text tree means).1) (printed tree) refl ∣₁

promised : (texts : List (List ℕ)) (meaning : Result DesignTree Refusal) → design_of (text_at texts 0) ≡ meaning → FormatPromise texts (formats meaning)
promised texts (Ok tree) means = record {
  tree = tree;
  means = means;
  is_text = (means_text (text_at texts 0) tree means).1;
  lines = refl;
  again = printed_again (text_at texts 0) tree means;
}
promised texts (Err refusal) means = record { first = refl; refused = means; stops = means_refusal (text_at texts 0) refusal means }

pub format_promised : (texts : List (List ℕ)) → FormatPromise texts (format_meaning texts)
format_promised texts = promised texts (design_of (text_at texts 0)) refl
