-- What `format` is: the canonical text of the design that its file's text means.
use Rattle.std.specs.Prelude.{◌≡◌, ◌<◌, ◌⊎◌, ℕ, List, [], ◌∷◌, length, Result, Ok, Err}
use Rattle.esi_base.specs.declared.place.Refusal.{Refusal}
use Rattle.design_tree.specs.declared.design.DesignTree.{DesignTree}
use Rattle.design_tree.specs.Tokens.{tokens_of}
use Rattle.design_printer.specs.Canonical.{canonical}
use Rattle.design_roundtrip.specs.RoundTrip.{ReadsBackAs}
use Rattle.design_expressions.specs.declared.limits.TheConstants.{OPEN_EXPRESSIONS}
use Rattle.esi_text.specs.Designs.{design_of, IsDesignText, StopsToBeDesign, too_long}
use Rattle.esi_text.specs.declared.limits.TheConstants.{LONGEST_DESIGN}
use Rattle.command_runs.specs.Account.{Account}
use Rattle.command_runs.specs.Work.{Effects, Work}
use Rattle.command_runs.specs.declared.work.FileRefusal.{FileRefusal}
use Rattle.esi_commands.specs.Texts.{text_at, prints}

-- the canonical text of a design
abbrev pub printed : DesignTree → List ℕ
printed tree = canonical (tokens_of tree)

-- a design is printed, and a refusal blames the first word
abbrev pub formats : Result DesignTree Refusal → Work
formats (Ok tree) = Ok (prints (printed tree))
formats (Err refusal) = Err (record { word = 0; refusal = refusal })

abbrev pub format_meaning : List (List ℕ) → Work
format_meaning texts = formats (design_of (text_at texts 0))

-- A text is refused as too long, or it stops to be a design at the place of the refusal.
abbrev pub IsRefusedAs : List ℕ → Refusal → Type 0
IsRefusedAs text refusal = ((LONGEST_DESIGN < length text) × (refusal ≡ too_long)) ⊎ StopsToBeDesign text refusal

-- The text is one of the grammar, of the design that it means. What is printed is one too, of the same design, places aside.
pub record Formats (text : List ℕ) (effects : Effects) : Type 0 where
  pub tree : DesignTree
  pub means : design_of text ≡ Ok tree
  pub is_text : IsDesignText text tree
  pub lines : effects.lines ≡ printed tree
  pub again : ∥ ReadsBackAs OPEN_EXPRESSIONS effects.lines tree ∥₁

-- The first word is blamed, and its text is refused so: it is too long, or stops there to be one of the grammar.
pub record FormatRefuses (text : List ℕ) (file_refusal : FileRefusal) : Type 0 where
  pub first : file_refusal.word ≡ 0
  pub refused : design_of text ≡ Err file_refusal.refusal
  pub stops : IsRefusedAs text file_refusal.refusal

abbrev pub FormatPromise : List (List ℕ) → Work → Type 0
FormatPromise texts (Ok effects) = Formats (text_at texts 0) effects
FormatPromise texts (Err file_refusal) = FormatRefuses (text_at texts 0) file_refusal

-- `format DESIGN`
abbrev pub format_account : Account
format_account = record { words = 1; limits = LONGEST_DESIGN ∷ []; targets = []; ends = 0 ∷ []; meaning = format_meaning; promise = FormatPromise }
