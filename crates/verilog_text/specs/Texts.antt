-- The text of a module, and what is known of it.
use Rattle.std.specs.Prelude.{◌≡◌, ℕ, List}
use Rattle.verilog_module.specs.Modules.{Module}
use Rattle.verilog_module.specs.Tokens.{tokens_of}
use Rattle.verilog_text.specs.declared.piece.Piece.{Piece}
use Rattle.verilog_text.specs.Blanks.{text_of_pieces, tokens_in}
use Rattle.verilog_text.specs.Layout.{module_pieces}

-- the text of a module as it is printed
abbrev pub module_text : Module → List ℕ
module_text m = text_of_pieces (module_pieces m)

-- The text is the module's tokens in their order, each as it is spelled, with blanks between them and nothing else.
pub record IsLaidOut (m : Module) (text : List ℕ) : Type 0 where
  pub pieces : List Piece
  pub octets : text ≡ text_of_pieces pieces
  pub tokens : tokens_in pieces ≡ tokens_of m

-- so is the text of each module
abbrev pub TextsAreLaidOut : Type 0
TextsAreLaidOut = (m : Module) → IsLaidOut m (module_text m)
