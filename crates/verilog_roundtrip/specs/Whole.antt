-- The text of a module is cut into the module's tokens.
use Rattle.std.specs.Prelude.{◌≡◌}
use Rattle.std.proofs.Common.{sym, subst}
use Rattle.verilog_lex.specs.Spelled.{Spells, tokens_in}
use Rattle.verilog_lex.specs.SpelledLaw.{spelled_again}
use Rattle.verilog_lex.specs.Tokens.{tokens}
use Rattle.verilog_module.specs.Good.{IsGoodModule}
use Rattle.verilog_module.specs.Modules.{Module}
use Rattle.verilog_module.specs.Tokens.{tokens_of}
use Rattle.verilog_text.specs.Layout.{module_pieces}
use Rattle.verilog_text.specs.LayoutLaws.{pieces_are_tokens}
use Rattle.verilog_text.specs.Texts.{module_text}
use Rattle.verilog_roundtrip.specs.Apart.{AreSpelled, pieces_spell}
use Rattle.verilog_roundtrip.specs.GoodTokens.{good_spelled}
use Rattle.verilog_roundtrip.specs.Sections.{module_apart}

-- The text of a module whose tokens can be spelled is cut into those tokens.
abbrev pub TextsAreCut : Type 0
TextsAreCut = (m : Module) → AreSpelled (tokens_of m) → tokens_in (tokens (module_text m) 0) ≡ tokens_of m

-- So is the text of a good module.
abbrev pub GoodTextsAreCut : Type 0
GoodTextsAreCut = (m : Module) → IsGoodModule m → tokens_in (tokens (module_text m) 0) ≡ tokens_of m

spelled : (m : Module) → AreSpelled (tokens_of m) → Spells (module_text m) (tokens_of m)
spelled m h =
    subst (λ ts. Spells (module_text m) ts) (pieces_are_tokens m) (pieces_spell (module_pieces m) (subst AreSpelled (sym (pieces_are_tokens m)) h) (module_apart m))

pub texts_are_cut : TextsAreCut
texts_are_cut m h = spelled_again (spelled m h) 0

pub good_texts_are_cut : GoodTextsAreCut
good_texts_are_cut m g = texts_are_cut m (good_spelled m g)
