use Rattle.verilog_lex.specs.CutLaw.{tokens_cut}
use Rattle.verilog_lex.specs.CutOnly.{tokens_only}
use Rattle.verilog_lex.proofs.law.tokens_law.Goals as goal

pub returns : goal.returns
returns c = record { is_cut = tokens_cut; only_cut = tokens_only }
