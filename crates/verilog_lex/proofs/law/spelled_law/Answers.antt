use Rattle.verilog_lex.specs.SpelledLaw.{spelled_again}
use Rattle.verilog_lex.proofs.law.spelled_law.Goals as goal

pub returns : goal.returns
returns c = λ text ts h. spelled_again h 0
