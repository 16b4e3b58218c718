use Rattle.std.proofs.Common.{◌∙◌}
use Rattle.design_lex.specs.Digits.{value}
use Rattle.verilog_lex.specs.NumberSteps.{width_capped}
use Rattle.verilog_lex.proofs.numbers.width_of.Goals as goal

pub returns : goal.returns
returns c = c.width_in.ensures ∙ width_capped (value 10 c.args.digits.now) c.capped.result c.capped.ensures
