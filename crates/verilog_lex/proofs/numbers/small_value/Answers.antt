use Rattle.std.proofs.Common.{◌∙◌, ◌^◌}
use Rattle.design_lex.specs.Digits.{value}
use Rattle.verilog_lex.specs.NumberSteps.{below_capped}
use Rattle.verilog_lex.proofs.numbers.small_value.Goals as goal

pub returns : goal.returns
returns c = c.small.ensures ∙ below_capped (2 ^ 32) (value 10 c.args.digits.now) c.capped.result c.capped.ensures
