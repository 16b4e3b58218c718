use Rattle.design_lex.specs.Digits.{value}
use Rattle.verilog_lex.specs.NumberSteps.{width_within}
use Rattle.verilog_lex.proofs.constants.constant_token.Goals as goal

pub word_of-requires-clause-low : goal.word_of-requires-clause-low
word_of-requires-clause-low c = (width_within (value 10 c.args.width.now) c.in-Some.width c.in-Some.ensures).0

pub word_of-requires-clause-high : goal.word_of-requires-clause-high
word_of-requires-clause-high c = (width_within (value 10 c.args.width.now) c.in-Some.width c.in-Some.ensures).1
