use Rattle.std.proofs.Common.{◌∙◌}
use Rattle.flat_design.proofs.Counting.{number_more}
use Rattle.flat_design.proofs.laying.numbers.Goals as goal

pub loop-number-preserved : goal.loop-number-preserved
loop-number-preserved c = number_more c.loop-number.numbers c.add.new.self c.loop-number.number c.args.count c.loop-number-test.true c.in_ok-add.ensures.added ∙ c.loop-number.invariant
