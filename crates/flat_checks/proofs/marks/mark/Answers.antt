use Rattle.std.proofs.Common.{arith}
use Rattle.flat_checks.specs.Marks.{marked_one}
use Rattle.flat_checks.proofs.marks.mark.Goals as goal

pub returns : goal.returns
returns c = λ t. marked_one c.args.marks.now c.set.new.self c.args.channel c.set.result (omega arith) c.set.ensures.old_item c.if-set.false c.set.ensures.put
