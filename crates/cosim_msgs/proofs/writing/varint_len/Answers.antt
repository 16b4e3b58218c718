use Rattle.std.proofs.Common.{arith, ◌<◌, ◌^◌}
use Rattle.cosim_msgs.proofs.Lengths.{counting_begun, counting_more, counting_ended}
use Rattle.cosim_msgs.proofs.writing.varint_len.Goals as goal

pub loop-rest-init : goal.loop-rest-init
loop-rest-init c = let h : c.args.value < 2 ^ 64 = omega arith in counting_begun c.args.value h

pub loop-rest-preserved : goal.loop-rest-preserved
loop-rest-preserved c = counting_more c.args.value c.loop-rest.len c.loop-rest.rest c.loop-rest.invariant c.loop-rest-test.true

pub returns-clause-len : goal.returns-clause-len
returns-clause-len c = (counting_ended c.args.value c.loop-rest.len c.loop-rest.rest c.loop-rest.invariant c.loop-rest-test.false).0
