use Rattle.std.proofs.Common.{arith}
use Rattle.flat_checks.specs.Marks.{marked_none, channels_more, channels_all}
use Rattle.flat_checks.proofs.marks.mark_all.Goals as goal

pub loop-channel-init : goal.loop-channel-init
loop-channel-init c = marked_none c.args.marks.now

pub loop-channel-preserved : goal.loop-channel-preserved
loop-channel-preserved c = channels_more c.args.marks.now c.loop-channel.marks c.mark.new.marks c.args.channels.now c.loop-channel.channel-index _ c.loop-channel-test.true c.loop-channel.invariant (c.mark.ensures c.if-not-mark.false)

pub returns : goal.returns
returns c = λ t. channels_all c.args.marks.now c.loop-channel.marks c.args.channels.now c.loop-channel.channel-index (omega arith) c.loop-channel.invariant
