use Rattle.std.proofs.Common.{take}
use Rattle.flat_checks.specs.Marks.{IsMarked}
use Rattle.flat_checks.proofs.marks.mark_all.Given as goal

abbrev pub invariant-loop-channel : goal.invariant-loop-channel
invariant-loop-channel l = IsMarked l.fn.marks (take l.channel-index l.channels) l.marks
