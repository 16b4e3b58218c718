use Rattle.std.proofs.Common.{[], ◌+◌, length}
use Rattle.element_order.specs.Reached.{Reach, unseen}
use Rattle.element_order.proofs.cycle.depends_on_itself.Given as goal

abbrev pub invariant-loop-waiting : goal.invariant-loop-waiting
invariant-loop-waiting l = Reach l.needs l.cleared l.start [] l.seen.items l.waiting.items

abbrev pub decreases-loop-waiting : goal.decreases-loop-waiting
decreases-loop-waiting l = unseen l.seen.items + length l.waiting.items
