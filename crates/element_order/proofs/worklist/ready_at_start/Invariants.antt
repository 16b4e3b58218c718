use Rattle.element_order.specs.Worklists.{AreFound}
use Rattle.element_order.proofs.worklist.ready_at_start.Given as goal

abbrev pub invariant-loop-element : goal.invariant-loop-element
invariant-loop-element l = AreFound l.element l.waits l.ready.keys
