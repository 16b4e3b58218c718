use Rattle.std.proofs.Common.{◌≡◌, ◌-◌, length}
use Rattle.element_order.specs.Worklists.{Walk}
use Rattle.element_order.proofs.order.element_order.Given as goal

abbrev pub invariant-loop-worklist : goal.invariant-loop-worklist
invariant-loop-worklist l = record {
  needs : l.worklist.needs.now ≡ l.needs;
  walk : Walk l.needs l.worklist.feeds.items l.worklist.placed l.worklist.ready.keys l.worklist.waits.items;
}

abbrev pub decreases-loop-worklist : goal.decreases-loop-worklist
decreases-loop-worklist l = length l.needs - length l.worklist.placed
