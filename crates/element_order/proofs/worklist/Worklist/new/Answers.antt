use Rattle.std.proofs.Common.{subst, length}
use Rattle.element_order.specs.Worklists.{AreFound}
use Rattle.element_order.proofs.Placings.{walk_begins}
use Rattle.element_order.proofs.worklist.Worklist.new.Goals as goal

pub returns-clause-walk : goal.returns-clause-walk
returns-clause-walk c =
    let found = subst (λ ws. AreFound (length ws) ws c.in_ok-ready.ready.keys) c.as_slice.ensures.value c.in_ok-ready.ensures in
    let walk = walk_begins c.args.needs.now c.in_ok-feeds.feeds.items c.in_ok-ready.ready.keys c.in_ok-waits.waits.items c.in_ok-feeds.ensures c.in_ok-waits.ensures found in
    rw c.new.ensures walk
