use Rattle.std.proofs.Common.{arith, sym}
use Rattle.esi_links.proofs.LogSteps.{next_at, left_more}
use Rattle.esi_links.proofs.sure_links.take_event.Goals as goal

pub returns-then-given-len-clause-first : goal.returns-then-given-len-clause-first
returns-then-given-len-clause-first c = sym (next_at c.args.events.now c.args.given.now c.set-event.result c.set-event.ensures.old_item)

pub returns-then-given-len-clause-left : goal.returns-then-given-len-clause-left
returns-then-given-len-clause-left c = grind (arith, left_more)
