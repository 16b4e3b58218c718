use Rattle.element_order.specs.Worklists.{AreNoted}
use Rattle.element_order.proofs.feeds.feeds_of.Given as goal

abbrev pub invariant-loop-element : goal.invariant-loop-element
invariant-loop-element l = AreNoted l.needs l.element l.feeds.items
