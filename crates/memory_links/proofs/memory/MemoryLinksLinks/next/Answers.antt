use Rattle.memory_links.proofs.HeldLaws.{Held, held_of, held_next, told_sized}
use Rattle.memory_links.proofs.memory.MemoryLinksLinks.next.Goals as goal

pub invariant_of-self : goal.invariant_of-self
invariant_of-self c =
    let after : Held c.next.new.self = held_next c.next.result c.args.self.now.player c.next.new.self c.requires (held_of c.args.self.now) c.next.ensures.event c.next.ensures.told c.next.ensures.failed c.next.ensures.kept in
    record { numbered = after.numbered; few = after.few; places = after.places; sized = after.sized; fresh = after.fresh; sent = after.sent }

pub returns-clause-sized : goal.returns-clause-sized
returns-clause-sized c = told_sized c.next.result c.args.self.now.player (held_of c.args.self.now) c.next.ensures.event

pub returns-clause-cause : goal.returns-clause-cause
returns-clause-cause c = record { later = c.next.ensures.later; fault = c.next.ensures.rose }

pub returns-clause-opens : goal.returns-clause-opens
returns-clause-opens c = λ address. c.next.ensures.later
