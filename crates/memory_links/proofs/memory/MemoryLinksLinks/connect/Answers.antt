use Rattle.std.proofs.Common.{sym, subst}
use Rattle.memory_links.proofs.HeldLaws.{Held, held_of, held_connect}
use Rattle.memory_links.proofs.memory.MemoryLinksLinks.connect.Goals as goal

pub invariant_of-self : goal.invariant_of-self
invariant_of-self c =
    let after : Held c.connect.new.self = subst Held (sym c.connect.ensures.state) (held_connect c.args.self.now.player (held_of c.args.self.now)) in
    record { numbered = after.numbered; few = after.few; places = after.places; sized = after.sized; fresh = after.fresh; sent = after.sent }

pub returns-clause-cause : goal.returns-clause-cause
returns-clause-cause c = record { later = λ address. c.connect.ensures.later; fault = c.connect.ensures.rose }

pub returns-clause-nexts : goal.returns-clause-nexts
returns-clause-nexts c = c.connect.ensures.later
