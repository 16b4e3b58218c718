use Rattle.memory_links.proofs.HeldLaws.{Held, held_of, held_send}
use Rattle.memory_links.proofs.memory.MemoryLinksLinks.send.Goals as goal

pub invariant_of-self : goal.invariant_of-self
invariant_of-self c =
    let after : Held c.send.new.self = held_send c.send.result c.args.self.now.player c.send.new.self c.args.conn c.args.octets.now c.requires (held_of c.args.self.now) c.send.ensures.count c.send.ensures.state c.send.ensures.kept in
    record { numbered = after.numbered; few = after.few; places = after.places; sized = after.sized; fresh = after.fresh; sent = after.sent }
