use Rattle.memory_links.proofs.HeldLaws.{Held, held_of, held_dropped}
use Rattle.memory_links.proofs.memory.MemoryLinksLinks.drop_conn.Goals as goal

pub invariant_of-self : goal.invariant_of-self
invariant_of-self c =
    let after : Held c.drop_conn.new.self = held_dropped c.drop_conn.result c.args.self.now.player c.drop_conn.new.self c.args.conn c.requires (held_of c.args.self.now) c.drop_conn.ensures.state c.drop_conn.ensures.kept in
    record { numbered = after.numbered; few = after.few; places = after.places; sized = after.sized; fresh = after.fresh; sent = after.sent }
