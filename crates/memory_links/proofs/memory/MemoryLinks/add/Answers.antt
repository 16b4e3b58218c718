use Rattle.memory_links.proofs.HeldLaws.{Held, held_of, held_added}
use Rattle.memory_links.proofs.memory.MemoryLinks.add.Goals as goal

pub invariant_of-self : goal.invariant_of-self
invariant_of-self c =
    let after : Held c.add.new.self = held_added c.add.result c.args.self.now.player c.add.new.self c.args.step c.requires.sized c.requires.few (held_of c.args.self.now) c.add.ensures.added c.add.ensures.kept in
    record { numbered = after.numbered; few = after.few; places = after.places; sized = after.sized; fresh = after.fresh; sent = after.sent }
