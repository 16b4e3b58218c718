use Rattle.std.proofs.Common.{sym, subst}
use Rattle.memory_links.proofs.HeldLaws.{Held, held_new}
use Rattle.memory_links.proofs.memory.MemoryLinks.from_log.Goals as goal

pub invariant_of-result : goal.invariant_of-result
invariant_of-result c =
    let after : Held c.in_ok-player.player = subst Held (sym c.in_ok-player.ensures) (held_new c.args.log.steps c.requires.sized c.requires.few) in
    record { numbered = after.numbered; few = after.few; places = after.places; sized = after.sized; fresh = after.fresh; sent = after.sent }
