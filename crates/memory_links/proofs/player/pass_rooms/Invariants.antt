use Rattle.std.proofs.Common.{◌≡◌, length}
use Rattle.memory_links.specs.Plays.{from_event, after_rooms}
use Rattle.memory_links.proofs.player.pass_rooms.Given as goal

abbrev pub invariant-loop : goal.invariant-loop
invariant-loop l = (from_event l.steps ≡ from_event l.fn.steps) × (after_rooms l.steps l.conns ≡ after_rooms l.fn.steps l.fn.conns)

abbrev pub decreases-loop : goal.decreases-loop
decreases-loop l = length l.steps
