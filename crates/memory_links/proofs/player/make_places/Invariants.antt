use Rattle.std.proofs.Common.{◌≡◌, ◌∷◌, take}
use Rattle.std.specs.List.{flat_map}
use Rattle.memory_links.specs.Conns.{unopened}
use Rattle.memory_links.specs.Plays.{places}
use Rattle.memory_links.proofs.player.make_places.Given as goal

abbrev pub invariant-loop-step : goal.invariant-loop-step
invariant-loop-step l = l.conns.items ≡ unopened ∷ flat_map places (take l.step-index l.steps)
