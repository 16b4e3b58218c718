use Rattle.std.proofs.Common.{◌≡◌, drop}
use Rattle.memory_links.specs.Plays.{from_event}
use Rattle.memory_links.proofs.step.next_event.Given as goal

abbrev pub invariant-loop-step : goal.invariant-loop-step
invariant-loop-step l = from_event (drop l.step-index l.steps) ≡ from_event l.steps
