use Rattle.std.proofs.Common.{◌≡◌, ◌≤◌, take}
use Rattle.std.specs.Prelude.{count_by}
use Rattle.memory_links.specs.Plays.{is_event}
use Rattle.memory_links.proofs.step.count_events.Given as goal

abbrev pub invariant-loop-step : goal.invariant-loop-step
invariant-loop-step l = (l.count ≡ count_by is_event (take l.step-index l.steps)) × (l.count ≤ l.step-index)
