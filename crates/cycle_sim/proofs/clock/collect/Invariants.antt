use Rattle.std.proofs.Common.{◌≤◌, ◌-◌, length}
use Rattle.cycle_sim.proofs.clock.collect.Given as goal
use Rattle.cycle_sim.specs.Clocks.{AreWords, IsCollected}

abbrev pub invariant-loop-register : goal.invariant-loop-register
invariant-loop-register l = record {
  held : AreWords l.wiring.net l.held;
  collected : IsCollected l.wiring.net l.values l.due l.held l.from;
  within : l.from ≤ length l.wiring.net.nets;
}

abbrev pub decreases-loop-register : goal.decreases-loop-register
decreases-loop-register l = length l.wiring.net.nets - l.from
