-- The cycles that are left, from where the pipe is, are all of them from where it was.
use Rattle.std.proofs.Common.{◌≡◌, ◌+◌, ◌-◌}
use Rattle.cycle_rules.specs.Simulation.{after_cycles}
use Rattle.cycle_rules.specs.PipeSimulation.{simulation_of}
use Rattle.pipe_cells.specs.Cells.{pipe_circuit}
use Rattle.pipe_cells.proofs.pipe.Pipe.cycles.Given as goal

abbrev pub invariant-loop-turn : goal.invariant-loop-turn
invariant-loop-turn l = record {
  left : after_cycles pipe_circuit (l.count - l.turn) (simulation_of l.self) ≡ after_cycles pipe_circuit l.count (simulation_of l.initial.self);
  ended : l.self.cycles ≡ l.initial.self.cycles + l.turn;
}
