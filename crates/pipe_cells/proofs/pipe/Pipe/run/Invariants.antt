-- The actions that are left, from where the pipe is, are all of them from where it was.
use Rattle.std.proofs.Common.{◌≡◌, ◌+◌, drop}
use Rattle.cycle_rules.specs.Simulation.{after_actions, cycles_in}
use Rattle.cycle_rules.specs.PipeSimulation.{simulation_of}
use Rattle.pipe_cells.specs.Cells.{pipe_circuit}
use Rattle.pipe_cells.proofs.pipe.Pipe.run.Given as goal

abbrev pub invariant-loop-action : goal.invariant-loop-action
invariant-loop-action l = record {
  left : after_actions pipe_circuit (drop l.action-index l.actions) (simulation_of l.self) ≡ after_actions pipe_circuit l.actions (simulation_of l.initial.self);
  bounded : l.self.cycles + cycles_in (drop l.action-index l.actions) ≡ l.initial.self.cycles + cycles_in l.actions;
}
