use Rattle.std.proofs.Common.{sym, ◌∙◌, arith}
use Rattle.cycle_rules.specs.PipeSimulation.{simulation_of}
use Rattle.cycle_rules.specs.ActionLemmas.{after_cycles_more, after_cycles_none}
use Rattle.pipe_cells.specs.Cells.{pipe_circuit}
use Rattle.pipe_cells.proofs.pipe.Pipe.cycles.Goals as goal

pub loop-turn-preserved : goal.loop-turn-preserved
loop-turn-preserved c = record {
  left = after_cycles_more pipe_circuit c.args.count c.loop-turn.turn (simulation_of c.loop-turn.self) (simulation_of c.cycle.new.self) (omega arith) c.in_ok-cycle.ensures.after_cycle
      ∙ c.loop-turn.invariant.left;
  ended = omega (arith, c.in_ok-cycle.ensures.cycles, c.loop-turn.invariant.ended);
}

pub returns-clause-after_cycle : goal.returns-clause-after_cycle
returns-clause-after_cycle c =
    sym (after_cycles_none pipe_circuit c.args.count c.loop-turn.turn (simulation_of c.loop-turn.self) c.loop-turn-test.false) ∙ c.loop-turn.invariant.left
