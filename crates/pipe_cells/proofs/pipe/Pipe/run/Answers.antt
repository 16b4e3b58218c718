use Rattle.std.proofs.Common.{◌≡◌, length, drop, sym, subst, ◌∙◌, arith}
use Rattle.cycle_rules.specs.Simulation.{after_actions}
use Rattle.cycle_rules.specs.PipeSimulation.{simulation_of}
use Rattle.cycle_rules.specs.ActionLemmas.{after_actions_more, after_actions_none, cycles_in_more}
use Rattle.pipe_cells.specs.Cells.{pipe_circuit}
use Rattle.pipe_cells.proofs.pipe.Pipe.run.Goals as goal

pub loop-action-preserved : goal.loop-action-preserved
loop-action-preserved c = record {
  left = after_actions_more pipe_circuit c.args.actions.now c.loop-action.action-index c.action-item.result (simulation_of c.loop-action.self) (simulation_of c.act.new.self) c.loop-action-test.true c.action-item.is c.in_ok-act.ensures.after_action
      ∙ c.loop-action.invariant.left;
  bounded = omega (arith, c.in_ok-act.ensures.cycles, c.loop-action.invariant.bounded, cycles_in_more c.args.actions.now c.loop-action.action-index c.action-item.result c.loop-action-test.true c.action-item.is);
}

pub returns : goal.returns
returns c =
    let at_end : c.loop-action.action-index ≡ length c.args.actions.now = omega arith in
    sym (subst (λ i. after_actions pipe_circuit (drop i c.args.actions.now) (simulation_of c.loop-action.self) ≡ simulation_of c.loop-action.self) (sym at_end) (after_actions_none pipe_circuit c.args.actions.now (simulation_of c.loop-action.self)))
    ∙ c.loop-action.invariant.left
