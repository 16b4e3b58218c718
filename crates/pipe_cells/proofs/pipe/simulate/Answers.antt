use Rattle.std.proofs.Common.{◌≡◌, sym, ◌∙◌, ap, subst}
use Rattle.cycle_rules.specs.Puts.{TakesInOrder}
use Rattle.cycle_rules.specs.PipeSimulation.{simulation_of}
use Rattle.cycle_rules.specs.Order.{HandsInOrder}
use Rattle.cycle_rules.specs.Simulation.{after_actions}
use Rattle.pipe_cells.specs.Cells.{pipe_circuit}
use Rattle.pipe_cells.specs.PipeRun.{pipe_run, pipe_hands_in_order, pipe_takes_in_order}
use Rattle.pipe_cells.proofs.pipe.simulate.Goals as goal

pub returns-clause-in_order : goal.returns-clause-in_order
returns-clause-in_order c =
    let reached : simulation_of c.run.new.self ≡ pipe_run c.args.stages c.args.actions.now =
    c.in_ok-run.ensures ∙ ap (λ one. after_actions pipe_circuit c.args.actions.now (simulation_of one)) c.in_ok-pipe.ensures in
    subst HandsInOrder (sym reached) (pipe_hands_in_order c.args.stages c.args.actions.now)

pub returns-clause-taken_in_order : goal.returns-clause-taken_in_order
returns-clause-taken_in_order c =
    let reached : simulation_of c.run.new.self ≡ pipe_run c.args.stages c.args.actions.now =
    c.in_ok-run.ensures ∙ ap (λ one. after_actions pipe_circuit c.args.actions.now (simulation_of one)) c.in_ok-pipe.ensures in
    subst (TakesInOrder 0 c.args.actions.now) (sym reached) (pipe_takes_in_order c.args.stages c.args.actions.now)
