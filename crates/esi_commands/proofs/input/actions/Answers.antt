use Rattle.std.proofs.Common.{◌≡◌, ◌++◌, ◌∷◌, [], length, arith}
use Rattle.std.proofs.lemmas.Grind.{common_steps}
use Rattle.std.proofs.lemmas.Result.{err_from_is_err_and}
use Rattle.esi_commands.proofs.ActionLemmas.{actions_more, actions_none, actions_stop}
use Rattle.esi_commands.proofs.input.actions.Goals as goal

pub returns-in_err-action : goal.returns-in_err-action
returns-in_err-action c =
    let p = err_from_is_err_and c.from_residual.result c.from_residual.ensures.1 in
    rw (p.1, p.2) (actions_stop c.args.ty.now c.loop-step.actions c.args.steps.now c.loop-step.step-index c.step-item.result c.in_err-action.field-0.0 _ c.loop-step-test.true c.step-item.is c.in_err-action.ensures c.loop-step.invariant)

pub loop-step-preserved : goal.loop-step-preserved
loop-step-preserved c =
    let pushed : c.add.new.self ≡ c.loop-step.actions ++ c.in_ok-action.action ∷ [] = grind (arith, common_steps) in
    rw pushed (actions_more c.args.ty.now c.loop-step.actions c.args.steps.now c.loop-step.step-index c.step-item.result c.in_ok-action.action _ c.loop-step-test.true c.step-item.is c.in_ok-action.ensures c.loop-step.invariant)

pub returns : goal.returns
returns c =
    let at_end : c.loop-step.step-index ≡ length c.args.steps.now = omega arith in
    actions_none c.args.ty.now c.loop-step.actions c.args.steps.now c.loop-step.step-index _ at_end c.loop-step.invariant
