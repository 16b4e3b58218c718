use Rattle.std.proofs.Common.{◌≡◌, subst}
use Rattle.std.specs.Prelude.{IfOk}
use Rattle.body_plans.specs.declared.body_plan.BodyPlan.{BodyPlan}
use Rattle.body_plans.specs.Channels.{Places}
use Rattle.body_plans.specs.Plans.{drives_of, plan_over}
use Rattle.body_plans.proofs.planning.plan_placed.Goals as goal

pub returns : goal.returns
returns c =
    subst (λ (p : Places). IfOk c.plan_over.result (λ (planned : BodyPlan). planned ≡ plan_over c.args.scope.now c.args.before.now c.args.elements.now c.args.order.now p (drives_of c.args.scope.now.statements)))
    c.requires.places c.plan_over.ensures
