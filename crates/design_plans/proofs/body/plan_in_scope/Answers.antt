use Rattle.std.proofs.Common.{◌≡◌, List, subst}
use Rattle.std.specs.Prelude.{IfOk}
use Rattle.design_tree.specs.declared.statements.Statement.{Statement}
use Rattle.body_plans.specs.declared.body_plan.BodyPlan.{BodyPlan}
use Rattle.body_plans.specs.Plans.{plan_of}
use Rattle.design_plans.proofs.body.plan_in_scope.Goals as goal

pub returns : goal.returns
returns c =
    subst (λ (es : List Statement). IfOk c.plan_body.result (λ (planned : BodyPlan). planned ≡ plan_of c.args.scope.now c.args.before.now es c.args.order.now)) c.requires c.plan_body.ensures
