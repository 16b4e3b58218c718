use Rattle.std.proofs.Common.{◌∙◌, ◌<◌, length, arith}
use Rattle.design_plans.proofs.Along.{planned_more}
use Rattle.design_plans.proofs.bodies.plan_bodies.Goals as goal

pub loop-body-preserved : goal.loop-body-preserved
loop-body-preserved c =
    let low : c.loop-body.body-index < length c.args.bodies.now = (let test = c.loop-body-test.true in omega arith) in
    planned_more c.args.modules.now c.args.ordered.now c.loop-body.plans c.add_body.new.plans c.args.declared.now c.args.bodies.now c.loop-body.body-index c.body-item.result low c.body-item.is c.in_ok-add_body.ensures
    ∙ c.loop-body.invariant
