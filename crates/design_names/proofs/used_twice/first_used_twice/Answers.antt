use Rattle.std.specs.Prelude.{None}
use Rattle.design_names.specs.Places.{body_uses}
use Rattle.statement_checks.specs.Walks.{least_item}
use Rattle.design_names.proofs.used_twice.first_used_twice.Goals as goal

pub loop-body-preserved : goal.loop-body-preserved
loop-body-preserved c =
    least_item body_uses None c.loop-body.place c.in_ok-place.place c.args.bodies.now c.loop-body.body-index c.body-item.result c.loop-body-test.true c.body-item.is c.loop-body.invariant
    c.in_ok-place.ensures
