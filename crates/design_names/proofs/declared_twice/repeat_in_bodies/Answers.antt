use Rattle.design_names.specs.Places.{body_repeats}
use Rattle.statement_checks.specs.Walks.{least_item}
use Rattle.design_names.proofs.declared_twice.repeat_in_bodies.Goals as goal

pub loop-body-preserved : goal.loop-body-preserved
loop-body-preserved c =
    least_item body_repeats c.args.first c.loop-body.place c.in_ok-place.place c.args.bodies.now c.loop-body.body-index c.body-item.result c.loop-body-test.true c.body-item.is c.loop-body.invariant
    c.in_ok-place.ensures
