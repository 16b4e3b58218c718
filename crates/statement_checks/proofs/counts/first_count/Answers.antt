use Rattle.std.specs.Prelude.{None}
use Rattle.statement_checks.specs.Counted.{body_counts}
use Rattle.statement_checks.specs.Walks.{least_item}
use Rattle.statement_checks.proofs.counts.first_count.Goals as goal

pub loop-body-preserved : goal.loop-body-preserved
loop-body-preserved c =
    least_item body_counts None c.loop-body.first c.body_count-first.result c.args.bodies.now c.loop-body.body-index c.body-item.result c.loop-body-test.true c.body-item.is c.loop-body.invariant
    c.body_count-first.ensures
