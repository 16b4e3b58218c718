use Rattle.std.proofs.Common.{subst, sym, map, take, ◌+◌}
use Rattle.channel_typing.specs.Misfits.{misfits}
use Rattle.design_scopes.specs.Resolving.{scope_in}
use Rattle.design_checks.specs.BodyBreaks.{AreBreaksOf}
use Rattle.design_checks.proofs.BodyLaws.{one_further}
use Rattle.design_checks.proofs.bodies.body_breaks.Goals as goal

pub loop-body-preserved : goal.loop-body-preserved
loop-body-preserved c =
    subst (AreBreaksOf misfits (map (scope_in c.args.declared.now) (take (c.loop-body.body-index + 1) c.args.bodies.now))) (sym c.and-breaks.ensures)
    (one_further (scope_in c.args.declared.now) c.args.bodies.now c.loop-body.body-index c.body-item.result c.loop-body.breaks c.in_ok-breaks_of_body.field-0 c.loop-body-test.true c.body-item.is
    c.loop-body.invariant c.in_ok-breaks_of_body.ensures)
