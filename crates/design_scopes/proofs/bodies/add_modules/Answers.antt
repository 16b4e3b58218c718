use Rattle.design_scopes.proofs.BodyLists.{bodies_next}
use Rattle.design_scopes.proofs.bodies.add_modules.Goals as goal

pub loop-before-preserved : goal.loop-before-preserved
loop-before-preserved c =
    bodies_next c.args.modules.now c.loop-before.before c.index-modules-before.result c.loop-before.bodies c.in_ok-module_body.field-0 c.add.new.self c.loop-before-test.true c.index-modules-before.is
    c.loop-before.invariant c.in_ok-module_body.ensures c.in_ok-add.ensures.added
