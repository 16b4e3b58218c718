use Rattle.std.proofs.Common.{subst, sym, ◌∙◌}
use Rattle.design_scopes.specs.Bodies.{referred, AreBodies, AreModuleBodies}
use Rattle.design_scopes.proofs.BodyLists.{bodies_are, many_referred}
use Rattle.design_scopes.proofs.bodies.bodies_of.Goals as goal

pub returns : goal.returns
returns c =
    subst (AreBodies c.args.declarations.now c.args.top.now) (sym c.in_ok-add.ensures.added)
    (bodies_are c.args.declarations.now c.args.top.now (referred c.in_ok-modules.modules) c.add_modules.new.bodies c.len.result c.in_ok-top_body.field-0 c.in_ok-modules.ensures
    (c.len.ensures ∙ many_referred c.in_ok-modules.modules) (subst (λ l. AreModuleBodies 0 (referred l) c.add_modules.new.bodies) c.as_slice.ensures c.in_ok-add_modules.ensures) c.in_ok-top_body.ensures)
