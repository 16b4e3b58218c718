use Rattle.design_scopes.specs.Bodies.{referred}
use Rattle.statement_checks.proofs.VariableSteps.{make_done}
use Rattle.statement_checks.proofs.variables.+expression_variables.Goals as goal

pub returns-after-loop-part : goal.returns-after-loop-part
returns-after-loop-part t c =
    make_done (referred c.args.known.now) c.args.first c.loop-part.place c.in-Make.at c.in-Make.ty c.in-Make.parts c.as_slice-part-items.result.now c.loop-part.part-index c.args.expression.now
    c.in-Make.is c.as_slice-part-items.ensures c.loop-part-test.false c.loop-part.invariant
