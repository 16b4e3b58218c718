use Rattle.std.proofs.Common.{◌≡◌, take}
use Rattle.design_scopes.specs.Bodies.{referred}
use Rattle.design_scopes.proofs.bodies.module_body.Given as goal

abbrev pub invariant-loop-statement : goal.invariant-loop-statement
invariant-loop-statement l = referred l.statements ≡ take l.statement-index l.source.body
