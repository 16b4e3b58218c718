use Rattle.std.proofs.Common.{◌≡◌, take}
use Rattle.check_rules.specs.Dependencies.{elements_of}
use Rattle.body_order.specs.Makers.{referred}
use Rattle.body_order.proofs.elements.elements_among.Given as goal

abbrev pub invariant-loop-statement : goal.invariant-loop-statement
invariant-loop-statement l = referred l.elements ≡ elements_of (referred (take l.statement-index l.statements))
