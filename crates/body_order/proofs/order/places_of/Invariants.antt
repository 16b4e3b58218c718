use Rattle.std.proofs.Common.{◌≡◌, map, take}
use Rattle.check_rules.specs.References.{statement_place}
use Rattle.body_order.specs.Makers.{referred}
use Rattle.body_order.proofs.order.places_of.Given as goal

abbrev pub invariant-loop-statement : goal.invariant-loop-statement
invariant-loop-statement l = l.places ≡ map statement_place (referred (take l.statement-index l.statements))
