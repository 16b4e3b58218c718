use Rattle.std.proofs.Common.{◌≡◌, take}
use Rattle.std.specs.List.{flat_map}
use Rattle.name_tables.specs.FirstPlaces.{least_from}
use Rattle.check_rules.specs.Undeclared.{expression_undeclared}
use Rattle.design_scopes.specs.Bodies.{referred}
use Rattle.statement_checks.proofs.variables.+expression_variables.Given as goal

abbrev pub invariant-loop-part : goal.invariant-loop-part
invariant-loop-part l = l.place ≡ least_from l.fn.first (flat_map (expression_undeclared (referred l.known)) (take l.part-index l.part-items))
