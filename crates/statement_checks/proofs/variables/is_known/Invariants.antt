use Rattle.std.proofs.Common.{◌≡◌, false, take}
use Rattle.check_rules.specs.References.{is_among}
use Rattle.design_scopes.specs.Bodies.{referred}
use Rattle.statement_checks.proofs.variables.is_known.Given as goal

abbrev pub invariant-loop-other : goal.invariant-loop-other
invariant-loop-other l = is_among l.name (referred (take l.other-index l.known)) ≡ false
