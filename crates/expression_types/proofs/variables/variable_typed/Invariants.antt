use Rattle.std.proofs.Common.{◌≡◌, map, drop}
use Rattle.expression_types.specs.Views.{variable_in}
use Rattle.expression_types.specs.Typing.{variable_from}
use Rattle.expression_types.proofs.variables.variable_typed.Given as goal

abbrev pub invariant-loop-i : goal.invariant-loop-i
invariant-loop-i l = variable_from l.name l.i (map variable_in (drop l.i l.variables)) ≡ variable_from l.name 0 (map variable_in l.variables)
