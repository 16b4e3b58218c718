use Rattle.std.proofs.Common.{◌≡◌, map, drop}
use Rattle.expression_types.specs.Views.{variable_in, parts_in}
use Rattle.expression_types.specs.Typing.{typed, gathered, no_parts}
use Rattle.expression_types.proofs.expression.+type_expression.Given as goal

abbrev pub invariant-loop-part : goal.invariant-loop-part
invariant-loop-part l =
    gathered (parts_in l.made) (map (typed (map variable_in l.variables)) (drop l.part-index l.part-items)) ≡ gathered no_parts (map (typed (map variable_in l.variables)) l.part-items)
