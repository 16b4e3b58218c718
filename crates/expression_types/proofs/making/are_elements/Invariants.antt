use Rattle.std.proofs.Common.{◌≡◌, map, drop}
use Rattle.expression_types.specs.Views.{type_in}
use Rattle.expression_types.specs.Typing.{all_same}
use Rattle.expression_types.proofs.making.are_elements.Given as goal

abbrev pub invariant-loop-ty : goal.invariant-loop-ty
invariant-loop-ty l = all_same l.item (map type_in (drop l.ty-index l.types)) ≡ all_same l.item (map type_in l.types)
