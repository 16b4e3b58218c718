use Rattle.std.proofs.Common.{◌≡◌, drop, map}
use Rattle.expression_types.specs.Typing.{field_has_void, any_void}
use Rattle.expression_types.proofs.voids.+has_void.Given as goal

abbrev pub invariant-loop-field : goal.invariant-loop-field
invariant-loop-field l = any_void (map field_has_void (drop l.field-index l.field-items)) ≡ any_void (map field_has_void l.field-items)
