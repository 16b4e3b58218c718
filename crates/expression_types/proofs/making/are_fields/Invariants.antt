use Rattle.std.proofs.Common.{◌≡◌, map, length}
use Rattle.expression_types.specs.Views.{type_in}
use Rattle.expression_types.specs.Typing.{fields_given}
use Rattle.expression_types.proofs.making.are_fields.Given as goal

abbrev pub invariant-loop-field : goal.invariant-loop-field
invariant-loop-field l =
    (length l.field-iterator.a.rest.now ≡ length l.field-iterator.b.rest.now)
    × (fields_given l.field-iterator.a.rest.now (map type_in l.field-iterator.b.rest.now) ≡ fields_given l.fields (map type_in l.types))
