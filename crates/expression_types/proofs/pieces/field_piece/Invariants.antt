use Rattle.std.proofs.Common.{◌≡◌, ◌≤◌, drop}
use Rattle.std.specs.List.{sum_by}
use Rattle.design_lex.specs.declared.limits.TheConstants.{WIDEST_TYPE}
use Rattle.channel_types.specs.Types.{field_width}
use Rattle.expression_types.specs.Typing.{field_piece}
use Rattle.expression_types.proofs.pieces.field_piece.Given as goal

abbrev pub invariant-loop-field : goal.invariant-loop-field
invariant-loop-field l =
    (l.rest ≤ WIDEST_TYPE) × (l.rest ≡ sum_by field_width (drop l.field-index l.fields))
    × (field_piece l.name (drop l.field-index l.fields) ≡ field_piece l.name l.fields)
