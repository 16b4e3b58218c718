use Rattle.std.proofs.Common.{◌∙◌, sym, ap}
use Rattle.std.specs.List.{sum_by}
use Rattle.channel_types.specs.Types.{field_width}
use Rattle.expression_types.specs.WidthLaws.{struct_width}
use Rattle.expression_types.proofs.pieces.field_of.Goals as goal

pub field_piece-requires-clause-within : goal.field_piece-requires-clause-within
field_piece-requires-clause-within c = (struct_width c.args.ty.now c.in-Struct.fields c.args.width c.in-Struct.is c.requires).0

pub field_piece-requires-clause-whole : goal.field_piece-requires-clause-whole
field_piece-requires-clause-whole c = (struct_width c.args.ty.now c.in-Struct.fields c.args.width c.in-Struct.is c.requires).1 ∙ ap (sum_by field_width) (sym c.as_slice.ensures)
