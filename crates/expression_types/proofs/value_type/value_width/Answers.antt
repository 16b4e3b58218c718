use Rattle.std.proofs.Common.{ap, ◌∙◌}
use Rattle.expression_types.specs.Typing.{ranged, value_width}
use Rattle.expression_types.proofs.Widths.{ranged_capped}
use Rattle.channel_types.specs.Types.{width_of}
use Rattle.expression_types.proofs.value_type.value_width.Goals as goal

pub returns : goal.returns
unfolding value_width
returns c = c.ranged.ensures ∙ ap ranged c.capped_width.ensures ∙ ranged_capped (width_of c.args.ty.now)
