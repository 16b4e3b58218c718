use Rattle.std.proofs.Common.{◌≡◌, min, take}
use Rattle.std.specs.List.{sum_by}
use Rattle.design_lex.specs.declared.limits.TheConstants.{TOO_WIDE}
use Rattle.channel_types.specs.Types.{field_width}
use Rattle.channel_types.proofs.width.+capped_width.Given as goal

abbrev pub invariant-loop-field : goal.invariant-loop-field
invariant-loop-field l = l.sum ≡ min TOO_WIDE (sum_by field_width (take l.field-index l.field-items))
