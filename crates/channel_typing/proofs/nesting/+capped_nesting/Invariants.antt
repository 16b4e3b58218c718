use Rattle.std.proofs.Common.{◌≡◌, map, min, take}
use Rattle.channel_types.specs.Types.{greatest, field_nesting}
use Rattle.channel_typing.specs.declared.limits.TheConstants.{TOO_DEEP}
use Rattle.channel_typing.proofs.nesting.+capped_nesting.Given as goal

abbrev pub invariant-loop-field : goal.invariant-loop-field
invariant-loop-field l = l.deepest ≡ min TOO_DEEP (greatest (map field_nesting (take l.field-index l.field-items)))
