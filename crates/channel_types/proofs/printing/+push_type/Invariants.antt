use Rattle.std.proofs.Common.{◌≡◌, ◌++◌, map, take}
use Rattle.std.specs.Prelude.{nat_eq}
use Rattle.channel_types.specs.Text.{field_text, listed}
use Rattle.channel_types.proofs.printing.+push_type.Given as goal

abbrev pub invariant-loop-field : goal.invariant-loop-field
invariant-loop-field l = (l.is_first ≡ nat_eq l.field-index 0) × (l.text ≡ l.initial.text ++ listed (map field_text (take l.field-index l.field-items)))
