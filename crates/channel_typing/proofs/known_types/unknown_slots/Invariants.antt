use Rattle.std.proofs.Common.{◌≡◌}
use Rattle.std.specs.Prelude.{replicate}
use Rattle.channel_typing.specs.declared.slot.Slot.TheVariants as L
use Rattle.channel_typing.proofs.known_types.unknown_slots.Given as goal

abbrev pub invariant-loop-index : goal.invariant-loop-index
invariant-loop-index l = l.slots ≡ replicate l._index L.Unknown
