use Rattle.std.proofs.Common.{◌≡◌, take}
use Rattle.channel_lower.specs.Lowering.{wires_at}
use Rattle.channel_lower.proofs.forward.wires_of.Given as goal

abbrev pub invariant-loop-channel : goal.invariant-loop-channel
invariant-loop-channel l = l.taken ≡ wires_at l.wires (take l.channel-index l.channels)
