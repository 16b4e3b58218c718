use Rattle.std.proofs.Common.{◌≡◌, take}
use Rattle.channel_lower.specs.Ports.{ports_of}
use Rattle.channel_lower.proofs.whole.ports.Given as goal

abbrev pub invariant-loop-channel : goal.invariant-loop-channel
invariant-loop-channel l = l.ports ≡ ports_of l.lowering (take l.channel-index l.channels)
