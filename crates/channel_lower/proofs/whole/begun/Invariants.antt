use Rattle.std.proofs.Common.{◌≡◌, replicate}
use Rattle.channel_lower.proofs.whole.begun.Given as goal

abbrev pub invariant-loop-channel : goal.invariant-loop-channel
invariant-loop-channel l = l.readies ≡ replicate l._channel 0
