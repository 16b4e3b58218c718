use Rattle.std.proofs.Common.{◌≡◌, length}
use Rattle.channel_lower.specs.Lowering.{ready_turn, turns}
use Rattle.channel_lower.proofs.backward.set_readies.Given as goal

abbrev pub invariant-loop-k : goal.invariant-loop-k
invariant-loop-k l = record {
  is : l.readies ≡ turns (ready_turn l.channels l.nets) l.k l.initial.readies;
  count : length l.readies ≡ length l.initial.readies;
}
