use Rattle.std.proofs.Common.{◌≡◌}
use Rattle.flat_design.specs.Laying.{count_up}
use Rattle.channel_lower.proofs.whole.numbers_below.Given as goal

abbrev pub invariant-loop-number : goal.invariant-loop-number
invariant-loop-number l = l.numbers ≡ count_up 0 l.number
