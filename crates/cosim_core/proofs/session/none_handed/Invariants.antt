use Rattle.std.proofs.Common.{◌≡◌, None, replicate}
use Rattle.cosim_core.proofs.session.none_handed.Given as goal

abbrev pub invariant-loop-made : goal.invariant-loop-made
invariant-loop-made l = l.words ≡ replicate l.made None
