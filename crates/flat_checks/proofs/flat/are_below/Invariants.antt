use Rattle.std.proofs.Common.{◌<◌, ℕ, get_or}
use Rattle.flat_checks.proofs.flat.are_below.Given as goal

abbrev pub invariant-loop-at : goal.invariant-loop-at
invariant-loop-at l = (j : ℕ) → j < l.at → get_or l.channels j 0 < l.bound
