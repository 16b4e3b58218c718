use Rattle.std.proofs.Common.{◌≡◌, ◌<◌, drop}
use Rattle.hpack.specs.declared.limits.TheConstants.{INTEGER_VALUES}
use Rattle.hpack.specs.IntegerReading.{more_at, weights_of_groups}
use Rattle.hpack.proofs.integer.groups_at.Given as goal

-- what is left gives what all gives
abbrev pub invariant-loop-i : goal.invariant-loop-i
invariant-loop-i l =
    (more_at (drop l.i weights_of_groups) l.sum (drop l.i l.octets) ≡ more_at weights_of_groups l.full l.octets)
    × (l.sum < INTEGER_VALUES)
