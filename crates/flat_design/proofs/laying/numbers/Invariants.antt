use Rattle.std.proofs.Common.{◌≡◌, ◌++◌, ◌-◌}
use Rattle.flat_design.specs.Laying.{count_up}
use Rattle.flat_design.proofs.laying.numbers.Given as goal

abbrev pub invariant-loop-number : goal.invariant-loop-number
invariant-loop-number l = l.numbers ++ count_up l.number (l.count - l.number) ≡ count_up 0 l.count
