use Rattle.std.proofs.Common.{◌≤◌, ◌-◌}
use Rattle.netlist_cases.proofs.printing.add_word.Given as goal

abbrev pub invariant-loop-at : goal.invariant-loop-at
invariant-loop-at l = l.at ≤ 128

abbrev pub decreases-loop-at : goal.decreases-loop-at
decreases-loop-at l = l.at
