use Rattle.std.proofs.Common.{◌≤◌, ◌-◌}
use Rattle.netlist_cases.proofs.words.evaluated.Given as goal

abbrev pub invariant-loop-place : goal.invariant-loop-place
invariant-loop-place l = l.count ≤ l.place-index
