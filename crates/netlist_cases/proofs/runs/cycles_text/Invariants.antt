use Rattle.std.proofs.Common.{◌≡◌, ◌-◌}
use Rattle.netlist_cases.proofs.runs.cycles_text.Given as goal

abbrev pub invariant-loop-inputs : goal.invariant-loop-inputs
invariant-loop-inputs g l = l.sim.plan ≡ l.circuit.net
