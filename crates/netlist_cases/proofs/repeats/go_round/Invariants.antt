use Rattle.std.proofs.Common.{◌≡◌, ◌-◌}
use Rattle.netlist_cases.proofs.repeats.go_round.Given as goal

abbrev pub invariant-loop : goal.invariant-loop
invariant-loop g l = l.sim.plan ≡ l.initial.sim.plan
