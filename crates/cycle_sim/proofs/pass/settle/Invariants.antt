use Rattle.std.proofs.Common.{◌≤◌, ◌-◌, length, ℕ, List, Option}
use Rattle.netlist.specs.Nets.{Bits}
use Rattle.cycle_sim.specs.Turns.{HasState, Turning}
use Rattle.cycle_sim.proofs.pass.settle.Given as goal

abbrev pub invariant-loop-net : goal.invariant-loop-net
invariant-loop-net g l = record {
  state : HasState l.wiring.net l.state.values l.state.marks l.state.waiting;
  turned : (inputs held : List Bits) (last : Option (List Bits)) (start : ℕ)
      → Turning l.wiring.net inputs held last start l.initial.state.values l.initial.state.marks l.initial.state.waiting 0 l.initial.steps
      → Turning l.wiring.net inputs held last start l.state.values l.state.marks l.state.waiting l.from l.steps;
  within : l.from ≤ length l.wiring.net.nets;
}

abbrev pub decreases-loop-net : goal.decreases-loop-net
decreases-loop-net g l = length l.wiring.net.nets - l.from
