use Rattle.std.proofs.Common.{◌-◌, List, Option}
use Rattle.netlist.specs.Nets.{Bits}
use Rattle.cycle_sim.specs.Turns.{HasState, Begun}
use Rattle.cycle_sim.proofs.offering.offer.Given as goal
use Rattle.cycle_sim.specs.Offers.{KeepsInputs, IsOffered}

abbrev pub invariant-loop-number : goal.invariant-loop-number
invariant-loop-number l = record {
  state : HasState l.wiring.net l.state.values l.state.marks l.state.waiting;
  offered : IsOffered l.wiring.net l.inputs l.initial.state.values l.state.values l.number;
  begun : (last : Option (List Bits)) → KeepsInputs l.wiring.net last l.initial.state.values
      → Begun l.wiring.net last l.initial.state.values l.initial.state.marks l.initial.state.waiting
      → Begun l.wiring.net last l.state.values l.state.marks l.state.waiting;
}
