use Rattle.std.proofs.Common.{◌≡◌, ◌<◌, ◌≤◌, ◌-◌, length, ℕ, false}
use Rattle.cycle_sim.specs.Changes.{is_marked}
use Rattle.cycle_sim.specs.Turns.{HasState}
use Rattle.cycle_sim.proofs.clock.release.Given as goal
use Rattle.cycle_sim.specs.Clocks.{MarksRegisters, IsReleased}

abbrev pub invariant-loop-register : goal.invariant-loop-register
invariant-loop-register l = record {
  state : HasState l.wiring.net l.state.values l.state.marks l.state.waiting;
  registers : MarksRegisters l.wiring.net l.due;
  cleared : (k : ℕ) → k < l.from → is_marked l.due k ≡ false;
  rest : (k : ℕ) → l.from ≤ k → is_marked l.due k ≡ is_marked l.initial.due k;
  released : IsReleased l.wiring.net l.initial.state.values l.state.values l.state.marks l.state.waiting l.from;
  within : l.from ≤ length l.wiring.net.nets;
}

abbrev pub decreases-loop-register : goal.decreases-loop-register
decreases-loop-register l = length l.wiring.net.nets - l.from
