use Rattle.std.proofs.Common.{◌-◌, false, subst, sym, ap, ◌∙◌, map}
use Rattle.netlist.specs.Plans.{Plan, IsPlan}
use Rattle.cycle_sim.proofs.sim.Sim.new.Goals as goal
use Rattle.cycle_sim.specs.Simulated.{AreAtRest}
use Rattle.cycle_sim.specs.Starts.{start_state, start_ready, start_room}

pub invariant_of-result : goal.invariant_of-result
invariant_of-result c =
    let plan : Plan = c.in_ok-wiring.wiring.net in
    let wired = c.in_ok-wiring.ensures.wired in
    let h : IsPlan plan = wired.complete.plan_kept in
    let state = c.in_ok-state.state in
    let first = c.in_ok-state.ensures in
    record {
      wired = wired;
      state = start_state plan state.values state.marks state.waiting h first.rest first.marks first.waiting;
      ready = start_ready plan state.values state.marks state.waiting h first.rest first.marks first.waiting;
      room = start_room plan c.in_ok-held.held c.new-due.result h (subst (AreAtRest plan) (sym c.in_ok-held.ensures) c.in_ok-words_at_rest.ensures)
          (c.new-due.ensures ∙ c.in_ok-no_flags.ensures ∙ ap (map (λ net. false)) (c.as_slice.ensures ∙ c.nets.ensures.nets));
    }
