use Rattle.std.proofs.Common.{sym, subst, ap}
use Rattle.channel_lower.specs.declared.lowered.Lowered.{Lowered}
use Rattle.session_rules.specs.Kept.{IsKept}
use Rattle.cosim_core.specs.Sessions.{lowered_of}
use Rattle.cosim_core.proofs.Sessions.{same_lowered, new_running}
use Rattle.cosim_core.proofs.session.Session.new.Goals as goal

pub invariant_of-result : goal.invariant_of-result
invariant_of-result c =
    subst (λ (l : Lowered). IsKept l c.in_ok-wiring.wiring.blanks c.in_ok-wiring.wiring.registers)
    (sym (same_lowered c.in_ok-wiring.wiring c.in_ok-state.state.sim.plan c.args.lowered.now c.in_ok-wiring.ensures.servers c.in_ok-wiring.ensures.clients (ap (λ s. s.plan) c.in_ok-state.ensures.sim)))
    c.in_ok-wiring.ensures.kept

pub returns-clause-lowered : goal.returns-clause-lowered
returns-clause-lowered c =
    same_lowered c.in_ok-wiring.wiring c.in_ok-state.state.sim.plan c.args.lowered.now c.in_ok-wiring.ensures.servers c.in_ok-wiring.ensures.clients (ap (λ s. s.plan) c.in_ok-state.ensures.sim)

pub returns-clause-before : goal.returns-clause-before
returns-clause-before c = ap (λ s. s.last) c.in_ok-state.ensures.sim

pub returns-clause-running : goal.returns-clause-running
returns-clause-running c =
    new_running c.args.lowered.now (lowered_of c.in_ok-wiring.wiring c.in_ok-state.state.sim.plan) c.in_ok-state.state.hub c.in_ok-state.state.sim.last
    (same_lowered c.in_ok-wiring.wiring c.in_ok-state.state.sim.plan c.args.lowered.now c.in_ok-wiring.ensures.servers c.in_ok-wiring.ensures.clients (ap (λ s. s.plan) c.in_ok-state.ensures.sim))
    (ap (λ s. s.last) c.in_ok-state.ensures.sim) c.in_ok-state.ensures.keeps
