use Rattle.std.proofs.Common.{◌≡◌, ◌-◌, ◌^◌, ◌<◌, length, sym, subst}
use Rattle.netlist.specs.Plans.{Plan}
use Rattle.session_rules.specs.Kept.{IsKept}
use Rattle.session_rules.specs.Running.{Running, IsRunning}
use Rattle.cosim_core.specs.Sessions.{lowered_of}
use Rattle.cosim_core.proofs.Sessions.{session_cycle}
use Rattle.cosim_core.proofs.session.Session.cycle.Goals as goal

pub advance-requires-clause-keeps : goal.advance-requires-clause-keeps
advance-requires-clause-keeps c = subst (λ (s : Running). IsRunning s) (sym c.self.view_is) c.requires.running

pub advance-requires-clause-kept : goal.advance-requires-clause-kept
advance-requires-clause-kept c = c.self.invariant

pub advance-requires-clause-hands : goal.advance-requires-clause-hands
advance-requires-clause-hands c = subst (λ (s : Running). length c.args.hands.now ≡ length s.lowered.clients) (sym c.self.view_is) c.requires.hands

pub advance-requires-clause-cycles : goal.advance-requires-clause-cycles
advance-requires-clause-cycles c = subst (λ (s : Running). s.hub.journal.cycles < 2 ^ 64 - 1) (sym c.self.view_is) c.requires.cycles

pub invariant_of-self : goal.invariant_of-self
invariant_of-self c =
    subst (λ (p : Plan). IsKept (lowered_of c.self.inside.wiring p) c.self.inside.wiring.blanks c.self.inside.wiring.registers) (sym c.advance.ensures.plan) c.self.invariant

pub returns-clause-settled : goal.returns-clause-settled
returns-clause-settled c = (session_cycle c.args.self.now c.self.inside.wiring c.self.inside.state.sim.plan c.advance.new.state.sim.plan c.self.inside.state.hub c.advance.new.state.hub c.self.inside.state.sim.last c.advance.new.state.sim.last c.self.inside.state.handed c.advance.new.state.handed c.args.hands.now c.self.view_is c.advance.ensures.plan c.in_ok-advance.ensures.done).settled

pub returns-clause-machine : goal.returns-clause-machine
returns-clause-machine c = (session_cycle c.args.self.now c.self.inside.wiring c.self.inside.state.sim.plan c.advance.new.state.sim.plan c.self.inside.state.hub c.advance.new.state.hub c.self.inside.state.sim.last c.advance.new.state.sim.last c.self.inside.state.handed c.advance.new.state.handed c.args.hands.now c.self.view_is c.advance.ensures.plan c.in_ok-advance.ensures.done).machine

pub returns-clause-noted : goal.returns-clause-noted
returns-clause-noted c = (session_cycle c.args.self.now c.self.inside.wiring c.self.inside.state.sim.plan c.advance.new.state.sim.plan c.self.inside.state.hub c.advance.new.state.hub c.self.inside.state.sim.last c.advance.new.state.sim.last c.self.inside.state.handed c.advance.new.state.handed c.args.hands.now c.self.view_is c.advance.ensures.plan c.in_ok-advance.ensures.done).noted

pub returns-clause-handed : goal.returns-clause-handed
returns-clause-handed c = (session_cycle c.args.self.now c.self.inside.wiring c.self.inside.state.sim.plan c.advance.new.state.sim.plan c.self.inside.state.hub c.advance.new.state.hub c.self.inside.state.sim.last c.advance.new.state.sim.last c.self.inside.state.handed c.advance.new.state.handed c.args.hands.now c.self.view_is c.advance.ensures.plan c.in_ok-advance.ensures.done).words

pub returns-clause-streams : goal.returns-clause-streams
returns-clause-streams c = (session_cycle c.args.self.now c.self.inside.wiring c.self.inside.state.sim.plan c.advance.new.state.sim.plan c.self.inside.state.hub c.advance.new.state.hub c.self.inside.state.sim.last c.advance.new.state.sim.last c.self.inside.state.handed c.advance.new.state.handed c.args.hands.now c.self.view_is c.advance.ensures.plan c.in_ok-advance.ensures.done).streams

pub returns-clause-lowered : goal.returns-clause-lowered
returns-clause-lowered c = (session_cycle c.args.self.now c.self.inside.wiring c.self.inside.state.sim.plan c.advance.new.state.sim.plan c.self.inside.state.hub c.advance.new.state.hub c.self.inside.state.sim.last c.advance.new.state.sim.last c.self.inside.state.handed c.advance.new.state.handed c.args.hands.now c.self.view_is c.advance.ensures.plan c.in_ok-advance.ensures.done).same

pub returns-clause-running : goal.returns-clause-running
returns-clause-running c = (session_cycle c.args.self.now c.self.inside.wiring c.self.inside.state.sim.plan c.advance.new.state.sim.plan c.self.inside.state.hub c.advance.new.state.hub c.self.inside.state.sim.last c.advance.new.state.sim.last c.self.inside.state.handed c.advance.new.state.handed c.args.hands.now c.self.view_is c.advance.ensures.plan c.in_ok-advance.ensures.done).running

pub returns-clause-left : goal.returns-clause-left
returns-clause-left c = (session_cycle c.args.self.now c.self.inside.wiring c.self.inside.state.sim.plan c.advance.new.state.sim.plan c.self.inside.state.hub c.advance.new.state.hub c.self.inside.state.sim.last c.advance.new.state.sim.last c.self.inside.state.handed c.advance.new.state.handed c.args.hands.now c.self.view_is c.advance.ensures.plan c.in_ok-advance.ensures.done).left
