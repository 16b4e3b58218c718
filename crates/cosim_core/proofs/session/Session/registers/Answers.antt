use Rattle.std.proofs.Common.{◌≡◌, sym, subst, ◌∙◌, ap, map}
use Rattle.netlist.specs.Nets.{word_at}
use Rattle.netlist.specs.Runs.{registers_after}
use Rattle.session_rules.specs.Ports.{circuit_of, start_of}
use Rattle.session_rules.specs.Registers.{held_words}
use Rattle.session_rules.specs.Replay.{replayed}
use Rattle.session_rules.specs.Running.{Running, IsRunning, registers_of}
use Rattle.cosim_core.specs.Sessions.{lowered_of}
use Rattle.cosim_core.proofs.Sessions.{held_is, replay_is}
use Rattle.cosim_core.proofs.session.Session.registers.Goals as goal

pub held_by-requires : goal.held_by-requires
held_by-requires c = c.as_slice.ensures ∙ c.self.invariant.places

pub returns-clause-held : goal.returns-clause-held
returns-clause-held c =
    subst (λ (s : Running). c.in_ok-words.words ≡ held_words s.lowered.net.nets (registers_of s)) c.self.view_is
    (held_is (lowered_of c.self.inside.wiring c.self.inside.state.sim.plan) (registers_after c.self.inside.state.sim.plan c.self.inside.state.sim.last) c.in_ok-words.words c.self.inside.wiring.blanks c.self.inside.wiring.registers c.self.invariant
    (c.in_ok-words.ensures ∙ ap (λ rs. map (word_at (registers_after c.self.inside.state.sim.plan c.self.inside.state.sim.last)) rs) c.as_slice.ensures))

pub returns-clause-replayed : goal.returns-clause-replayed
returns-clause-replayed c =
    subst (λ (s : Running). c.in_ok-words.words ≡ held_words s.lowered.net.nets (replayed (circuit_of s.lowered) (start_of s.lowered) s.hub.journal.taken s.hub.journal.handed s.hub.journal.cycles).state) c.self.view_is
    (replay_is (lowered_of c.self.inside.wiring c.self.inside.state.sim.plan) c.self.inside.state.hub (registers_after c.self.inside.state.sim.plan c.self.inside.state.sim.last) c.in_ok-words.words c.self.inside.wiring.blanks c.self.inside.wiring.registers
    (subst (λ (s : Running). IsRunning s) (sym c.self.view_is) c.requires) c.self.invariant
    (c.in_ok-words.ensures ∙ ap (λ rs. map (word_at (registers_after c.self.inside.state.sim.plan c.self.inside.state.sim.last)) rs) c.as_slice.ensures))
