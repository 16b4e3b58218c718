use Rattle.std.proofs.Common.{◌<◌, length, sym, subst}
use Rattle.netlist.specs.Runs.{registers_after}
use Rattle.channel_lower.specs.declared.lowered.Lowered.{Lowered}
use Rattle.session_rules.specs.Running.{Running, IsRunning}
use Rattle.session_rules.specs.RunningLemmas.{close_keeps}
use Rattle.cosim_core.specs.Sessions.{lowered_of}
use Rattle.cosim_core.proofs.session.Session.close.Goals as goal

pub close-requires : goal.close-requires
close-requires c =
    let running = subst (λ (s : Running). IsRunning s) (sym c.self.view_is) c.requires.running in
    subst (λ n. c.args.channel < n) (sym running.rings.to_client) (subst (λ (s : Running). c.args.channel < length s.lowered.clients) (sym c.self.view_is) c.requires.channel)

pub returns-clause-running : goal.returns-clause-running
returns-clause-running c =
    let lowered : Lowered = lowered_of c.self.inside.wiring c.self.inside.state.sim.plan in
    let running = subst (λ (s : Running). IsRunning s) (sym c.self.view_is) c.requires.running in
    close_keeps lowered (registers_after lowered.net c.self.inside.state.sim.last) c.self.inside.state.hub c.close.new.self c.args.channel running c.close.ensures
