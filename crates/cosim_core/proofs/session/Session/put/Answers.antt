use Rattle.std.proofs.Common.{◌≡◌, ◌<◌, length, sym, subst}
use Rattle.netlist.specs.Runs.{registers_after}
use Rattle.channel_lower.specs.declared.lowered.Lowered.{Lowered}
use Rattle.endpoint_hub.specs.Holdings.{Takes}
use Rattle.session_rules.specs.Running.{Running, IsRunning, Keeps}
use Rattle.session_rules.specs.RunningLemmas.{take_keeps}
use Rattle.session_rules.specs.Ports.{port_at, port_width}
use Rattle.cosim_core.specs.Sessions.{lowered_of}
use Rattle.cosim_core.proofs.Sessions.{on_ok}
use Rattle.cosim_core.proofs.session.Session.put.Goals as goal

pub put-requires : goal.put-requires
put-requires c =
    let running = subst (λ (s : Running). IsRunning s) (sym c.self.view_is) c.requires.running in
    subst (λ n. c.args.channel < n) (sym running.rings.to_server) (subst (λ (s : Running). c.args.channel < length s.lowered.servers) (sym c.self.view_is) c.requires.channel)

pub returns-clause-running : goal.returns-clause-running
returns-clause-running c =
    let lowered : Lowered = lowered_of c.self.inside.wiring c.self.inside.state.sim.plan in
    let running = subst (λ (s : Running). IsRunning s) (sym c.self.view_is) c.requires.running in
    on_ok c.put.result (Takes c.self.inside.state.hub c.put.new.self c.args.channel c.args.conn c.args.stream c.args.word) (Keeps lowered c.put.new.self (registers_after lowered.net c.self.inside.state.sim.last))
    (λ takes. take_keeps lowered (registers_after lowered.net c.self.inside.state.sim.last) c.self.inside.state.hub c.put.new.self c.args.channel c.args.conn c.args.stream c.args.word running
    (subst (λ n. c.args.channel < n) (sym running.rings.to_server) (subst (λ (s : Running). c.args.channel < length s.lowered.servers) (sym c.self.view_is) c.requires.channel))
    (subst (λ (s : Running). length c.args.word ≡ port_width s.lowered.net (port_at s.lowered.servers c.args.channel)) (sym c.self.view_is) c.requires.width) takes)
    c.put.ensures.taken
