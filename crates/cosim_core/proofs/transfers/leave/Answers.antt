use Rattle.std.proofs.Common.{false, subst, sym, ap, ◌∙◌, arith}
use Rattle.channel_lower.specs.declared.lowered.Port.{Port}
use Rattle.cycle_rules.specs.Rings.{after_pop}
use Rattle.cycle_sim.specs.Simulated.{word_of}
use Rattle.session_rules.specs.Ports.{is_ready, IsPort}
use Rattle.cosim_core.proofs.Steps.{ports_more, ports_done, set_count}
use Rattle.cosim_core.proofs.transfers.leave.Goals as goal

pub takes-ready-requires : goal.takes-ready-requires
takes-ready-requires c = subst (λ (p : Port). IsPort c.args.sim.now.plan p) (sym c.port_of.ensures) (c.requires.ports.each c.loop-channel.channel c.loop-channel-test.true)

pub loop-channel-preserved : goal.loop-channel-preserved
loop-channel-preserved c = record {
  to_server = ports_more after_pop (is_ready (word_of c.args.sim.now)) false c.loop-channel.hub.to_server c.leave_at.new.hub.to_server _ c.args.servers.now c.loop-channel.channel c.takes-ready.result c.loop-channel-test.true c.loop-channel.invariant.count
      (c.takes-ready.ensures ∙ ap (is_ready (word_of c.args.sim.now)) c.port_of.ensures) c.leave_at.ensures.to_server c.loop-channel.invariant.to_server;
  count = set_count c.loop-channel.hub.to_server c.leave_at.new.hub.to_server c.loop-channel.channel _ _ c.leave_at.ensures.to_server c.loop-channel.invariant.count;
  to_client = c.leave_at.ensures.to_client ∙ c.loop-channel.invariant.to_client;
  has_stream = c.leave_at.ensures.has_stream ∙ c.loop-channel.invariant.has_stream;
  journal = c.leave_at.ensures.journal ∙ c.loop-channel.invariant.journal;
}

pub returns-clause-to_server : goal.returns-clause-to_server
returns-clause-to_server c = ports_done after_pop (is_ready (word_of c.args.sim.now)) false c.loop-channel.hub.to_server _ c.args.servers.now c.loop-channel.channel (omega arith) c.loop-channel.invariant.count c.loop-channel.invariant.to_server
