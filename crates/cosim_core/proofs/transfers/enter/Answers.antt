use Rattle.std.proofs.Common.{None, subst, sym, ap, ◌∙◌, arith}
use Rattle.channel_lower.specs.declared.lowered.Port.{Port}
use Rattle.cycle_rules.specs.Rings.{after_push}
use Rattle.cycle_sim.specs.Simulated.{word_of}
use Rattle.session_rules.specs.Ports.{word_offered, IsPort}
use Rattle.cosim_core.proofs.Steps.{ports_more, ports_done, set_count}
use Rattle.cosim_core.proofs.transfers.enter.Goals as goal

pub offers-word-requires : goal.offers-word-requires
offers-word-requires c = subst (λ (p : Port). IsPort c.args.sim.now.plan p) (sym c.port_of.ensures) (c.requires.ports.each c.loop-channel.channel c.loop-channel-test.true)

pub loop-channel-preserved : goal.loop-channel-preserved
loop-channel-preserved c = record {
  to_client = ports_more after_push (word_offered (word_of c.args.sim.now)) None c.loop-channel.hub.to_client c.enter_at.new.hub.to_client _ c.args.clients.now c.loop-channel.channel c.offers-word.result c.loop-channel-test.true c.loop-channel.invariant.count
      (c.offers-word.ensures ∙ ap (word_offered (word_of c.args.sim.now)) c.port_of.ensures) c.enter_at.ensures.to_client c.loop-channel.invariant.to_client;
  count = set_count c.loop-channel.hub.to_client c.enter_at.new.hub.to_client c.loop-channel.channel _ _ c.enter_at.ensures.to_client c.loop-channel.invariant.count;
  to_server = c.enter_at.ensures.to_server ∙ c.loop-channel.invariant.to_server;
  has_stream = c.enter_at.ensures.has_stream ∙ c.loop-channel.invariant.has_stream;
  journal = c.enter_at.ensures.journal ∙ c.loop-channel.invariant.journal;
}

pub returns-clause-to_client : goal.returns-clause-to_client
returns-clause-to_client c = ports_done after_push (word_offered (word_of c.args.sim.now)) None c.loop-channel.hub.to_client _ c.args.clients.now c.loop-channel.channel (omega arith) c.loop-channel.invariant.count c.loop-channel.invariant.to_client
