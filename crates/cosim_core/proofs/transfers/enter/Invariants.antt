use Rattle.std.proofs.Common.{◌≡◌, map, length}
use Rattle.cycle_rules.specs.Lists.{zip_with}
use Rattle.cycle_rules.specs.Rings.{after_push}
use Rattle.cycle_sim.specs.Simulated.{word_of}
use Rattle.session_rules.specs.Ports.{word_offered}
use Rattle.cosim_core.proofs.Walks.{zip_from}
use Rattle.cosim_core.proofs.transfers.enter.Given as goal

abbrev pub invariant-loop-channel : goal.invariant-loop-channel
invariant-loop-channel l = record {
  to_client : zip_from after_push l.channel l.hub.to_client (map (word_offered (word_of l.sim)) l.clients) ≡ zip_with after_push l.initial.hub.to_client (map (word_offered (word_of l.sim)) l.clients);
  count : length l.hub.to_client ≡ length l.clients;
  to_server : l.hub.to_server ≡ l.initial.hub.to_server;
  has_stream : l.hub.has_stream ≡ l.initial.hub.has_stream;
  journal : l.hub.journal ≡ l.initial.hub.journal;
}
