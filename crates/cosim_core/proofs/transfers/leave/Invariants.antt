use Rattle.std.proofs.Common.{◌≡◌, map, length}
use Rattle.cycle_rules.specs.Lists.{zip_with}
use Rattle.cycle_rules.specs.Rings.{after_pop}
use Rattle.cycle_sim.specs.Simulated.{word_of}
use Rattle.session_rules.specs.Ports.{is_ready}
use Rattle.cosim_core.proofs.Walks.{zip_from}
use Rattle.cosim_core.proofs.transfers.leave.Given as goal

abbrev pub invariant-loop-channel : goal.invariant-loop-channel
invariant-loop-channel l = record {
  to_server : zip_from after_pop l.channel l.hub.to_server (map (is_ready (word_of l.sim)) l.servers) ≡ zip_with after_pop l.initial.hub.to_server (map (is_ready (word_of l.sim)) l.servers);
  count : length l.hub.to_server ≡ length l.servers;
  to_client : l.hub.to_client ≡ l.initial.hub.to_client;
  has_stream : l.hub.has_stream ≡ l.initial.hub.has_stream;
  journal : l.hub.journal ≡ l.initial.hub.journal;
}
