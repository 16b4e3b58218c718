use Rattle.std.proofs.Common.{◌≡◌, ◌++◌, length}
use Rattle.cycle_rules.specs.Lists.{zip_with}
use Rattle.cycle_rules.specs.Rings.{after_pop}
use Rattle.session_rules.specs.Hands.{word_out}
use Rattle.cosim_core.proofs.Steps.{notes_left}
use Rattle.cosim_core.proofs.Walks.{zip_from, zip_rest}
use Rattle.cosim_core.proofs.handing.hand_all.Given as goal

abbrev pub invariant-loop-channel : goal.invariant-loop-channel
invariant-loop-channel l = record {
  to_client : zip_from after_pop l.channel l.hub.to_client l.hands ≡ zip_with after_pop l.initial.hub.to_client l.hands;
  count : length l.hub.to_client ≡ length l.hands;
  to_server : l.hub.to_server ≡ l.initial.hub.to_server;
  has_stream : l.hub.has_stream ≡ l.initial.hub.has_stream;
  noted : l.hub.journal.handed ++ notes_left l.hub.journal.cycles l.channel l.hub.to_client l.hands ≡ l.initial.hub.journal.handed ++ notes_left l.initial.hub.journal.cycles 0 l.initial.hub.to_client l.hands;
  taken : l.hub.journal.taken ≡ l.initial.hub.journal.taken;
  attached : l.hub.journal.attached ≡ l.initial.hub.journal.attached;
  cycles : l.hub.journal.cycles ≡ l.initial.hub.journal.cycles;
  words : l.handed ++ zip_rest word_out l.channel l.hub.to_client l.hands ≡ zip_with word_out l.initial.hub.to_client l.hands;
}
