-- What the hand of one channel does.
use Rattle.std.specs.Prelude.{◌≡◌, ℕ, Bool, [], ◌∷◌, ◌++◌, map, Option}
use Rattle.std.specs.List.{slice_set}
use Rattle.cycle_rules.specs.Circuit.{Bits}
use Rattle.cycle_rules.specs.Cycle.{word_handed, transfers_from}
use Rattle.cycle_rules.specs.Rings.{after_pop, ring_at}
use Rattle.endpoint_hub.specs.Entries.{hand_of}
use Rattle.endpoint_hub.specs.Holdings.{Holdings}
use Rattle.session_rules.specs.Hands.{word_out}

-- The channel hands the oldest word of its ring, if it hands and there is one, and this is noted.
pub record HandsAt (old new : Holdings) (channel : ℕ) (hands : Bool) (word : Option Bits) : Type 0 where
  pub word_is : word ≡ word_out (ring_at old.to_client channel) hands
  pub to_client : new.to_client ≡ slice_set old.to_client channel (after_pop (ring_at old.to_client channel) hands)
  pub to_server : new.to_server ≡ old.to_server
  pub has_stream : new.has_stream ≡ old.has_stream
  pub noted : new.journal.handed ≡ old.journal.handed ++ map hand_of (transfers_from old.journal.cycles channel (word_handed (ring_at old.to_client channel) hands ∷ []))
  pub taken : new.journal.taken ≡ old.journal.taken
  pub attached : new.journal.attached ≡ old.journal.attached
  pub cycles : new.journal.cycles ≡ old.journal.cycles
