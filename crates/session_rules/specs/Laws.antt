-- The laws of the replay, for any circuit.
use Rattle.std.specs.Prelude.{◌≡◌, ℕ, ◌+◌, ◌<◌, Bool, List, ◌++◌, length, map}
use Rattle.cycle_rules.specs.Circuit.{Bits, Circuit}
use Rattle.cycle_rules.specs.Cycle.{Machine, HasRings, after_transfers, word_handed, transfers_from}
use Rattle.cycle_rules.specs.Lists.{zip_with}
use Rattle.cycle_rules.specs.Rings.{rings_with}
use Rattle.endpoint_hub.specs.Entries.{hand_of}
use Rattle.endpoint_hub.specs.Holdings.{empty_journal, with_taken, with_attached}
use Rattle.endpoint_hub.specs.declared.journal.Journal.{Journal}
use Rattle.session_rules.specs.Replay.{empty_machine, leaving, StandsFor}
use Rattle.session_rules.specs.ReplayLemmas.{after_hands}

abbrev pub NewStands : (S : Type 0) → Type 0
NewStands S = (circuit : Circuit S) (start : S) → StandsFor circuit start (empty_machine circuit start) empty_journal

-- a value joins its ring
abbrev pub with_value : {S : Type 0} → Machine S → ℕ → Bits → Machine S
with_value machine channel word = record { to_server = rings_with machine.to_server channel word; state = machine.state; to_client = machine.to_client }

abbrev pub TakesStand : (S : Type 0) → Type 0
TakesStand S = (circuit : Circuit S) (start : S) (machine : Machine S) (journal : Journal) (channel conn stream : ℕ) (word : Bits) → channel < circuit.to_server_count
    → StandsFor circuit start machine journal → StandsFor circuit start (with_value machine channel word) (with_taken journal channel conn stream word)

abbrev pub AttachesStand : (S : Type 0) → Type 0
AttachesStand S = (circuit : Circuit S) (start : S) (machine : Machine S) (journal : Journal) (channel conn stream : ℕ)
    → StandsFor circuit start machine journal → StandsFor circuit start machine (with_attached journal channel conn stream)

abbrev pub CyclesStand : (S : Type 0) → Type 0
CyclesStand S = (circuit : Circuit S) (start : S) (machine : Machine S) (journal after : Journal) (hands : List Bool)
    → HasRings circuit machine → length hands ≡ circuit.to_client_count → StandsFor circuit start machine journal
    → after.cycles ≡ journal.cycles + 1 → after.taken ≡ journal.taken
    → after.handed ≡ journal.handed ++ map hand_of (transfers_from journal.cycles 0 (zip_with word_handed (after_transfers circuit machine).to_client hands))
    → StandsFor circuit start (after_hands circuit hands machine) after

abbrev pub CyclesLeave : (S : Type 0) → Type 0
CyclesLeave S = (circuit : Circuit S) (start : S) (machine : Machine S) (journal after : Journal) (hands : List Bool)
    → HasRings circuit machine → length hands ≡ circuit.to_client_count → StandsFor circuit start machine journal
    → after.taken ≡ journal.taken
    → after.handed ≡ journal.handed ++ map hand_of (transfers_from journal.cycles 0 (zip_with word_handed (after_transfers circuit machine).to_client hands))
    → leaving circuit start after.taken after.handed journal.cycles ≡ zip_with word_handed (after_transfers circuit machine).to_client hands
