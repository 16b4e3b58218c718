-- What a cycle does to a hub between which and its rings a circuit stands, for any number of channels: the calls of a cycle, in
-- their order, and what they come to by the rules of a cycle.
use Rattle.std.specs.Prelude.{◌≡◌, ℕ, ◌+◌, Bool, if◌then◌else◌, List, [], ◌∷◌, ◌++◌, map, Option, Some, None}
use Rattle.cycle_rules.specs.Circuit.{Bits, Circuit}
use Rattle.cycle_rules.specs.Cycle.{Machine, HasRings, offers, rooms, after_takes, after_transfers, machine_after, values_handed, transfers_from}
use Rattle.cycle_rules.specs.Rings.{has_room}
use Rattle.endpoint_hub.specs.Entries.{transfer_of, hand_of}
use Rattle.endpoint_hub.specs.Holdings.{Holdings}
use Rattle.endpoint_hub.specs.Runs.{Call}
use Rattle.endpoint_hub.specs.Runs.Call.{Take, Pop, Push, Hand, NextCycle}
use Rattle.endpoint_hub.specs.declared.journal.Taken.{Taken}

-- a value that is to be taken, with its sender
pub record Arrival : Type 0 where
  pub conn : ℕ
  pub stream : ℕ
  pub word : Bits

abbrev pub words_of_arrivals : List Arrival → List Bits
words_of_arrivals arrivals = map (λ a. a.word) arrivals

-- the hub's rings, with a circuit in this state between them
abbrev pub machine_of : {S : Type 0} → Holdings → S → Machine S
machine_of hub state = record { to_server = hub.to_server; state = state; to_client = hub.to_client }

-- the entries of the values that are taken in a cycle: channel by channel from this one on, first come first
abbrev pub entry_of : ℕ → ℕ → Arrival → Taken
entry_of cycle channel a = record { cycle = cycle; channel = channel; conn = a.conn; stream = a.stream; word = a.word }

abbrev pub entries_from : ℕ → ℕ → List (List Arrival) → List Taken
entries_from cycle channel [] = []
entries_from cycle channel (arrivals ∷ others) = map (entry_of cycle channel) arrivals ++ entries_from cycle (channel + 1) others

-- The calls of the four parts of a cycle, channel by channel from one on. Takes: each value that is to be taken.
abbrev pub takes_of : ℕ → List Arrival → List Call
takes_of channel arrivals = map (λ a. Take channel a.conn a.stream a.word) arrivals

abbrev pub takes_from : ℕ → List (List Arrival) → List Call
takes_from channel [] = []
takes_from channel (arrivals ∷ others) = takes_of channel arrivals ++ takes_from (channel + 1) others

-- transfers into the circuit: each ring that is not empty, where the circuit takes what it offers
abbrev pub pop_of : ℕ → List Bits → Bool → List Call
pop_of channel [] ready = []
pop_of channel (word ∷ ring) ready = if ready then Pop channel word ∷ [] else []

abbrev pub pops_from : ℕ → List (List Bits) → List Bool → List Call
pops_from channel [] readies = []
pops_from channel (ring ∷ rings) [] = []
pops_from channel (ring ∷ rings) (ready ∷ readies) = pop_of channel ring ready ++ pops_from (channel + 1) rings readies

-- transfers out of the circuit: each ring with room, where the circuit offers a word
abbrev pub push_of : ℕ → List Bits → Option Bits → List Call
push_of channel ring None = []
push_of channel ring (Some word) = if has_room ring then Push channel word ∷ [] else []

abbrev pub pushes_from : ℕ → List (List Bits) → List (Option Bits) → List Call
pushes_from channel [] words = []
pushes_from channel (ring ∷ rings) [] = []
pushes_from channel (ring ∷ rings) (word ∷ words) = push_of channel ring word ++ pushes_from (channel + 1) rings words

-- hands: each ring that is not empty, where the channel is to hand
abbrev pub hands_of : ℕ → List Bits → Bool → List Call
hands_of channel [] hands = []
hands_of channel (word ∷ ring) hands = if hands then Hand channel word ∷ [] else []

abbrev pub hands_from : ℕ → List (List Bits) → List Bool → List Call
hands_from channel [] hands = []
hands_from channel (ring ∷ rings) [] = []
hands_from channel (ring ∷ rings) (hand ∷ hands) = hands_of channel ring hand ++ hands_from (channel + 1) rings hands

-- The transfers of a circuit on what stands in its rings, and then the hands on what stands then.
abbrev pub calls_after_takes : {S : Type 0} → Circuit S → List Bool → Machine S → List Call
calls_after_takes circuit hands machine =
    pops_from 0 machine.to_server (circuit.readies machine.state (offers machine.to_server) (rooms machine.to_client))
    ++ (pushes_from 0 machine.to_client (circuit.words machine.state (offers machine.to_server) (rooms machine.to_client))
    ++ (hands_from 0 (after_transfers circuit machine).to_client hands ++ NextCycle ∷ []))

-- all calls of a cycle
abbrev pub calls_of_cycle : {S : Type 0} → Circuit S → List (List Arrival) → List Bool → Machine S → List Call
calls_of_cycle circuit arrivals hands machine =
    takes_from 0 arrivals ++ calls_after_takes circuit hands (after_takes (map words_of_arrivals arrivals) machine)

-- What a cycle comes to: the rings are those of the rules of a cycle, no ring is lost, and the journal notes what these rules
-- say is taken and handed.
pub record IsCycle {S : Type 0} (circuit : Circuit S) (arrivals : List (List Arrival)) (hands : List Bool) (state : S) (old new : Holdings) : Type 0 where
  pub to_server : new.to_server ≡ (machine_after circuit (map words_of_arrivals arrivals) hands (machine_of old state)).to_server
  pub to_client : new.to_client ≡ (machine_after circuit (map words_of_arrivals arrivals) hands (machine_of old state)).to_client
  pub channels : HasRings circuit (machine_of new state)
  pub taken : new.journal.taken ≡ old.journal.taken ++ entries_from old.journal.cycles 0 arrivals
  pub transfers : map transfer_of (entries_from old.journal.cycles 0 arrivals) ≡ transfers_from old.journal.cycles 0 (map words_of_arrivals arrivals)
  pub handed : new.journal.handed
      ≡ old.journal.handed ++ map hand_of (transfers_from old.journal.cycles 0 (values_handed circuit (map words_of_arrivals arrivals) hands (machine_of old state)))
  pub cycles : new.journal.cycles ≡ old.journal.cycles + 1
  pub attached : new.journal.attached ≡ old.journal.attached
