-- One cycle of a circuit between its rings, for any circuit and any number of channels. What is taken into the rings and which
-- channels are to hand out a value is given, so that these words serve a simulation, a server and a journal that is played
-- again.
use Rattle.std.specs.Prelude.{◌≡◌, ℕ, ◌+◌, Bool, if◌then◌else◌, List, [], ◌∷◌, ◌++◌, length, map, Option, option_to_list}
use Rattle.cycle_rules.specs.Circuit.{Bits, Circuit}
use Rattle.cycle_rules.specs.Lists.{zip_with, first}
use Rattle.cycle_rules.specs.Rings.{has_room, after_pop, after_push}
use Rattle.cycle_rules.specs.declared.transfer.Transfer.{Transfer}

-- the circuit and its rings between two cycles
pub record Machine (S : Type 0) : Type 0 where
  pub to_server : List (List Bits)
  pub state : S
  pub to_client : List (List Bits)

-- there is a ring for each channel of the circuit
pub record HasRings {S : Type 0} (circuit : Circuit S) (machine : Machine S) : Type 0 where
  pub to_server : length machine.to_server ≡ circuit.to_server_count
  pub to_client : length machine.to_client ≡ circuit.to_client_count

-- takes: the values that are taken join the ends of the to-server rings
abbrev pub after_takes : {S : Type 0} → List (List Bits) → Machine S → Machine S
after_takes entering machine = record machine { to_server = zip_with (λ ring values. ring ++ values) machine.to_server entering }

-- settle: each to-server ring offers its oldest word, and a to-client ring has room or not
abbrev pub offers : List (List Bits) → List (Option Bits)
offers rings = map first rings

abbrev pub rooms : List (List Bits) → List Bool
rooms rings = map has_room rings

-- transfers: all of them at once, on what stands after the takes; a to-server ring loses its oldest word where the circuit
-- takes it, and a to-client ring with room gets the word that the circuit offers it
abbrev pub after_transfers : {S : Type 0} → Circuit S → Machine S → Machine S
after_transfers circuit machine = record {
  to_server = zip_with after_pop machine.to_server (circuit.readies machine.state (offers machine.to_server) (rooms machine.to_client));
  state = circuit.next machine.state (offers machine.to_server) (rooms machine.to_client);
  to_client = zip_with after_push machine.to_client (circuit.words machine.state (offers machine.to_server) (rooms machine.to_client));
}

-- hands: a channel that is to hand out a value hands the oldest word of its ring, which loses it
abbrev pub word_handed : List Bits → Bool → List Bits
word_handed ring hands = if hands then option_to_list (first ring) else []

-- what the rings and the circuit hold after a cycle, given what is taken and who hands
abbrev pub machine_after : {S : Type 0} → Circuit S → List (List Bits) → List Bool → Machine S → Machine S
machine_after circuit entering hands machine =
    let moved = after_transfers circuit (after_takes entering machine) in
    record moved { to_client = zip_with after_pop moved.to_client hands }

-- the values handed in that cycle, at most one for each to-client channel
abbrev pub values_handed : {S : Type 0} → Circuit S → List (List Bits) → List Bool → Machine S → List (List Bits)
values_handed circuit entering hands machine = zip_with word_handed (after_transfers circuit (after_takes entering machine)).to_client hands

-- the values of a cycle as entries of a journal: channel by channel from this one on, first come first
abbrev pub transfers_from : ℕ → ℕ → List (List Bits) → List Transfer
transfers_from cycle channel [] = []
transfers_from cycle channel (values ∷ others) =
    map (λ word. record { cycle = cycle; channel = channel; word = word }) values ++ transfers_from cycle (channel + 1) others
