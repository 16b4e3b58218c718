-- What moves between the rings and the circuit.
use Rattle.std.specs.Prelude.{ℕ, if◌then◌else◌, Bool, false, Option, None, option_to_list, List, [], ◌∷◌, ◌++◌, map, filter, slice_index_or}
use Rattle.cycle_rules.specs.Circuit.{Bits, Circuit}
use Rattle.cycle_rules.specs.Cycle.{Machine, offers, rooms}
use Rattle.cycle_rules.specs.Lists.{first}
use Rattle.cycle_rules.specs.Rings.{has_room, ring_at}
use Rattle.serve_acts.specs.Acts.{Act}
use Rattle.serve_acts.specs.Acts.Act.{Settles}
use Rattle.serve_acts.specs.Machines.{machine}
use Rattle.serve_acts.specs.Calls.{is_on, taken}
use Rattle.serve_acts.specs.Served.{Served}
use Rattle.serve_acts.specs.declared.call.Call.{Call}

-- the word that the circuit offers on a to-client channel moves where the ring has room
abbrev pub word_moved : List Bits → Option Bits → List Bits
word_moved ring word = if has_room ring then option_to_list word else []

-- the words that the circuit offers where the machine stands so
abbrev pub words_offered : {S : Type 0} → Circuit S → Machine S → List (Option Bits)
words_offered circuit machine = circuit.words machine.state (offers machine.to_server) (rooms machine.to_client)

-- the words that moved out of the circuit on a channel, in order
abbrev pub words_out : {S : Type 0} → Served S → ℕ → List Act → List Bits
words_out served k [] = []
words_out served k (Settles ∷ t) =
    words_out served k t ++ word_moved (ring_at (machine served t).to_client k) (slice_index_or (words_offered served.circuit (machine served t)) k None)
words_out served k (act ∷ t) = words_out served k t

-- the circuit takes the oldest word of a to-server ring, where it is ready
abbrev pub word_taken : List Bits → Bool → List Bits
word_taken ring ready = if ready then option_to_list (first ring) else []

abbrev pub offers_taken : {S : Type 0} → Circuit S → Machine S → List Bool
offers_taken circuit machine = circuit.readies machine.state (offers machine.to_server) (rooms machine.to_client)

-- the words that moved into the circuit on a channel, in order
abbrev pub words_in : {S : Type 0} → Served S → ℕ → List Act → List Bits
words_in served k [] = []
words_in served k (Settles ∷ t) =
    words_in served k t ++ word_taken (ring_at (machine served t).to_server k) (slice_index_or (offers_taken served.circuit (machine served t)) k false)
words_in served k (act ∷ t) = words_in served k t

-- the words of the values that were taken on a channel, in order
abbrev pub words_taken : ℕ → List Act → List Bits
words_taken k t = map (λ (call : Call). call.word) (filter (is_on k) (taken t))
