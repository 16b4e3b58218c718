-- The journal of a session, played again cycle by cycle.
use Rattle.std.specs.Prelude.{ℕ, zero, suc, ◌==◌, ◌&&◌, Bool, true, false, List, map, filter}
use Rattle.std.specs.List.{list_any}
use Rattle.cycle_rules.specs.Circuit.{Bits}
use Rattle.cycle_rules.specs.Cycle.{Machine, after_takes, machine_after}
use Rattle.serve_acts.specs.Journal.{Taken, Handed}
use Rattle.serve_acts.specs.Machines.{each, new_machine}
use Rattle.serve_acts.specs.Served.{Served}

-- what the journal says of a channel in a cycle: the words that were taken, and whether one was handed
abbrev pub is_taken_at : ℕ → ℕ → Taken → Bool
is_taken_at n k entry = (entry.cycle == n) && (entry.call.channel == k)

abbrev pub words_at : ℕ → ℕ → List Taken → List Bits
words_at n k entries = map (λ (entry : Taken). entry.call.word) (filter (is_taken_at n k) entries)

abbrev pub is_handed_at : ℕ → ℕ → Handed → Bool
is_handed_at n k entry = (entry.cycle == n) && (entry.channel == k)

abbrev pub hands_at : ℕ → ℕ → List Handed → Bool
hands_at n k entries = list_any (is_handed_at n k) entries

-- the circuit and its rings after so many cycles of the journal
abbrev pub replayed : {S : Type 0} → Served S → List Taken → List Handed → ℕ → Machine S
replayed served takes hands zero = new_machine served
replayed served takes hands (suc n) =
    machine_after served.circuit (each served.circuit.to_server_count (λ k. words_at n k takes)) (each served.circuit.to_client_count (λ k. hands_at n k hands)) (replayed served takes hands n)

-- part of the way through a cycle: its transfers have moved and it has handed so far, or it has taken so far
abbrev pub partway : {S : Type 0} → Served S → Bool → ℕ → List Taken → List Handed → Machine S
partway served true n takes hands = replayed served takes hands (suc n)
partway served false n takes hands = after_takes (each served.circuit.to_server_count (λ k. words_at n k takes)) (replayed served takes hands n)
