-- The journal of a session, played again cycle by cycle from an empty start.
use Rattle.std.specs.Prelude.{◌≡◌, ℕ, zero, suc, ◌+◌, ◌<◌, ◌≤◌, ◌==◌, ◌&&◌, Bool, List, [], ◌∷◌, ◌++◌, map, filter, replicate}
use Rattle.std.specs.List.{list_any, AllByRecursion}
use Rattle.cycle_rules.specs.Circuit.{Bits, Circuit}
use Rattle.cycle_rules.specs.Cycle.{Machine, after_takes, machine_after, values_handed}
use Rattle.cycle_rules.specs.Rings.{ring_at}
use Rattle.endpoint_hub.specs.declared.journal.Handed.{Handed}
use Rattle.endpoint_hub.specs.declared.journal.Journal.{Journal}
use Rattle.endpoint_hub.specs.declared.journal.Taken.{Taken}

-- what f says of each of so many channels
abbrev pub each : {A : Type 0} → ℕ → (ℕ → A) → List A
each zero f = []
each (suc count) f = f 0 ∷ each count (λ k. f (suc k))

-- what a journal notes of a channel in a cycle: the words that were taken, and whether one was handed
abbrev pub is_taken_at : ℕ → ℕ → Taken → Bool
is_taken_at cycle channel entry = (entry.cycle == cycle) && (entry.channel == channel)

abbrev pub words_at : ℕ → ℕ → List Taken → List Bits
words_at cycle channel taken = map (λ (entry : Taken). entry.word) (filter (is_taken_at cycle channel) taken)

abbrev pub is_handed_at : ℕ → ℕ → Handed → Bool
is_handed_at cycle channel entry = (entry.cycle == cycle) && (entry.channel == channel)

abbrev pub hands_at : ℕ → ℕ → List Handed → Bool
hands_at cycle channel handed = list_any (is_handed_at cycle channel) handed

-- the values that enter the rings in a cycle, and the channels that hand in it
abbrev pub entering : {S : Type 0} → Circuit S → List Taken → ℕ → List (List Bits)
entering circuit taken cycle = each circuit.to_server_count (λ k. words_at cycle k taken)

abbrev pub handing : {S : Type 0} → Circuit S → List Handed → ℕ → List Bool
handing circuit handed cycle = each circuit.to_client_count (λ k. hands_at cycle k handed)

-- empty rings, and the circuit at its start
abbrev pub empty_machine : {S : Type 0} → Circuit S → S → Machine S
empty_machine circuit start = record { to_server = replicate circuit.to_server_count []; state = start; to_client = replicate circuit.to_client_count [] }

-- the circuit and its rings after so many cycles
unfoldable pub replayed : {S : Type 0} → Circuit S → S → List Taken → List Handed → ℕ → Machine S
replayed circuit start taken handed zero = empty_machine circuit start
replayed circuit start taken handed (suc n) = machine_after circuit (entering circuit taken n) (handing circuit handed n) (replayed circuit start taken handed n)

-- the words that leave the to-client rings in a cycle, at most one of each
abbrev pub leaving : {S : Type 0} → Circuit S → S → List Taken → List Handed → ℕ → List (List Bits)
leaving circuit start taken handed cycle = values_handed circuit (entering circuit taken cycle) (handing circuit handed cycle) (replayed circuit start taken handed cycle)

-- all words that leave a channel's ring in so many cycles
unfoldable pub outs : {S : Type 0} → Circuit S → S → List Taken → List Handed → ℕ → ℕ → List Bits
outs circuit start taken handed channel zero = []
outs circuit start taken handed channel (suc n) = outs circuit start taken handed channel n ++ ring_at (leaving circuit start taken handed n) channel

-- A circuit and its rings stand for a journal: they are those of the journal played again, with the values that the cycle that runs has
-- taken so far. The journal notes nothing of later cycles, and no hand of the cycle that runs.
pub record StandsFor {S : Type 0} (circuit : Circuit S) (start : S) (machine : Machine S) (journal : Journal) : Type 0 where
  pub machine_is : machine ≡ after_takes (entering circuit journal.taken journal.cycles) (replayed circuit start journal.taken journal.handed journal.cycles)
  pub taken : AllByRecursion (λ (entry : Taken). entry.cycle ≤ journal.cycles) journal.taken
  pub handed : AllByRecursion (λ (entry : Handed). entry.cycle < journal.cycles) journal.handed
