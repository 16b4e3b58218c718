-- The law of the load: for a row without a join, whose to-server channels offer the values that stand in line there.
use Rattle.std.specs.Prelude.{◌≡◌, ℕ, zero, suc, ◌+◌, ◌*◌, ◌<◌, ◌≤◌, max, nat_lt, true, false, List, [], ◌∷◌, length, map}
use Rattle.element_laws.specs.Histories.{Channel, KeepsOffers, transfers, reached, last_refused}
use Rattle.element_laws.specs.Elements.{Contents, reset}
use Rattle.element_rows.specs.Flat.{channel_count, total, sum_below, IsFlatList, at, flow, among, Placed}
use Rattle.element_rows.specs.Rows.{Running, places, AreRunning, server_lists}
use Rattle.element_load.specs.Load.{moves, waits, refusals, AllCanTake, AreWeights, all_stored, all_owed, all_spent, load, weight}

-- what the elements hold before a cycle, and behind it
abbrev pub befores : {C : Type 0} → List (Running C) → C → List Contents
befores row cycle = map (λ r. r.before cycle) row

abbrev pub afters : {C : Type 0} → List (Running C) → C → List Contents
afters row cycle = map (λ r. r.after cycle) row

-- What happens to the load in one cycle, in sums without differences.
pub record Balances {C : Type 0} (weight : ℕ → ℕ) (channels : ℕ → Channel C) (servers : ℕ) (row : List (Running C)) (clients : List ℕ) (cycle : C) : Type 0 where
  -- what comes in with its weight is stored, goes out with its weight, or is spent
  pub balance : all_stored weight servers (places row) (afters row cycle) + all_owed weight servers (places row) (befores row cycle)
      + total (λ c. weight c * moves (channels c cycle)) clients + all_spent (λ c. channels c cycle) servers (places row)
      ≡ all_stored weight servers (places row) (befores row cycle) + all_owed weight servers (places row) (afters row cycle)
      + sum_below (λ c. weight c * moves (channels c cycle)) servers
  -- no more is taken off and offered than there is, before the cycle and behind it
  pub covered : all_owed weight servers (places row) (befores row cycle) + total (λ c. weight c * waits (channels c cycle)) clients
      ≤ all_stored weight servers (places row) (befores row cycle) + sum_below (λ c. weight c * waits (channels c cycle)) servers
  pub left_covered : all_owed weight servers (places row) (afters row cycle) + total (λ c. weight c * refusals (channels c cycle)) clients
      ≤ all_stored weight servers (places row) (afters row cycle) + sum_below (λ c. weight c * refusals (channels c cycle)) servers
  -- where nothing is spent and nothing is offered to the clients, nothing is stored and nothing is offered at all
  pub still_holds : all_spent (λ c. channels c cycle) servers (places row) ≡ 0 → total (λ c. waits (channels c cycle)) clients ≡ 0
      → all_stored weight servers (places row) (befores row cycle) ≡ 0
  pub still_waits : all_spent (λ c. channels c cycle) servers (places row) ≡ 0 → total (λ c. waits (channels c cycle)) clients ≡ 0
      → (c : ℕ) → c < channel_count servers (places row) → waits (channels c cycle) ≡ 0

-- a row in a run, with weights
pub record IsLoaded {C : Type 0} (weight : ℕ → ℕ) (channels : ℕ → Channel C) (servers : ℕ) (row : List (Running C)) (clients : List ℕ) (history : List C) : Type 0 where
  pub flat : IsFlatList servers (places row) clients
  pub can_take : AllCanTake (places row)
  pub weights : AreWeights weight servers (places row) clients
  pub running : AreRunning channels servers row history
  pub keeps : (c : ℕ) → c < servers → KeepsOffers (channels c) history

abbrev pub LoadsBalance : Type 0 → Type 0
LoadsBalance C = (weight : ℕ → ℕ) (channels : ℕ → Channel C) (servers : ℕ) (row : List (Running C)) (clients : List ℕ) (cycle : C) (earlier : List C)
    → IsLoaded weight channels servers row clients (cycle ∷ earlier) → Balances weight channels servers row clients cycle

-- ---- weights

-- the computed weights stand in the relation, and are the only ones where no element is a join
abbrev pub WeightsAreExact : Type 0
WeightsAreExact = (servers : ℕ) (placed : List Placed) (clients : List ℕ) → IsFlatList servers placed clients → AreWeights (weight servers placed clients) servers placed clients

abbrev pub WeightsAreOnly : Type 0
WeightsAreOnly = (weights : ℕ → ℕ) (servers : ℕ) (placed : List Placed) (clients : List ℕ)
    → IsFlatList servers placed clients → AllCanTake placed → AreWeights weights servers placed clients
    → (c : ℕ) → c < channel_count servers placed → weights c ≡ weight servers placed clients c

-- ---- one cycle with values in line

-- The to-server channels in one cycle: each offers a word exactly where values stand in line there, and loses one of them
-- where it is transferred. `in_line` and `left` are how many stand in line before the cycle and behind it.
pub record OffersLine {C : Type 0} (channels : ℕ → Channel C) (servers : ℕ) (in_line left : ℕ → ℕ) (cycle : C) : Type 0 where
  pub offers : (c : ℕ) → c < servers → (channels c cycle).valid ≡ nat_lt 0 (in_line c)
  pub loses : (c : ℕ) → c < servers → left c + moves (channels c cycle) ≡ in_line c

-- all to-client channels are ready
pub record AreReady {C : Type 0} (channels : ℕ → Channel C) (clients : List ℕ) (cycle : C) : Type 0 where
  pub ready : (c : ℕ) → among c clients ≡ true → (channels c cycle).ready ≡ true

-- what the load loses in one cycle: two where a word goes out, and what is spent in the elements
abbrev pub lost : {C : Type 0} → (ℕ → Channel C) → ℕ → List (Running C) → List ℕ → C → ℕ
lost channels servers row clients cycle = total (λ c. 2 * moves (channels c cycle)) clients + all_spent (λ c. channels c cycle) servers (places row)

-- No cycle lets the load rise, and it falls in each cycle in which all clients are ready and load is left.
pub record LoadFalls {C : Type 0} (weight : ℕ → ℕ) (channels : ℕ → Channel C) (servers : ℕ) (row : List (Running C)) (clients : List ℕ) (in_line left : ℕ → ℕ) (cycle : C) : Type 0 where
  pub loses : load weight servers (places row) left (afters row cycle) + lost channels servers row clients cycle ≡ load weight servers (places row) in_line (befores row cycle)
  pub falls : AreReady channels clients cycle → 0 < load weight servers (places row) in_line (befores row cycle)
      → load weight servers (places row) left (afters row cycle) < load weight servers (places row) in_line (befores row cycle)

abbrev pub LoadsFall : Type 0 → Type 0
LoadsFall C = (weight : ℕ → ℕ) (channels : ℕ → Channel C) (servers : ℕ) (row : List (Running C)) (clients : List ℕ) (cycle : C) (earlier : List C) (in_line left : ℕ → ℕ)
    → IsLoaded weight channels servers row clients (cycle ∷ earlier) → OffersLine channels servers in_line left cycle
    → LoadFalls weight channels servers row clients in_line left cycle

-- ---- the load of a whole run

-- what the elements hold behind a history
abbrev pub contents_after : {C : Type 0} → List (Running C) → List C → List Contents
contents_after row history = map (λ r. reached r.after (reset r.placed.element) history) row

-- what the load lost in all cycles so far
abbrev pub all_lost : {C : Type 0} → (ℕ → Channel C) → ℕ → List (Running C) → List ℕ → List C → ℕ
all_lost channels servers row clients [] = 0
all_lost channels servers row clients (cycle ∷ earlier) = lost channels servers row clients cycle + all_lost channels servers row clients earlier

-- the greatest value below a bound, 0 where there is none
abbrev pub greatest : (ℕ → ℕ) → ℕ → ℕ
greatest f zero = 0
greatest f (suc n) = max (greatest f n) (f n)

-- The load behind a history, and all that was lost, are the values that came in or stand in line, each with the weight of its
-- channel. So the load is at most the greatest of these weights for each of these values.
pub record LoadIs {C : Type 0} (weight : ℕ → ℕ) (channels : ℕ → Channel C) (servers : ℕ) (row : List (Running C)) (clients : List ℕ) (in_line : ℕ → ℕ) (history : List C) : Type 0 where
  pub is : load weight servers (places row) in_line (contents_after row history) + all_lost channels servers row clients history
      ≡ sum_below (λ c. weight c * (length (transfers (channels c) history) + in_line c)) servers
  pub within : load weight servers (places row) in_line (contents_after row history)
      ≤ greatest weight servers * sum_below (λ c. length (transfers (channels c) history) + in_line c) servers

-- where a word that was refused in the newest cycle still stands in line
abbrev pub LoadsOfRuns : Type 0 → Type 0
LoadsOfRuns C = (weight : ℕ → ℕ) (channels : ℕ → Channel C) (servers : ℕ) (row : List (Running C)) (clients : List ℕ) (in_line : ℕ → ℕ) (history : List C)
    → IsLoaded weight channels servers row clients history → ((c : ℕ) → c < servers → length (last_refused (channels c) history) ≤ in_line c)
    → LoadIs weight channels servers row clients in_line history

-- ---- nothing is missing

-- The newest cycles of a history, so many and one more, in which all clients are ready and nothing joins the lines.
abbrev pub Drains : {C : Type 0} → (ℕ → Channel C) → ℕ → List ℕ → (C → ℕ → ℕ) → (C → ℕ → ℕ) → ℕ → List C → Type 0
Drains channels servers clients in_line left count [] = ⊥
Drains channels servers clients in_line left zero (cycle ∷ earlier) = OffersLine channels servers (in_line cycle) (left cycle) cycle × AreReady channels clients cycle
Drains channels servers clients in_line left (suc count) (cycle ∷ []) = ⊥
Drains channels servers clients in_line left (suc count) (cycle ∷ old ∷ earlier) =
    OffersLine channels servers (in_line cycle) (left cycle) cycle × AreReady channels clients cycle
    × ((c : ℕ) → c < servers → in_line cycle c ≡ left old c)
    × Drains channels servers clients in_line left count (old ∷ earlier)

-- the load before the first of these cycles
abbrev pub first_load : {C : Type 0} → (ℕ → ℕ) → ℕ → List (Running C) → (C → ℕ → ℕ) → ℕ → List C → ℕ
first_load weight servers row in_line count [] = 0
first_load weight servers row in_line zero (cycle ∷ earlier) = load weight servers (places row) (in_line cycle) (befores row cycle)
first_load weight servers row in_line (suc count) (cycle ∷ earlier) = first_load weight servers row in_line count earlier

-- All has arrived: no value stands in line, no channel offers a word, and what was transferred on each channel is the whole
-- stream of what was transferred on the to-server channels.
pub record HasArrived {C : Type 0} (channels : ℕ → Channel C) (servers : ℕ) (row : List (Running C)) (in_line : ℕ → ℕ) (cycle : C) (earlier : List C) : Type 0 where
  pub no_line : (c : ℕ) → c < servers → in_line c ≡ 0
  pub silent : (c : ℕ) → c < channel_count servers (places row) → (channels c cycle).valid ≡ false
  pub whole : (c : ℕ) → c < channel_count servers (places row)
      → transfers (channels c) (cycle ∷ earlier) ≡ at (flow (places row) (server_lists (λ d. transfers (channels d) (cycle ∷ earlier)) servers)) c

-- After as many of these cycles as the load was before the first of them, all has arrived.
abbrev pub AllArrive : Type 0 → Type 0
AllArrive C = (weight : ℕ → ℕ) (channels : ℕ → Channel C) (servers : ℕ) (row : List (Running C)) (clients : List ℕ) (in_line left : C → ℕ → ℕ)
    (count : ℕ) (cycle : C) (earlier : List C)
    → IsLoaded weight channels servers row clients (cycle ∷ earlier) → Drains channels servers clients in_line left count (cycle ∷ earlier)
    → first_load weight servers row in_line count (cycle ∷ earlier) ≤ count
    → HasArrived channels servers row (in_line cycle) cycle earlier
