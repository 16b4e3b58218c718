-- A session from its first cycle on: values are put, wait, go through rings and the row, and are handed. All of them are numbers of values, by
-- channels. A history is the list of the cycles so far, the newest first.
use Rattle.std.specs.Prelude.{◌≡◌, ℕ, zero, suc, ◌+◌, ◌*◌, ◌<◌, true, List, [], ◌∷◌, length}
use Rattle.element_laws.specs.Histories.{Channel, transfers}
use Rattle.element_rows.specs.Flat.{channel_count, sum_below, among, at, flow}
use Rattle.element_rows.specs.Rows.{Running, places, server_lists}
use Rattle.element_load.specs.LoadLaws.{IsLoaded, greatest}
use Rattle.session_load.specs.Session.{Queues, SessionCycle}

-- What is known of each cycle: how many values are put before it, what is queued before it, with those, and behind it, what stands in line before
-- the to-server channels, and what is handed.
pub record Account (C : Type 0) : Type 0 where
  pub puts : C → ℕ → ℕ
  pub old : C → Queues
  pub new : C → Queues
  pub in_line : C → ℕ → ℕ
  pub handed : C → ℕ → ℕ

abbrev pub nothing_queued : Queues
nothing_queued = record { waiting = λ c. 0; to_server = λ c. 0; to_client = λ c. 0 }

-- what is queued behind a history
abbrev pub left_by : {C : Type 0} → Account C → List C → Queues
left_by account [] = nothing_queued
left_by account (cycle ∷ earlier) = account.new cycle

-- A cycle begins with what the one before it left, and with what is put.
pub record BeginsWith (servers : ℕ) (clients : List ℕ) (puts : ℕ → ℕ) (left old : Queues) : Type 0 where
  pub waiting : (c : ℕ) → c < servers → old.waiting c ≡ left.waiting c + puts c
  pub to_server : (c : ℕ) → c < servers → old.to_server c ≡ left.to_server c
  pub to_client : (c : ℕ) → among c clients ≡ true → old.to_client c ≡ left.to_client c

abbrev pub IsSession : {C : Type 0} → (ℕ → Channel C) → ℕ → List ℕ → Account C → List C → Type 0
IsSession channels servers clients account [] = Unit {0}
IsSession channels servers clients account (cycle ∷ earlier) =
    SessionCycle channels servers clients (account.old cycle) (account.new cycle) (account.in_line cycle) (account.handed cycle) cycle
    × BeginsWith servers clients (account.puts cycle) (left_by account earlier) (account.old cycle)
    × IsSession channels servers clients account earlier

-- how many values were put in all, and on one channel, and how many were handed on one
abbrev pub all_puts : {C : Type 0} → Account C → ℕ → List C → ℕ
all_puts account servers [] = 0
all_puts account servers (cycle ∷ earlier) = sum_below (account.puts cycle) servers + all_puts account servers earlier

abbrev pub puts_on : {C : Type 0} → Account C → ℕ → List C → ℕ
puts_on account c [] = 0
puts_on account c (cycle ∷ earlier) = account.puts cycle c + puts_on account c earlier

abbrev pub handed_on : {C : Type 0} → Account C → ℕ → List C → ℕ
handed_on account c [] = 0
handed_on account c (cycle ∷ earlier) = account.handed cycle c + handed_on account c earlier

-- in the newest cycles, so many, nothing is put
abbrev pub Quiet : {C : Type 0} → Account C → ℕ → ℕ → List C → Type 0
Quiet account servers zero history = Unit {0}
Quiet account servers (suc count) [] = ⊥
Quiet account servers (suc count) (cycle ∷ earlier) = (sum_below (account.puts cycle) servers ≡ 0) × Quiet account servers count earlier

-- Nothing is missing: nothing is queued, each value that was put went in, each that went out was handed, and what was transferred on each channel is
-- the whole stream of what was transferred on the to-server channels.
pub record HasSettled {C : Type 0} (channels : ℕ → Channel C) (servers : ℕ) (row : List (Running C)) (clients : List ℕ) (account : Account C) (cycle : C) (earlier : List C) : Type 0 where
  pub none_waits : (c : ℕ) → c < servers → (account.new cycle).waiting c ≡ 0
  pub none_in_line : (c : ℕ) → c < servers → (account.new cycle).to_server c ≡ 0
  pub none_out : (c : ℕ) → among c clients ≡ true → (account.new cycle).to_client c ≡ 0
  pub all_in : (c : ℕ) → c < servers → length (transfers (channels c) (cycle ∷ earlier)) ≡ puts_on account c (cycle ∷ earlier)
  pub all_handed : (c : ℕ) → among c clients ≡ true → handed_on account c (cycle ∷ earlier) ≡ length (transfers (channels c) (cycle ∷ earlier))
  pub whole : (c : ℕ) → c < channel_count servers (places row)
      → transfers (channels c) (cycle ∷ earlier) ≡ at (flow (places row) (server_lists (λ d. transfers (channels d) (cycle ∷ earlier)) servers)) c

-- In a session without joins that ends with more quiet cycles than 1 + W for each value that was put, where W is the greatest weight of a to-server
-- channel, nothing is missing. So 2 + W for each value that was put are enough, where any was.
abbrev pub SessionsSettle : Type 0 → Type 0
SessionsSettle C = (weight : ℕ → ℕ) (channels : ℕ → Channel C) (servers : ℕ) (row : List (Running C)) (clients : List ℕ) (account : Account C) (count : ℕ) (cycle : C) (earlier : List C)
    → IsLoaded weight channels servers row clients (cycle ∷ earlier) → IsSession channels servers clients account (cycle ∷ earlier)
    → Quiet account servers count (cycle ∷ earlier) → (1 + greatest weight servers) * all_puts account servers (cycle ∷ earlier) < count
    → HasSettled channels servers row clients account cycle earlier
