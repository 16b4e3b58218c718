-- A row in a session: values wait before its to-server channels, stand in rings there, and stand in rings behind its
-- to-client channels until they are handed. Here all of them are numbers of values.
use Rattle.std.specs.Prelude.{◌≡◌, ℕ, ◌+◌, ◌-◌, ◌*◌, ◌<◌, ◌≤◌, true, List, ◌∷◌, length}
use Rattle.element_laws.specs.Histories.{Channel, last_refused}
use Rattle.element_laws.specs.Elements.{Contents}
use Rattle.element_rows.specs.Flat.{Placed, among, total, sum_below}
use Rattle.element_rows.specs.Rows.{Running, places}
use Rattle.element_load.specs.Load.{moves, all_spent, load}
use Rattle.element_load.specs.LoadLaws.{IsLoaded, OffersLine, befores, afters}

-- how many values wait and stand in rings, by channels
pub record Queues : Type 0 where
  pub waiting : ℕ → ℕ
  pub to_server : ℕ → ℕ
  pub to_client : ℕ → ℕ

-- One cycle: values are taken into the to-server rings, transferred, and handed out of the to-client rings. `in_line` is what
-- stands in the to-server rings once values are taken, and `handed` is what is handed.
pub record SessionCycle {C : Type 0} (channels : ℕ → Channel C) (servers : ℕ) (clients : List ℕ) (old new : Queues) (in_line handed : ℕ → ℕ) (cycle : C) : Type 0 where
  -- what leaves the waiting values joins the ring; and where nothing stands in the ring then, nothing waits
  pub takes : (c : ℕ) → c < servers → old.waiting c + old.to_server c ≡ new.waiting c + in_line c
  pub takes_on : (c : ℕ) → c < servers → new.waiting c ≤ old.waiting c
  pub takes_some : (c : ℕ) → c < servers → in_line c ≡ 0 → new.waiting c ≡ 0
  pub line : OffersLine channels servers in_line new.to_server cycle
  -- an empty ring has room; and where nothing is handed, nothing stands in the ring
  pub has_room : (c : ℕ) → among c clients ≡ true → old.to_client c ≡ 0 → (channels c cycle).ready ≡ true
  pub hands : (c : ℕ) → among c clients ≡ true → new.to_client c + handed c ≡ old.to_client c + moves (channels c cycle)
  pub hands_some : (c : ℕ) → among c clients ≡ true → handed c ≡ 0 → old.to_client c + moves (channels c cycle) ≡ 0

-- The load of a session: a value that waits counts 1 more than the weight of its channel, one in a to-server ring that weight,
-- one in a to-client ring 1; and the row counts what it holds.
abbrev pub session_load : (ℕ → ℕ) → ℕ → List Placed → List ℕ → Queues → List Contents → ℕ
session_load weight servers placed clients queues contents =
    sum_below (λ c. (1 + weight c) * queues.waiting c) servers + load weight servers placed queues.to_server contents + total queues.to_client clients

-- what it loses in one cycle: one for each value that is taken, goes out or is handed, and what is spent in the elements
abbrev pub session_lost : {C : Type 0} → (ℕ → Channel C) → ℕ → List (Running C) → List ℕ → Queues → Queues → (ℕ → ℕ) → C → ℕ
session_lost channels servers row clients old new handed cycle =
    sum_below (λ c. old.waiting c - new.waiting c) servers + total (λ c. moves (channels c cycle)) clients
    + all_spent (λ c. channels c cycle) servers (places row) + total handed clients

-- In each cycle the load of a session loses just that, and it falls while there is any.
pub record SessionFalls {C : Type 0} (weight : ℕ → ℕ) (channels : ℕ → Channel C) (servers : ℕ) (row : List (Running C)) (clients : List ℕ) (old new : Queues) (handed : ℕ → ℕ) (cycle : C) : Type 0 where
  pub loses : session_load weight servers (places row) clients new (afters row cycle) + session_lost channels servers row clients old new handed cycle
      ≡ session_load weight servers (places row) clients old (befores row cycle)
  pub falls : 0 < session_load weight servers (places row) clients old (befores row cycle)
      → session_load weight servers (places row) clients new (afters row cycle) < session_load weight servers (places row) clients old (befores row cycle)

-- where a word that was refused in the cycle before still stands in its ring
abbrev pub SessionsFall : Type 0 → Type 0
SessionsFall C = (weight : ℕ → ℕ) (channels : ℕ → Channel C) (servers : ℕ) (row : List (Running C)) (clients : List ℕ) (cycle : C) (earlier : List C)
    (old new : Queues) (in_line handed : ℕ → ℕ)
    → IsLoaded weight channels servers row clients (cycle ∷ earlier)
    → ((c : ℕ) → c < servers → length (last_refused (channels c) earlier) ≤ old.to_server c)
    → SessionCycle channels servers clients old new in_line handed cycle
    → SessionFalls weight channels servers row clients old new handed cycle
