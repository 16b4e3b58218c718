-- The elements of a flat list in a run.
use Rattle.std.specs.Prelude.{◌≡◌, ℕ, ◌+◌, ◌<◌, false, List, [], ◌∷◌, map}
use Rattle.std.specs.List.{range_with_len}
use Rattle.element_laws.specs.Signals.{Bits}
use Rattle.element_laws.specs.Histories.{Channel, transfers, offers, KeepsOffers}
use Rattle.element_laws.specs.Streams.{IsPrefix}
use Rattle.element_laws.specs.Elements.{output_count, Contents}
use Rattle.element_laws.specs.Laws.{IsElementRun}
use Rattle.element_rows.specs.Flat.{Placed, source, channel_count, TakesEarlier, at, flow}

-- an element in its place, and what it holds before and after each cycle
pub record Running (C : Type 0) : Type 0 where
  pub placed : Placed
  pub before : C → Contents
  pub after : C → Contents

abbrev pub places : {C : Type 0} → List (Running C) → List Placed
places row = map (λ r. r.placed) row

-- each element runs between the channels that it takes and those that it makes
abbrev pub AreRunning : {C : Type 0} → (ℕ → Channel C) → ℕ → List (Running C) → List C → Type 0
AreRunning channels made [] history = Unit {0}
AreRunning channels made (r ∷ row) history =
    IsElementRun r.placed.element r.before r.after (λ k. channels (source r.placed k)) (λ k. channels (made + k)) history
    × AreRunning channels (made + output_count r.placed.element) row history

-- the lists of the to-server channels
abbrev pub server_lists : (ℕ → List Bits) → ℕ → List (List Bits)
server_lists list servers = map list (range_with_len 0 servers)

-- What a row of elements promises in a run in which the to-server channels keep their refused offers: of each channel, that
-- it keeps its refused offers, and that what was offered and transferred there is the beginning of the design's stream of
-- what the to-server channels have offered.
pub record Follows {C : Type 0} (channels : ℕ → Channel C) (servers : ℕ) (placed : List Placed) (history : List C) (channel : ℕ) : Type 0 where
  pub keeps : KeepsOffers (channels channel) history
  pub offers_begin : IsPrefix (offers (channels channel) history) (at (flow placed (server_lists (λ c. offers (channels c) history) servers)) channel)
  pub transfers_begin : IsPrefix (transfers (channels channel) history) (at (flow placed (server_lists (λ c. offers (channels c) history) servers)) channel)

abbrev pub RowsFollow : Type 0 → Type 0
RowsFollow C = (channels : ℕ → Channel C) (servers : ℕ) (row : List (Running C)) (history : List C)
    → TakesEarlier servers (places row) → AreRunning channels servers row history
    → ((c : ℕ) → c < servers → KeepsOffers (channels c) history)
    → (channel : ℕ) → channel < channel_count servers (places row) → Follows channels servers (places row) history channel

-- In a run whose newest cycle has no offer on any channel nothing is missing: what was transferred on each channel is the
-- whole stream of what was transferred on the to-server channels. (This holds of joins too; but a row with a join need not
-- come to rest.)
abbrev pub RestIsWhole : Type 0 → Type 0
RestIsWhole C = (channels : ℕ → Channel C) (servers : ℕ) (row : List (Running C)) (cycle : C) (earlier : List C)
    → TakesEarlier servers (places row) → AreRunning channels servers row (cycle ∷ earlier)
    → ((c : ℕ) → c < servers → KeepsOffers (channels c) (cycle ∷ earlier))
    → ((c : ℕ) → c < channel_count servers (places row) → (channels c cycle).valid ≡ false)
    → (c : ℕ) → c < channel_count servers (places row)
    → transfers (channels c) (cycle ∷ earlier) ≡ at (flow (places row) (server_lists (λ d. transfers (channels d) (cycle ∷ earlier)) servers)) c
