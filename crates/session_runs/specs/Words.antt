-- The words of a session: values are taken into rings before the to-server channels of a row, and handed out of rings behind its to-client channels.
use Rattle.std.specs.Prelude.{◌≡◌, ℕ, ◌<◌, List, [], ◌∷◌, ◌++◌}
use Rattle.element_laws.specs.Signals.{Bits, transferred}
use Rattle.element_laws.specs.Histories.{Channel, transfers}
use Rattle.element_laws.specs.Streams.{IsPrefix}
use Rattle.element_rows.specs.Flat.{channel_count, TakesEarlier, at, flow}
use Rattle.element_rows.specs.Rows.{Running, places, AreRunning, server_lists}
use Rattle.element_load.specs.Rings.{RingCycle}

-- What stands in the rings and goes through them in each cycle, by channels. Before a to-server channel: the values that are taken, and what the ring
-- holds once they are, and behind the cycle. Behind a to-client channel: the values that are handed, and what the ring holds behind the cycle.
pub record Words (C : Type 0) : Type 0 where
  pub taken : ℕ → C → List Bits
  pub ring : ℕ → C → List Bits
  pub left : ℕ → C → List Bits
  pub handed : ℕ → C → List Bits
  pub out : ℕ → C → List Bits

-- what a ring holds behind a history: nothing at first
abbrev pub held_by : {C : Type 0} → (C → List Bits) → List C → List Bits
held_by behind [] = []
held_by behind (cycle ∷ earlier) = behind cycle

-- the words of all cycles so far, in order
abbrev pub all_of : {C : Type 0} → (C → List Bits) → List C → List Bits
all_of words [] = []
all_of words (cycle ∷ earlier) = all_of words earlier ++ words cycle

-- values are taken at the end of the ring, its front is offered, and leaves it where it is transferred
abbrev pub IsServed : {C : Type 0} → Channel C → (C → List Bits) → (C → List Bits) → (C → List Bits) → List C → Type 0
IsServed channel taken ring left [] = Unit {0}
IsServed channel taken ring left (cycle ∷ earlier) =
    RingCycle (ring cycle) (left cycle) (channel cycle) × (ring cycle ≡ held_by left earlier ++ taken cycle) × IsServed channel taken ring left earlier

-- the word that is transferred joins the end of the ring, and values are handed from its front
abbrev pub IsHanded : {C : Type 0} → Channel C → (C → List Bits) → (C → List Bits) → List C → Type 0
IsHanded channel handed out [] = Unit {0}
IsHanded channel handed out (cycle ∷ earlier) = (held_by out earlier ++ transferred (channel cycle) ≡ handed cycle ++ out cycle) × IsHanded channel handed out earlier

-- In such a session of a row that runs, what was handed of a channel so far is the beginning of the stream function of the row, of the values that
-- were taken.
abbrev pub HandedIsPrefix : Type 0 → Type 0
HandedIsPrefix C = (channels : ℕ → Channel C) (servers : ℕ) (row : List (Running C)) (words : Words C) (history : List C)
    → TakesEarlier servers (places row) → AreRunning channels servers row history
    → ((c : ℕ) → c < servers → IsServed (channels c) (words.taken c) (words.ring c) (words.left c) history)
    → (channel : ℕ) → channel < channel_count servers (places row) → IsHanded (channels channel) (words.handed channel) (words.out channel) history
    → IsPrefix (all_of (words.handed channel) history) (at (flow (places row) (server_lists (λ c. all_of (words.taken c) history) servers)) channel)

-- And where nothing is left in the rings, and what was transferred on the channel is the whole stream of what was transferred on the to-server
-- channels, as in a session that has settled, what was handed of it is the whole stream of the values that were taken.
abbrev pub HandedIsWhole : Type 0 → Type 0
HandedIsWhole C = (channels : ℕ → Channel C) (servers : ℕ) (row : List (Running C)) (words : Words C) (history : List C)
    → ((c : ℕ) → c < servers → IsServed (channels c) (words.taken c) (words.ring c) (words.left c) history)
    → ((c : ℕ) → c < servers → held_by (words.left c) history ≡ [])
    → (channel : ℕ) → IsHanded (channels channel) (words.handed channel) (words.out channel) history → held_by (words.out channel) history ≡ []
    → transfers (channels channel) history ≡ at (flow (places row) (server_lists (λ d. transfers (channels d) history) servers)) channel
    → all_of (words.handed channel) history ≡ at (flow (places row) (server_lists (λ c. all_of (words.taken c) history) servers)) channel
