-- The laws of the stream function alone, whatever runs.
use Rattle.std.specs.Prelude.{◌≡◌, ℕ, ◌<◌, List, length}
use Rattle.element_laws.specs.Signals.{Bits}
use Rattle.element_laws.specs.Streams.{IsPrefix}
use Rattle.element_rows.specs.Flat.{Placed, channel_count, TakesEarlier, at, flow}

-- Where the lists of the to-server channels grow at their ends, so does the list of each channel.
abbrev pub FlowGrows : Type 0
FlowGrows = (servers : ℕ) (placed : List Placed) (old new : List (List Bits)) → TakesEarlier servers placed → length old ≡ servers → length new ≡ servers
    → ((c : ℕ) → c < servers → IsPrefix (at old c) (at new c))
    → (c : ℕ) → c < channel_count servers placed → IsPrefix (at (flow placed old) c) (at (flow placed new) c)
