-- What designs do that are lowered.
use Rattle.std.specs.Prelude.{◌≡◌, ℕ, ◌<◌, Bool, true, false, List, ◌∷◌, length}
use Rattle.netlist.specs.declared.part.Part.{Part}
use Rattle.netlist.specs.Nets.{Bits}
use Rattle.netlist.specs.Plans.{IsPlan}
use Rattle.element_laws.specs.Histories.{KeepsOffers}
use Rattle.element_rows.specs.Flat.{among}
use Rattle.element_rows.specs.Rows.{Follows}
use Rattle.element_rows.specs.Signalling.{AreSignalled}
use Rattle.element_load.specs.Load.{AllCanTake, weight}
use Rattle.element_load.specs.LoadLaws.{OffersLine, LoadFalls}
use Rattle.net_lists.specs.Runs.{IsNetRun}
use Rattle.flat_design.specs.declared.element.Flat.{Flat}
use Rattle.channel_lower.specs.Lowerable.{IsLowerable}
use Rattle.channel_lower.specs.Lowering.{lowered}
use Rattle.design_flow.specs.Elements.{row_of}
use Rattle.lowered_laws.specs.Rows.{StandsThere, channels_of, RunsAsRow}
use Rattle.lowered_nets.specs.Elements.{channel_nets}

-- Channels of a flat list with FIFO signalling are those that a fifo or an as_fifo makes; just an as_vr takes them, and none is handed out.
pub record AreSignalledWell (parts : List Part) (flat : Flat) (servers : ℕ) (clients : List ℕ) (is_fifo : ℕ → Bool) : Type 0 where
  pub signals : AreSignalled is_fifo servers (row_of parts flat)
  pub ends : (c : ℕ) → among c clients ≡ true → is_fifo c ≡ false

-- A flat list that can be lowered, and whose channels are signalled well, stands in its netlist, where that keeps the rules of netlists.
abbrev pub LoweredListsStand : Type 0
LoweredListsStand = (parts : List Part) (flat : Flat) (servers : ℕ) (clients : List ℕ) (is_fifo : ℕ → Bool)
    → IsLowerable parts flat servers clients → AreSignalledWell parts flat servers clients is_fifo → IsPlan (lowered parts flat servers clients).netlist
    → StandsThere (lowered parts flat servers clients).netlist parts flat servers clients (channel_nets (lowered parts flat servers clients)) is_fifo

-- In every run of its netlist in which each to-server channel keeps its refused offers, each channel keeps its refused offers, and what was offered
-- and what was transferred there are the beginning of the stream function of the flat list, of what the to-server channels have offered.
abbrev pub LoweredDesignsFollowFlow : Type 0
LoweredDesignsFollowFlow = (parts : List Part) (flat : Flat) (servers : ℕ) (clients : List ℕ) (is_fifo : ℕ → Bool) (offers history : List (List Bits))
    → IsLowerable parts flat servers clients → AreSignalledWell parts flat servers clients is_fifo → IsNetRun (lowered parts flat servers clients).netlist offers history
    → ((c : ℕ) → c < servers → KeepsOffers (channels_of (channel_nets (lowered parts flat servers clients)) is_fifo c) history)
    → (channel : ℕ) → channel < length flat.widths → Follows (channels_of (channel_nets (lowered parts flat servers clients)) is_fifo) servers (row_of parts flat) history channel

-- ---- the load

-- The flat list as a row of elements with what each holds, of whose load, without joins and with values in line before the to-server channels, no
-- cycle of a run lets it rise, and which falls in each cycle in which all to-client channels are ready and load is left.
pub record HasFallingLoad (parts : List Part) (flat : Flat) (servers : ℕ) (clients : List ℕ) (is_fifo : ℕ → Bool) : Type 0 where
  pub as_row : RunsAsRow (lowered parts flat servers clients).netlist parts flat servers (channel_nets (lowered parts flat servers clients)) is_fifo
  pub falls : AllCanTake (row_of parts flat) → (offers : List (List Bits)) (cycle : List Bits) (earlier : List (List Bits)) → IsNetRun (lowered parts flat servers clients).netlist offers (cycle ∷ earlier)
      → ((c : ℕ) → c < servers → KeepsOffers (channels_of (channel_nets (lowered parts flat servers clients)) is_fifo c) (cycle ∷ earlier))
      → (in_line left : ℕ → ℕ) → OffersLine (channels_of (channel_nets (lowered parts flat servers clients)) is_fifo) servers in_line left cycle
      → LoadFalls (weight servers (row_of parts flat) clients) (channels_of (channel_nets (lowered parts flat servers clients)) is_fifo) servers as_row.row clients in_line left cycle

abbrev pub LoweredLoadsFall : Type 0
LoweredLoadsFall = (parts : List Part) (flat : Flat) (servers : ℕ) (clients : List ℕ) (is_fifo : ℕ → Bool)
    → IsLowerable parts flat servers clients → AreSignalledWell parts flat servers clients is_fifo → IsPlan (lowered parts flat servers clients).netlist → HasFallingLoad parts flat servers clients is_fifo
