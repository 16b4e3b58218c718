-- The elements of a flat list that stand in a netlist, and what they do in its runs.
use Rattle.std.specs.Prelude.{◌≡◌, ℕ, ◌+◌, ◌<◌, Bool, true, false, List, [], ◌∷◌, Option, Some, None, get_or, slice_get}
use Rattle.netlist.specs.declared.part.Part.{Part}
use Rattle.netlist.specs.Nets.{Bits}
use Rattle.netlist.specs.Plans.{Plan}
use Rattle.element_laws.specs.Elements.{output_count}
use Rattle.element_laws.specs.Histories.{Channel, KeepsOffers}
use Rattle.net_lists.specs.Runs.{ChannelNets, IsNetRun}
use Rattle.element_rows.specs.Flat.{channel_count, IsFlatList, among}
use Rattle.element_rows.specs.Rows.{Running, places, AreRunning, Follows}
use Rattle.element_rows.specs.Signalling.{AreSignalled}
use Rattle.element_load.specs.Load.{AllCanTake, weight}
use Rattle.element_load.specs.LoadLaws.{OffersLine, LoadFalls}
use Rattle.flat_design.specs.declared.element.Element as F
use Rattle.flat_design.specs.declared.element.Flat.{Flat}
use Rattle.design_flow.specs.Elements.{element_at, row_of}
use Rattle.lowered_laws.specs.Standing.{signalled, IsStanding}

-- a part that the table has
abbrev pub IsStandingAt : Plan → Option Part → (ℕ → ChannelNets) → (ℕ → ChannelNets) → Type 0
IsStandingAt plan None inputs outputs = ⊥
IsStandingAt plan (Some part) inputs outputs = IsStanding plan part inputs outputs

-- Each element stands between the nets of the channels that it takes and of those that it makes, which are the next ones.
abbrev pub AreStanding : Plan → List Part → (ℕ → ChannelNets) → ℕ → List F.Element → Type 0
AreStanding plan parts nets made [] = Unit {0}
AreStanding plan parts nets made (e ∷ es) =
    IsStandingAt plan (slice_get parts e.part) (λ k. nets (get_or e.sources k 0)) (λ k. nets (made + k))
    × AreStanding plan parts nets (made + output_count (element_at (slice_get parts e.part))) es

-- A flat list stands in a netlist: each of its channels has nets, and some have FIFO signalling, those that a fifo or an as_fifo makes; just an
-- as_vr takes these, and none is handed out.
pub record StandsThere (plan : Plan) (parts : List Part) (flat : Flat) (servers : ℕ) (clients : List ℕ) (nets : ℕ → ChannelNets) (is_fifo : ℕ → Bool) : Type 0 where
  pub list : IsFlatList servers (row_of parts flat) clients
  pub elements : AreStanding plan parts nets servers flat.elements
  pub signals : AreSignalled is_fifo servers (row_of parts flat)
  pub ends : (c : ℕ) → among c clients ≡ true → is_fifo c ≡ false

-- the channels of a netlist, whose nets these are
abbrev pub channels_of : (ℕ → ChannelNets) → (ℕ → Bool) → ℕ → Channel (List Bits)
channels_of nets is_fifo c = signalled (is_fifo c) (nets c)

-- In every run of a netlist in which a flat list stands, and in which each to-server channel keeps its refused offers, each channel keeps its refused
-- offers, and what was offered and what was transferred there are the beginning of the stream function of the flat list, of what the to-server
-- channels have offered.
abbrev pub StandingRowsFollow : Type 0
StandingRowsFollow = (plan : Plan) (parts : List Part) (flat : Flat) (servers : ℕ) (clients : List ℕ) (nets : ℕ → ChannelNets) (is_fifo : ℕ → Bool) (offers history : List (List Bits))
    → StandsThere plan parts flat servers clients nets is_fifo → IsNetRun plan offers history
    → ((c : ℕ) → c < servers → KeepsOffers (channels_of nets is_fifo c) history)
    → (channel : ℕ) → channel < channel_count servers (row_of parts flat) → Follows (channels_of nets is_fifo) servers (row_of parts flat) history channel

-- ---- the load

-- The row of a flat list with what each of its elements holds, which runs in every run of the netlist.
pub record RunsAsRow (plan : Plan) (parts : List Part) (flat : Flat) (servers : ℕ) (nets : ℕ → ChannelNets) (is_fifo : ℕ → Bool) : Type 0 where
  pub row : List (Running (List Bits))
  pub same : places row ≡ row_of parts flat
  pub runs : (offers history : List (List Bits)) → IsNetRun plan offers history → AreRunning (channels_of nets is_fifo) servers row history

abbrev pub StandingRowsRun : Type 0
StandingRowsRun = (plan : Plan) (parts : List Part) (flat : Flat) (servers : ℕ) (clients : List ℕ) (nets : ℕ → ChannelNets) (is_fifo : ℕ → Bool)
    → StandsThere plan parts flat servers clients nets is_fifo → RunsAsRow plan parts flat servers nets is_fifo

-- Of the row's load in such a run, without joins and with values in line before the to-server channels: no cycle lets it rise, and it falls in each
-- cycle in which all to-client channels are ready and load is left.
abbrev pub StandingLoadsFall : Type 0
StandingLoadsFall = (plan : Plan) (parts : List Part) (flat : Flat) (servers : ℕ) (clients : List ℕ) (nets : ℕ → ChannelNets) (is_fifo : ℕ → Bool)
    → StandsThere plan parts flat servers clients nets is_fifo → (as_row : RunsAsRow plan parts flat servers nets is_fifo)
    → AllCanTake (row_of parts flat) → (offers : List (List Bits)) (cycle : List Bits) (earlier : List (List Bits)) → IsNetRun plan offers (cycle ∷ earlier)
    → ((c : ℕ) → c < servers → KeepsOffers (channels_of nets is_fifo c) (cycle ∷ earlier))
    → (in_line left : ℕ → ℕ) → OffersLine (channels_of nets is_fifo) servers in_line left cycle
    → LoadFalls (weight servers (row_of parts flat) clients) (channels_of nets is_fifo) servers as_row.row clients in_line left cycle
