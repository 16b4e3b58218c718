-- What is asked of a flat list, so that it can be lowered.
use Rattle.std.specs.Prelude.{◌≡◌, ℕ, zero, suc, ◌+◌, ◌<◌, List, [], ◌∷◌, Some, length, get_or, map}
use Rattle.netlist.specs.declared.part.Part.{Part}
use Rattle.netlist.specs.Parts.{IsGoodPart, part_width}
use Rattle.netlist.specs.Plans.{IsWidth}
use Rattle.flat_design.specs.declared.element.Element.{Element}
use Rattle.flat_design.specs.declared.element.Flat.{Flat}
use Rattle.flat_design.specs.FlatLaws.{IsFlatDesign}
use Rattle.buffer_stage.specs.Passes.{input_count, output_count}
use Rattle.channel_lower.specs.Lowering.{element_at, part_of, channel_at}

-- the widths of these channels
abbrev pub widths_at : List ℕ → List ℕ → List ℕ
widths_at widths channels = map (λ c. get_or widths c 0) channels

-- An element's part is in the table and good, and fits the channels between which it stands: it has as many inputs and outputs, and gives
-- words of the width of the channels that it makes.
pub record FitsBetween (parts : List Part) (widths : List ℕ) (element : Element) : Type 0 where
  pub there : element.part < length parts
  pub good : IsGoodPart (part_of parts element)
  pub takes : length element.sources ≡ input_count (part_of parts element)
  pub makes : length element.sinks ≡ output_count (part_of parts element)
  pub width : ℕ
  pub gives : part_width (part_of parts element) (widths_at widths element.sources) ≡ Some width
  pub made : (k : ℕ) → k < output_count (part_of parts element) → get_or widths (channel_at element.sinks k) 0 ≡ width

-- A flat list whose first channels are to-server channels, `servers` many, and some of whose channels are handed out to to-client
-- endpoints: each channel is made once, before it is used, and used once, each element's part fits its channels, and the words of the
-- to-server channels are of widths that there are.
pub record IsLowerable (parts : List Part) (flat : Flat) (servers : ℕ) (clients : List ℕ) : Type 0 where
  pub design : IsFlatDesign servers flat clients
  pub fit : (k : ℕ) → k < length flat.elements → FitsBetween parts flat.widths (element_at flat.elements k)
  pub wide : (c : ℕ) → c < servers → IsWidth (get_or flat.widths c 0)

-- how many channels there are before an element
abbrev pub place_of : ℕ → List Element → ℕ → ℕ
place_of made elements zero = made
place_of made [] (suc k) = made
place_of made (e ∷ elements) (suc k) = place_of (made + length e.sinks) elements k
