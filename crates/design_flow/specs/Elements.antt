-- What the parts of a flat list do: each element as the laws of elements have it, between the same channels.
use Rattle.std.specs.Prelude.{Bool, true, false, List, [], ◌∷◌, Option, Some, None, map, slice_get}
use Rattle.netlist.specs.declared.part.Part.{Part}
use Rattle.netlist.specs.declared.part.Part.TheVariants.{Stage, Fifo, AsFifo, AsVr, Map, Scan, Fork, Join}
use Rattle.netlist.specs.Formulas.{worth}
use Rattle.element_laws.specs.Signals.{Bits}
use Rattle.element_laws.specs.Elements.{Element}
use Rattle.element_laws.specs.Elements.Element.{stage, fifo, as_fifo, as_vr, map_by, scan_by, fork, join}
use Rattle.element_rows.specs.Flat.{Placed, flow}
use Rattle.flat_design.specs.declared.element.Element as F
use Rattle.flat_design.specs.declared.element.Flat.{Flat}

-- What a part does. Variable 0 of a map's body is the word; of a scan's, 0 is the state and 1 the word.
abbrev pub element_of : Part → Element
element_of (Stage width) = stage
element_of (Fifo width depth) = fifo depth
element_of AsFifo = as_fifo
element_of AsVr = as_vr
element_of (Map body) = map_by (λ word. worth (word ∷ []) body)
element_of (Scan reset body) = scan_by (λ state word. worth (state ∷ word ∷ []) body) reset
element_of (Fork branches) = fork branches
element_of Join = join

-- An element whose part the table does not have hands on what it takes.
abbrev pub element_at : Option Part → Element
element_at None = as_vr
element_at (Some part) = element_of part

abbrev pub placed_of : List Part → F.Element → Placed
placed_of parts e = record { element = element_at (slice_get parts e.part); sources = e.sources }

-- the elements of a flat list in a row
abbrev pub row_of : List Part → Flat → List Placed
row_of parts flat = map (placed_of parts) flat.elements

-- the stream function of a flat list: to the lists of the to-server channels, the list of each channel
abbrev pub flow_of : List Part → Flat → List (List Bits) → List (List Bits)
flow_of parts flat = flow (row_of parts flat)

abbrev pub is_join : Option Part → Bool
is_join (Some Join) = true
is_join part = false

abbrev pub is_joined : List Part → F.Element → Bool
is_joined parts e = is_join (slice_get parts e.part)
