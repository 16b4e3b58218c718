-- The netlist of a flat list: the inputs of its ports, then registers, forward nets and next nets in element order, and backward nets,
-- which stand before the next nets, in reverse element order.
use Rattle.std.specs.Prelude.{ℕ, zero, suc, ◌+◌, ◌-◌, List, [], ◌∷◌, ◌++◌, length, get_or, map, replicate, slice_set}
use Rattle.netlist.specs.declared.net.Net.TheVariants.{Input}
use Rattle.netlist.specs.declared.part.Part.{Part}
use Rattle.netlist.specs.declared.part.Part.TheVariants.{AsFifo}
use Rattle.netlist.specs.Plans.{empty_plan}
use Rattle.net_lists.specs.Lists.{with_nets}
use Rattle.flat_design.specs.declared.element.Element.{Element}
use Rattle.flat_design.specs.declared.element.Flat.{Flat}
use Rattle.buffer_stage.specs.declared.laid.Wire.{Wire}
use Rattle.buffer_stage.specs.declared.laid.Laid.{Laid}
use Rattle.buffer_stage.specs.Passes.{wire_at, ready_at, register_nets, laid_at, forward_nets, outputs, laid_forward, backward_nets, input_readies, laid_backward, next_nets, linked_up}
use Rattle.channel_lower.specs.declared.lowering.Lowering.{Lowering}

-- the first turn, then the second, and so on, so many of them
abbrev pub turns : {S : Type 0} → (ℕ → S → S) → ℕ → S → S
turns turn zero s = s
turns turn (suc n) s = turn n (turns turn n s)

-- ---- elements and what they have

abbrev pub nobody : Element
nobody = record { part = 0; sources = []; sinks = [] }

abbrev pub element_at : List Element → ℕ → Element
element_at elements k = get_or elements k nobody

abbrev pub part_of : List Part → Element → Part
part_of parts element = get_or parts element.part AsFifo

abbrev pub laid_of : List Laid → ℕ → Laid
laid_of row k = get_or row k (laid_at 0)

abbrev pub channel_at : List ℕ → ℕ → ℕ
channel_at channels k = get_or channels k 0

abbrev pub wires_at : List Wire → List ℕ → List Wire
wires_at wires channels = map (wire_at wires) channels

abbrev pub readies_at : List ℕ → List ℕ → List ℕ
readies_at readies channels = map (ready_at readies) channels

-- the ready nets of so many of these channels are these
abbrev pub ready_turn : List ℕ → List ℕ → ℕ → List ℕ → List ℕ
ready_turn channels nets k readies = slice_set readies (channel_at channels k) (ready_at nets k)

abbrev pub with_readies : List ℕ → List ℕ → List ℕ → List ℕ
with_readies channels nets readies = turns (ready_turn channels nets) (length channels) readies

-- ---- one turn of each pass

-- the inputs valid and word of a to-server channel, which is the next one
abbrev pub server_turn : ℕ → Lowering → Lowering
server_turn width s = record s {
  netlist = with_nets s.netlist (Input 1 ∷ Input width ∷ []);
  wires = s.wires ++ record { valid = length s.netlist.nets; word = length s.netlist.nets + 1 } ∷ [];
}

-- the input ready of a to-client channel
abbrev pub client_turn : ℕ → Lowering → Lowering
client_turn channel s = record s {
  netlist = with_nets s.netlist (Input 1 ∷ []);
  readies = slice_set s.readies channel (length s.netlist.nets);
}

-- registers
abbrev pub register_turn : Part → Lowering → Lowering
register_turn part s = record s {
  netlist = with_nets s.netlist (register_nets part);
  registers = s.registers ++ length s.netlist.nets ∷ [];
}

-- forward nets, behind the wires of the channels that the element takes; it makes the next channels
abbrev pub forward_turn : Part → Element → ℕ → Lowering → Lowering
forward_turn part element k s =
    let inputs = wires_at s.wires element.sources in
    let registers = get_or s.registers k 0 in
    let at = length s.netlist.nets in
    record s {
      netlist = with_nets s.netlist (forward_nets part registers inputs at);
      wires = s.wires ++ outputs part registers inputs at;
      row = s.row ++ laid_forward part (laid_at registers) inputs at ∷ [];
    }

-- backward nets, behind the ready nets of the channels that the element makes
abbrev pub backward_turn : Part → Element → ℕ → Lowering → Lowering
backward_turn part element k s =
    let laid = laid_of s.row k in
    let outs = readies_at s.readies element.sinks in
    let at = length s.netlist.nets in
    record s {
      netlist = with_nets s.netlist (backward_nets part laid outs at);
      row = slice_set s.row k (laid_backward laid outs at);
      readies = with_readies element.sources (input_readies part outs at) s.readies;
    }

-- what the registers hold next
abbrev pub next_turn : Part → ℕ → Lowering → Lowering
next_turn part k s =
    let laid = laid_of s.row k in
    let at = length s.netlist.nets in
    record s { netlist = linked_up part laid at (with_nets s.netlist (next_nets part laid at)) }

-- ---- the passes

abbrev pub nothing : ℕ → Lowering
nothing channels = record { netlist = empty_plan; registers = []; wires = []; row = []; readies = replicate channels 0 }

abbrev pub server_pass : List ℕ → ℕ → Lowering → Lowering
server_pass widths = turns (λ c. server_turn (get_or widths c 0))

abbrev pub client_pass : List ℕ → ℕ → Lowering → Lowering
client_pass clients = turns (λ k. client_turn (channel_at clients k))

abbrev pub register_pass : List Part → List Element → ℕ → Lowering → Lowering
register_pass parts elements = turns (λ k. register_turn (part_of parts (element_at elements k)))

abbrev pub forward_pass : List Part → List Element → ℕ → Lowering → Lowering
forward_pass parts elements = turns (λ k. forward_turn (part_of parts (element_at elements k)) (element_at elements k) k)

-- the last element comes first
abbrev pub from_end : List Element → ℕ → ℕ
from_end elements k = length elements - 1 - k

abbrev pub backward_pass : List Part → List Element → ℕ → Lowering → Lowering
backward_pass parts elements = turns (λ k. backward_turn (part_of parts (element_at elements (from_end elements k))) (element_at elements (from_end elements k)) (from_end elements k))

abbrev pub next_pass : List Part → List Element → ℕ → Lowering → Lowering
next_pass parts elements = turns (λ k. next_turn (part_of parts (element_at elements k)) k)

-- The whole, of so many to-server channels, which are the first ones, and of the channels that are handed out to to-client endpoints.
abbrev pub with_ports : Flat → ℕ → List ℕ → Lowering
with_ports flat servers clients = client_pass clients (length clients) (server_pass flat.widths servers (nothing (length flat.widths)))

abbrev pub lowered : List Part → Flat → ℕ → List ℕ → Lowering
lowered parts flat servers clients =
    next_pass parts flat.elements (length flat.elements)
    (backward_pass parts flat.elements (length flat.elements)
    (forward_pass parts flat.elements (length flat.elements)
    (register_pass parts flat.elements (length flat.elements) (with_ports flat servers clients))))
