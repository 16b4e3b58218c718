-- How far a netlist is lowered: what its channels carry, and what its elements have.
use Rattle.std.specs.Prelude.{◌≡◌, ℕ, ◌+◌, ◌<◌, ◌≤◌, List, length, get_or}
use Rattle.netlist.specs.declared.part.Part.{Part}
use Rattle.netlist.specs.Plans.{Plan}
use Rattle.net_lists.specs.Lists.{StandFrom, Carries}
use Rattle.flat_design.specs.declared.element.Flat.{Flat}
use Rattle.buffer_stage.specs.declared.laid.Wire.{Wire}
use Rattle.buffer_stage.specs.declared.laid.Laid.{Laid}
use Rattle.buffer_stage.specs.Passes.{input_count, wire_at, ready_at, register_nets, first_output, first_ready}
use Rattle.buffer_stage.specs.GoodParts.{DoFit, DoFitBack}
use Rattle.buffer_stage.specs.Outputs.{DoGive}
use Rattle.channel_lower.specs.declared.lowering.Lowering.{Lowering}
use Rattle.channel_lower.specs.Lowering.{element_at, part_of, laid_of, channel_at}
use Rattle.channel_lower.specs.Lowerable.{widths_at}
use Rattle.channel_lower.specs.Owed.{Owes}

-- a wire carries one bit, and a word of this width
pub record CarriesWire (plan : Plan) (wire : Wire) (width : ℕ) : Type 0 where
  pub valid : Carries plan wire.valid 1
  pub word : Carries plan wire.word width

-- a channel has a ready net
abbrev pub IsReady : Lowering → ℕ → Type 0
IsReady s channel = Carries s.netlist (ready_at s.readies channel) 1

-- an element has its registers, from a place on
pub record HasRegisters (plan : Plan) (part : Part) (registers : ℕ) : Type 0 where
  pub stand : StandFrom plan.nets registers (register_nets part)
  pub within : registers ≤ length plan.nets

-- an element stands between its inputs, and has an output that fits what comes behind it
pub record IsForward (plan : Plan) (part : Part) (laid : Laid) (registers : ℕ) (widths : List ℕ) : Type 0 where
  pub same : laid.registers ≡ registers
  pub count : length laid.inputs ≡ input_count part
  pub fit : DoFit plan part laid.inputs widths
  pub output : laid.output ≡ first_output part laid.registers laid.inputs laid.forward
  pub give : DoGive plan part laid.output widths

-- an element has the ready nets of its outputs, and those of its inputs
pub record IsBackward (plan : Plan) (part : Part) (laid : Laid) : Type 0 where
  pub back : DoFitBack plan part laid.readies
  pub room : Carries plan (first_ready part laid.readies laid.backward) 1

-- So many channels have wires, the to-client channels up to one have ready nets, so many elements have registers, have gone forward,
-- and, from the last one on, back, and the first ones so many have their next nets.
pub record Progress (parts : List Part) (flat : Flat) (clients : List ℕ) (s : Lowering) (made handed registered forward backward done : ℕ) : Type 0 where
  pub wire_count : length s.wires ≡ made
  pub wires : (c : ℕ) → c < made → CarriesWire s.netlist (wire_at s.wires c) (get_or flat.widths c 0)
  pub ready_count : length s.readies ≡ length flat.widths
  pub handed_ready : (k : ℕ) → k < handed → IsReady s (channel_at clients k)
  pub register_count : length s.registers ≡ registered
  pub registers : (k : ℕ) → k < registered → HasRegisters s.netlist (part_of parts (element_at flat.elements k)) (get_or s.registers k 0)
  pub row_count : length s.row ≡ forward
  pub gone_forward : (k : ℕ) → k < forward → IsForward s.netlist (part_of parts (element_at flat.elements k)) (laid_of s.row k) (get_or s.registers k 0) (widths_at flat.widths (element_at flat.elements k).sources)
  pub gone_back : (k : ℕ) → k < length flat.elements → length flat.elements ≤ k + backward → IsBackward s.netlist (part_of parts (element_at flat.elements k)) (laid_of s.row k)
  pub sources : (k j : ℕ) → k < length flat.elements → length flat.elements ≤ k + backward → j < length (element_at flat.elements k).sources → IsReady s (channel_at (element_at flat.elements k).sources j)
  pub owes : Owes s.netlist (λ k. part_of parts (element_at flat.elements k)) (λ k. get_or s.registers k 0) done registered
