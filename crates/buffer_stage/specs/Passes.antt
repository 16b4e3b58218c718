-- The nets that each pass of lowering adds for a part, and what an element has behind it.
use Rattle.std.specs.Prelude.{ℕ, zero, suc, ◌+◌, ◌-◌, ◌*◌, ◌<◌, List, [], ◌∷◌, ◌++◌, length, get_or}
use Rattle.netlist.specs.declared.net.Net.{Net}
use Rattle.netlist.specs.declared.part.Part.{Part}
use Rattle.netlist.specs.declared.part.Part.TheVariants.{Stage, Fifo, AsFifo, AsVr, Map, Scan, Fork, Join}
use Rattle.netlist.specs.Plans.{Plan}
use Rattle.net_lists.specs.Lists.{Carries}
use Rattle.formula_nets.specs.Making.{formula_nets, formula_net, IsFormulaReady}
use Rattle.stage_nets.specs.declared.stage.StageNets.{StageNets}
use Rattle.stage_nets.specs.Stage.{stage_registers, stage_ready, stage_next, stage_linked, IsStageReady}
use Rattle.stage_nets.specs.Signalling.{as_fifo_empty, as_vr_valid, as_vr_rden}
use Rattle.element_nets.specs.declared.join.JoinNets.{JoinNets}
use Rattle.element_nets.specs.declared.scan.ScanNets.{ScanNets}
use Rattle.element_nets.specs.Joins.{join_forward, join_backward, IsJoinReady}
use Rattle.element_nets.specs.Scans.{scan_register, scan_next, scan_linked, IsScanReady}
use Rattle.looped_nets.specs.declared.fork.ForkPlaces.{ForkPlaces}
use Rattle.looped_nets.specs.declared.fifo.FifoPlaces.{FifoPlaces}
use Rattle.looped_nets.specs.Forks.{fork_registers, fork_front, fork_back, fork_next, fork_linked, IsForkFrontReady, IsForkBackReady, IsForkReady}
use Rattle.looped_nets.specs.Fifos.{fifo_registers, fifo_front, fifo_back, fifo_next, fifo_linked, IsFifoFrontReady, IsFifoReady}
use Rattle.buffer_stage.specs.declared.laid.Wire.{Wire}
use Rattle.buffer_stage.specs.declared.laid.Laid.{Laid}

-- how many inputs and outputs a part has
abbrev pub input_count : Part → ℕ
input_count Join = 2
input_count part = 1

abbrev pub output_count : Part → ℕ
output_count (Fork branches) = branches
output_count part = 1

-- a wire of its inputs, and a ready net of its outputs
abbrev pub no_wire : Wire
no_wire = record { valid = 0; word = 0 }

abbrev pub wire_at : List Wire → ℕ → Wire
wire_at wires k = get_or wires k no_wire

abbrev pub ready_at : List ℕ → ℕ → ℕ
ready_at readies k = get_or readies k 0

-- ---- registers

abbrev pub register_nets : Part → List Net
register_nets (Stage width) = stage_registers width
register_nets (Fifo width depth) = fifo_registers width depth
register_nets (Scan reset body) = scan_register reset
register_nets (Fork branches) = fork_registers branches
register_nets AsFifo = []
register_nets AsVr = []
register_nets (Map body) = []
register_nets Join = []

-- an element that has its registers from a place on
abbrev pub laid_at : ℕ → Laid
laid_at registers = record { registers = registers; inputs = []; forward = 0; output = no_wire; readies = []; backward = 0 }

-- ---- forward nets, of registers, the wires of the inputs, and a place

abbrev pub join_of : Wire → Wire → JoinNets
join_of left right = record { left_valid = left.valid; left_word = left.word; right_valid = right.valid; right_word = right.word }

abbrev pub forward_nets : Part → ℕ → List Wire → ℕ → List Net
forward_nets (Stage width) registers inputs at = []
forward_nets (Fifo width depth) registers inputs at = fifo_front depth registers at
forward_nets AsFifo registers inputs at = as_fifo_empty (wire_at inputs 0).valid
forward_nets AsVr registers inputs at = as_vr_valid (wire_at inputs 0).valid
forward_nets (Map body) registers inputs at = formula_nets ((wire_at inputs 0).word ∷ []) body at
forward_nets (Scan reset body) registers inputs at = formula_nets (registers ∷ (wire_at inputs 0).word ∷ []) body at
forward_nets (Fork branches) registers inputs at = fork_front branches registers (wire_at inputs 0).valid at
forward_nets Join registers inputs at = join_forward (join_of (wire_at inputs 0) (wire_at inputs 1))

-- the wire of the first output
abbrev pub first_output : Part → ℕ → List Wire → ℕ → Wire
first_output (Stage width) registers inputs at = record { valid = registers; word = registers + 2 }
first_output (Fifo width depth) registers inputs at = record { valid = at + 1; word = registers + 1 }
first_output AsFifo registers inputs at = record { valid = at; word = (wire_at inputs 0).word }
first_output AsVr registers inputs at = record { valid = at; word = (wire_at inputs 0).word }
first_output (Map body) registers inputs at = record { valid = (wire_at inputs 0).valid; word = formula_net ((wire_at inputs 0).word ∷ []) body at }
first_output (Scan reset body) registers inputs at = record { valid = (wire_at inputs 0).valid; word = formula_net (registers ∷ (wire_at inputs 0).word ∷ []) body at }
first_output (Fork branches) registers inputs at = record { valid = at + 1; word = (wire_at inputs 0).word }
first_output Join registers inputs at = record { valid = at; word = at + 1 }

-- the wires of so many outputs: those of a fork have every other net as their valid, and one word
abbrev pub wires_upto : Wire → ℕ → List Wire
wires_upto first zero = []
wires_upto first (suc n) = wires_upto first n ++ record first { valid = first.valid + 2 * n } ∷ []

abbrev pub outputs : Part → ℕ → List Wire → ℕ → List Wire
outputs part registers inputs at = wires_upto (first_output part registers inputs at) (output_count part)

abbrev pub laid_forward : Part → Laid → List Wire → ℕ → Laid
laid_forward part laid inputs at = record laid { inputs = inputs; forward = at; output = first_output part laid.registers inputs at }

-- the forward nets of a part may be pushed
abbrev pub MayGoForward : Plan → Part → ℕ → List Wire → Type 0
MayGoForward plan (Stage width) registers inputs = Unit {0}
MayGoForward plan (Fifo width depth) registers inputs = IsFifoFrontReady plan depth registers
MayGoForward plan AsFifo registers inputs = (wire_at inputs 0).valid < length plan.nets
MayGoForward plan AsVr registers inputs = (wire_at inputs 0).valid < length plan.nets
MayGoForward plan (Map body) registers inputs = IsFormulaReady plan ((wire_at inputs 0).word ∷ []) body
MayGoForward plan (Scan reset body) registers inputs = IsFormulaReady plan (registers ∷ (wire_at inputs 0).word ∷ []) body
MayGoForward plan (Fork branches) registers inputs = IsForkFrontReady plan branches registers (wire_at inputs 0).valid
MayGoForward plan Join registers inputs = IsJoinReady plan (join_of (wire_at inputs 0) (wire_at inputs 1))

-- ---- backward nets, of what the element has so far, the ready nets of the outputs, and a place

abbrev pub backward_nets : Part → Laid → List ℕ → ℕ → List Net
backward_nets (Stage width) laid readies at = stage_ready laid.registers
backward_nets (Fifo width depth) laid readies at = fifo_back depth laid.registers at
backward_nets AsFifo laid readies at = []
backward_nets AsVr laid readies at = as_vr_rden (ready_at readies 0) laid.output.valid
backward_nets (Map body) laid readies at = []
backward_nets (Scan reset body) laid readies at = []
backward_nets (Fork branches) laid readies at = fork_back laid.registers readies at
backward_nets Join laid readies at = join_backward (join_of (wire_at laid.inputs 0) (wire_at laid.inputs 1)) (ready_at readies 0)

-- the ready net of the first input
abbrev pub first_ready : Part → List ℕ → ℕ → ℕ
first_ready (Stage width) readies at = at
first_ready (Fifo width depth) readies at = at + 2
first_ready AsFifo readies at = ready_at readies 0
first_ready AsVr readies at = at
first_ready (Map body) readies at = ready_at readies 0
first_ready (Scan reset body) readies at = ready_at readies 0
first_ready (Fork branches) readies at = at + branches + (branches - 2)
first_ready Join readies at = at

-- those of so many inputs: a join has two, one behind the other
abbrev pub nets_from : ℕ → ℕ → List ℕ
nets_from first zero = []
nets_from first (suc n) = nets_from first n ++ (first + n) ∷ []

abbrev pub input_readies : Part → List ℕ → ℕ → List ℕ
input_readies part readies at = nets_from (first_ready part readies at) (input_count part)

abbrev pub laid_backward : Laid → List ℕ → ℕ → Laid
laid_backward laid readies at = record laid { readies = readies; backward = at }

-- the backward nets of a part may be pushed
abbrev pub MayGoBack : Plan → Part → Laid → List ℕ → Type 0
MayGoBack plan (Stage width) laid readies = laid.registers + 1 < length plan.nets
MayGoBack plan (Fifo width depth) laid readies = IsFifoFrontReady plan depth laid.registers
MayGoBack plan AsFifo laid readies = Unit {0}
MayGoBack plan AsVr laid readies = Carries plan (ready_at readies 0) 1 × Carries plan laid.output.valid 1
MayGoBack plan (Map body) laid readies = Unit {0}
MayGoBack plan (Scan reset body) laid readies = Unit {0}
MayGoBack plan (Fork branches) laid readies = IsForkBackReady plan laid.registers readies
MayGoBack plan Join laid readies = Carries plan (ready_at readies 0) 1 × Carries plan (wire_at laid.inputs 0).valid 1 × Carries plan (wire_at laid.inputs 1).valid 1

-- ---- next nets

abbrev pub stage_of : ℕ → Laid → StageNets
stage_of width laid = record { width = width; registers = laid.registers; valid = (wire_at laid.inputs 0).valid; word = (wire_at laid.inputs 0).word; ready = ready_at laid.readies 0; room = laid.backward }

abbrev pub fifo_in : ℕ → ℕ → Laid → FifoPlaces
fifo_in width depth laid = record { width = width; depth = depth; valid = (wire_at laid.inputs 0).valid; word = (wire_at laid.inputs 0).word; rden = ready_at laid.readies 0; registers = laid.registers; forward = laid.forward; backward = laid.backward }

abbrev pub scan_of : Laid → ScanNets
scan_of laid = record { register = laid.registers; valid = (wire_at laid.inputs 0).valid; ready = ready_at laid.readies 0; out = laid.output.word }

abbrev pub fork_in : Laid → ForkPlaces
fork_in laid = record { valid = (wire_at laid.inputs 0).valid; word = (wire_at laid.inputs 0).word; registers = laid.registers; forward = laid.forward; backward = laid.backward }

abbrev pub next_nets : Part → Laid → ℕ → List Net
next_nets (Stage width) laid at = stage_next (stage_of width laid) at
next_nets (Fifo width depth) laid at = fifo_next (fifo_in width depth laid) at
next_nets (Scan reset body) laid at = scan_next (scan_of laid) at
next_nets (Fork branches) laid at = fork_next (fork_in laid) laid.readies at
next_nets AsFifo laid at = []
next_nets AsVr laid at = []
next_nets (Map body) laid at = []
next_nets Join laid at = []

-- the netlist with the next nets of its registers set, where these stand from a place on
abbrev pub linked_up : Part → Laid → ℕ → Plan → Plan
linked_up (Stage width) laid at plan = stage_linked plan laid.registers at
linked_up (Fifo width depth) laid at plan = fifo_linked plan (fifo_in width depth laid) at
linked_up (Scan reset body) laid at plan = scan_linked plan laid.registers at
linked_up (Fork branches) laid at plan = fork_linked plan laid.registers at (length laid.readies)
linked_up AsFifo laid at plan = plan
linked_up AsVr laid at plan = plan
linked_up (Map body) laid at plan = plan
linked_up Join laid at plan = plan

-- the next nets of a part may be pushed
abbrev pub MayGoOn : Plan → Part → Laid → Type 0
MayGoOn plan (Stage width) laid = IsStageReady plan (stage_of width laid)
MayGoOn plan (Fifo width depth) laid = IsFifoReady plan (fifo_in width depth laid)
MayGoOn plan (Scan reset body) laid = IsScanReady plan (scan_of laid) reset
MayGoOn plan (Fork branches) laid = IsForkReady plan (fork_in laid) laid.readies
MayGoOn plan AsFifo laid = Unit {0}
MayGoOn plan AsVr laid = Unit {0}
MayGoOn plan (Map body) laid = Unit {0}
MayGoOn plan Join laid = Unit {0}
