-- A netlist with ports as a circuit: each to-server channel offers the oldest word of its ring on the inputs of its port, each
-- to-client channel says on its input whether its ring has room, and all nets settle.
use Rattle.std.specs.Prelude.{◌≡◌, ℕ, ◌<◌, ◌≤◌, Bool, true, false, if◌then◌else◌, List, [], ◌∷◌, ◌++◌, length, map, replicate, count_by, Option, Some, None}
use Rattle.std.specs.List.{slice_index_or}
use Rattle.std.proofs.lemmas.List.{length-map}
use Rattle.netlist.specs.declared.net.Net.TheVariants.{Input}
use Rattle.netlist.specs.Nets.{Bits, word_at, width_at, is_input}
use Rattle.netlist.specs.Plans.{Plan, Stands}
use Rattle.netlist.specs.Runs.{registers_after}
use Rattle.netlist.specs.Settled.{input_place}
use Rattle.cycle_rules.specs.Circuit.{Circuit}
use Rattle.cycle_rules.specs.Lists.{zip_with}
use Rattle.channel_lower.specs.declared.lowered.Lowered.{Lowered}
use Rattle.channel_lower.specs.declared.lowered.Port.{Port}
use Rattle.endpoint_hub.specs.declared.limits.TheConstants.{SIDE_CHANNELS}
use Rattle.session_rules.specs.SettledWords.{settled_words}

-- ---- the inputs

-- an offer on its port's inputs: whether there is one, and its word; a blank word where there is none
abbrev pub valid_word : Option Bits → Bits
valid_word None = false ∷ []
valid_word (Some word) = true ∷ []

abbrev pub word_shown : Bits → Option Bits → Bits
word_shown blank None = blank
word_shown blank (Some word) = word

abbrev pub offer_words : Bits → Option Bits → List Bits
offer_words blank offer = valid_word offer ∷ word_shown blank offer ∷ []

abbrev pub room_word : Bool → Bits
room_word room = room ∷ []

abbrev pub joined : List (List Bits) → List Bits
joined [] = []
joined (words ∷ others) = words ++ joined others

-- the words of all inputs: two for each to-server channel, then one for each to-client channel
abbrev pub inputs_of : List Bits → List (Option Bits) → List Bool → List Bits
inputs_of blanks offers rooms = joined (zip_with offer_words blanks offers) ++ map room_word rooms

-- ---- the ports

abbrev pub no_port : Port
no_port = record { valid = 0; word = 0; ready = 0 }

abbrev pub port_at : List Port → ℕ → Port
port_at ports channel = slice_index_or ports channel no_port

-- how wide the words of a port are
abbrev pub port_width : Plan → Port → ℕ
port_width plan port = width_at plan.widths port.word

abbrev pub blank_word : Plan → Port → Bits
blank_word plan port = replicate (port_width plan port) false

abbrev pub blanks_of : Lowered → List Bits
blanks_of lowered = map (blank_word lowered.net) lowered.servers

-- ---- the circuit

-- the bit of a word of one bit
abbrev pub bit_of : Bits → Bool
bit_of [] = false
bit_of (bit ∷ bits) = bit

-- whether a port is ready, and which word it offers, where the nets have these words
abbrev pub is_ready : (ℕ → Bits) → Port → Bool
is_ready words port = bit_of (words port.ready)

abbrev pub word_offered : (ℕ → Bits) → Port → Option Bits
word_offered words port = if bit_of (words port.valid) then Some (words port.word) else None

-- the words of all nets, for these words of the registers
abbrev pub net_words : Lowered → List Bits → List (Option Bits) → List Bool → List Bits
net_words lowered held offers rooms = settled_words lowered.net (inputs_of (blanks_of lowered) offers rooms) held

-- what is in the circuit are the words of its registers, each at its register's place
abbrev pub circuit_of : Lowered → Circuit (List Bits)
circuit_of lowered = record {
  to_server_count = length lowered.servers;
  to_client_count = length lowered.clients;
  readies = λ held offers rooms. map (is_ready (word_at (net_words lowered held offers rooms))) lowered.servers;
  words = λ held offers rooms. map (word_offered (word_at (net_words lowered held offers rooms))) lowered.clients;
  next = λ held offers rooms. registers_after lowered.net (Some (net_words lowered held offers rooms));
  all_readies = λ held offers rooms offered roomy. length-map lowered.servers (is_ready (word_at (net_words lowered held offers rooms)));
  all_words = λ held offers rooms offered roomy. length-map lowered.clients (word_offered (word_at (net_words lowered held offers rooms)));
}

-- the registers at the start
abbrev pub start_of : Lowered → List Bits
start_of lowered = registers_after lowered.net None

-- ---- netlists whose ports are their inputs

abbrev pub two_each : List ℕ → List ℕ
two_each [] = []
two_each (width ∷ widths) = 1 ∷ width ∷ two_each widths

-- how wide the inputs of all ports are
abbrev pub port_widths : Lowered → List ℕ
port_widths lowered = two_each (map (port_width lowered.net) lowered.servers) ++ map (λ (port : Port). 1) lowered.clients

-- the nets of a port stand in the netlist
pub record IsPort (plan : Plan) (port : Port) : Type 0 where
  pub valid : port.valid < length plan.nets
  pub word : port.word < length plan.nets
  pub ready : port.ready < length plan.nets

pub record ArePorts (plan : Plan) (ports : List Port) : Type 0 where
  pub each : (channel : ℕ) → channel < length ports → IsPort plan (port_at ports channel)

-- The inputs of the netlist are those of its ports, in order: of each to-server channel valid and word, then of each to-client channel
-- ready. At most 32 channels stand on each side.
pub record HasPorts (lowered : Lowered) : Type 0 where
  pub few_servers : length lowered.servers ≤ SIDE_CHANNELS
  pub few_clients : length lowered.clients ≤ SIDE_CHANNELS
  pub servers : ArePorts lowered.net lowered.servers
  pub clients : ArePorts lowered.net lowered.clients
  pub input_count : count_by is_input lowered.net.nets ≡ length (port_widths lowered)
  pub input_width : (place width : ℕ) → Stands lowered.net.nets place (Input width) → width_at (port_widths lowered) (input_place lowered.net.nets place) ≡ width
