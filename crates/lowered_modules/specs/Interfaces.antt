-- The interface of a lowered netlist: its endpoints, and the nets of its ports.
use Rattle.std.specs.Prelude.{◌≡◌, ℕ, ◌≤◌, List, Some, length, map, get_or, slice_get, All, IsTrue}
use Rattle.channel_types.specs.Types.{width_of}
use Rattle.netlist.specs.declared.part.Part.{Part}
use Rattle.netlist.specs.Plans.{IsComplete}
use Rattle.flat_design.specs.declared.element.Flat.{Flat}
use Rattle.flat_design.specs.Laying.{count_up}
use Rattle.channel_lower.specs.declared.lowered.Port.{Port}
use Rattle.channel_lower.specs.Lowerable.{IsLowerable}
use Rattle.channel_lower.specs.Lowering.{channel_at, lowered}
use Rattle.channel_lower.specs.Ports.{ports_of}
use Rattle.verilog_module.specs.declared.limits.TheConstants.{MAX_ENDPOINTS}
use Rattle.verilog_module.specs.declared.module.EndpointLine.{EndpointLine}
use Rattle.verilog_module.specs.declared.module.Offer.{Offer}
use Rattle.verilog_module.specs.Good.{IsGoodEnd, IsGoodModule, is_word_octet}
use Rattle.verilog_module.specs.OfNetlist.{Interface, module_of}
use Rattle.verilog_module.specs.Statements.{IsInterfaceOf}

abbrev pub ready_of : Port → ℕ
ready_of port = port.ready

abbrev pub offer_of : Port → Offer
offer_of port = record { valid = port.valid; word = port.word }

-- of a title, the endpoints, and the ports of the to-server and of the to-client endpoints
abbrev pub interface_of : List ℕ → List EndpointLine → List EndpointLine → List Port → List Port → Interface
interface_of title to_server to_client servers clients = record {
  title = title;
  to_server = to_server;
  to_client = to_client;
  readies = map ready_of servers;
  offers = map offer_of clients;
}

-- The endpoints are those of a flat list: one for each to-server channel and for each channel that is handed out, each as wide as its
-- channel; and what the module is called by can be written.
pub record AreEnds (flat : Flat) (servers : ℕ) (clients : List ℕ) (title : List ℕ) (to_server to_client : List EndpointLine) : Type 0 where
  pub servers_all : length to_server ≡ servers
  pub clients_all : length to_client ≡ length clients
  pub server_widths : (c : ℕ) (end : EndpointLine) → slice_get to_server c ≡ Some end → width_of end.ty ≡ get_or flat.widths c 0
  pub client_widths : (k : ℕ) (end : EndpointLine) → slice_get to_client k ≡ Some end → width_of end.ty ≡ get_or flat.widths (channel_at clients k) 0
  pub title_word : All (λ b. IsTrue (is_word_octet b)) title
  pub server_count : length to_server ≤ MAX_ENDPOINTS
  pub client_count : length to_client ≤ MAX_ENDPOINTS
  pub server_ends : All IsGoodEnd to_server
  pub client_ends : All IsGoodEnd to_client

-- the interface of the netlist of a flat list
abbrev pub lowered_interface : List Part → Flat → ℕ → List ℕ → List ℕ → List EndpointLine → List EndpointLine → Interface
lowered_interface parts flat servers clients title to_server to_client =
    interface_of title to_server to_client (ports_of (lowered parts flat servers clients) (count_up 0 servers)) (ports_of (lowered parts flat servers clients) clients)

-- it is one of that netlist
abbrev pub LoweredInterfaces : Type 0
LoweredInterfaces =
    (parts : List Part) (flat : Flat) (servers : ℕ) (clients title : List ℕ) (to_server to_client : List EndpointLine) → IsLowerable parts flat servers clients
    → IsComplete (lowered parts flat servers clients).netlist → AreEnds flat servers clients title to_server to_client
    → IsInterfaceOf (lowered parts flat servers clients).netlist (lowered_interface parts flat servers clients title to_server to_client)

-- so its module is good
abbrev pub LoweredModulesAreGood : Type 0
LoweredModulesAreGood =
    (parts : List Part) (flat : Flat) (servers : ℕ) (clients title : List ℕ) (to_server to_client : List EndpointLine) → IsLowerable parts flat servers clients
    → IsComplete (lowered parts flat servers clients).netlist → AreEnds flat servers clients title to_server to_client
    → IsGoodModule (module_of (lowered parts flat servers clients).netlist (lowered_interface parts flat servers clients title to_server to_client))
