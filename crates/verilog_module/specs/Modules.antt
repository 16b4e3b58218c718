-- A Verilog module of the subset that is written and read here.
use Rattle.std.specs.Prelude.{ℕ, ◌+◌, ◌*◌, Bool, false, List, [], ◌∷◌, Option, length}
use Rattle.std.specs.List.{slice_index_or}
use Rattle.channel_types.specs.Types.{width_of}
use Rattle.verilog_module.specs.declared.module.Declared.{Declared}
use Rattle.verilog_module.specs.declared.module.EndpointLine.{EndpointLine}
use Rattle.verilog_module.specs.declared.module.Offer.{Offer}
use Rattle.verilog_module.specs.declared.right.Right.{Right}

-- a word, as its bits, the least significant one first
abbrev pub Bits : Type 0
Bits = List Bool

-- Net k is named nK. The lists on nets have an entry for each net, in order.
pub record Module : Type 0 where
  -- what follows `esi_` in the module's name
  pub title : List ℕ
  -- the endpoints, each with its comment line and three ports
  pub to_server : List EndpointLine
  pub to_client : List EndpointLine
  -- the declarations of nets
  pub nets : List Declared
  -- the right side of the assign of a net, where it has one
  pub rights : List (Option Right)
  -- the net that drives the ready port of each to-server endpoint
  pub readies : List ℕ
  -- the nets that drive the valid and the word port of each to-client endpoint
  pub offers : List Offer
  -- the constant that a net takes where `rst` is 1, where the always block says one
  pub resets : List (Option Bits)
  -- the net whose word it takes else, where the always block says one
  pub nexts : List (Option ℕ)

-- what stands for a net that is not declared
abbrev pub no_net : Declared
no_net = record { width = 0; is_register = false }

abbrev pub declared_at : List Declared → ℕ → Declared
declared_at nets n = slice_index_or nets n no_net

-- the width of a net
abbrev pub net_width : List Declared → ℕ → ℕ
net_width nets n = (declared_at nets n).width

-- the widths of the input ports but `clk` and `rst`, in the order of the module line: valid and word of each to-server endpoint,
-- then ready of each to-client endpoint
abbrev pub server_inputs : List EndpointLine → List ℕ → List ℕ
server_inputs [] behind = behind
server_inputs (end ∷ ends) behind = 1 ∷ width_of end.ty ∷ server_inputs ends behind

abbrev pub client_inputs : List EndpointLine → List ℕ
client_inputs [] = []
client_inputs (end ∷ ends) = 1 ∷ client_inputs ends

abbrev pub input_widths : List EndpointLine → List EndpointLine → List ℕ
input_widths to_server to_client = server_inputs to_server (client_inputs to_client)

-- how many there are
abbrev pub input_count : List EndpointLine → List EndpointLine → ℕ
input_count to_server to_client = 2 * length to_server + length to_client
