-- What is known of the module of a netlist.
use Rattle.std.specs.Prelude.{◌≡◌, ℕ, ◌<◌, ◌≤◌, false, List, length, All, IsTrue}
use Rattle.std.specs.List.{slice_index_or}
use Rattle.channel_types.specs.Types.{width_of}
use Rattle.netlist.specs.declared.net.Net.{Net}
use Rattle.netlist.specs.declared.net.Net.TheVariants.{Input}
use Rattle.netlist.specs.Nets.{is_input, width_at}
use Rattle.netlist.specs.Plans.{Plan, Stands, IsComplete}
use Rattle.netlist.specs.Runs.{IsRun}
use Rattle.verilog_module.specs.declared.limits.TheConstants.{MAX_ENDPOINTS}
use Rattle.verilog_module.specs.declared.module.EndpointLine.{EndpointLine}
use Rattle.verilog_module.specs.declared.module.Offer.{Offer}
use Rattle.verilog_module.specs.Modules.{Bits, input_widths, input_count}
use Rattle.verilog_module.specs.Good.{Fitting, IsGoodEnd, IsGoodModule, is_word_octet}
use Rattle.verilog_module.specs.Meaning.{Means}
use Rattle.verilog_module.specs.OfNetlist.{Interface, module_of}

-- a net of a width
pub record IsNet (plan : Plan) (width net : ℕ) : Type 0 where
  pub there : net < length plan.nets
  pub wide : width_at plan.widths net ≡ width

abbrev pub ReadyNet : Plan → ℕ → EndpointLine → ℕ → Type 0
ReadyNet plan n end ready = IsNet plan 1 ready

abbrev pub OfferNets : Plan → ℕ → EndpointLine → Offer → Type 0
OfferNets plan n end offer = IsNet plan 1 offer.valid × IsNet plan (width_of end.ty) offer.word

-- The interface is one of the netlist: the first nets are the inputs that the endpoints have, in the order of their ports, and no
-- further net is an input; each output port has a net of its width; and what the module is called by can be written.
pub record IsInterfaceOf (plan : Plan) (interface : Interface) : Type 0 where
  pub inputs : (n : ℕ) → n < input_count interface.to_server interface.to_client → Stands plan.nets n (Input (slice_index_or (input_widths interface.to_server interface.to_client) n 0))
  pub others : (n : ℕ) (net : Net) → input_count interface.to_server interface.to_client ≤ n → Stands plan.nets n net → is_input net ≡ false
  pub enough : input_count interface.to_server interface.to_client ≤ length plan.nets
  pub readies : Fitting (ReadyNet plan) 0 interface.to_server interface.readies
  pub offers : Fitting (OfferNets plan) 0 interface.to_client interface.offers
  pub title : All (λ b. IsTrue (is_word_octet b)) interface.title
  pub server_count : length interface.to_server ≤ MAX_ENDPOINTS
  pub client_count : length interface.to_client ≤ MAX_ENDPOINTS
  pub server_ends : All IsGoodEnd interface.to_server
  pub client_ends : All IsGoodEnd interface.to_client

-- the module of a complete netlist is good
abbrev pub ModulesAreGood : Type 0
ModulesAreGood = (plan : Plan) (interface : Interface) → IsComplete plan → IsInterfaceOf plan interface → IsGoodModule (module_of plan interface)

-- The run of a complete netlist is one that its module means, for all register contents before the cycle of reset, and whatever the
-- inputs are in that cycle.
abbrev pub RunsAreMeant : Type 0
RunsAreMeant = (plan : Plan) (interface : Interface) → IsComplete plan → (start first : List Bits) (offers cycles : List (List Bits))
    → IsRun plan offers cycles → Means (module_of plan interface) start first offers cycles

-- The module means no other one.
abbrev pub MeaningsAreRuns : Type 0
MeaningsAreRuns = (plan : Plan) (interface : Interface) → IsComplete plan → (start first : List Bits) (offers cycles : List (List Bits))
    → Means (module_of plan interface) start first offers cycles → IsRun plan offers cycles
