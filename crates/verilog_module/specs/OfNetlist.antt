-- The module of a netlist with its endpoints.
use Rattle.std.specs.Prelude.{ℕ, ◌+◌, List, [], ◌∷◌, Option, Some, None, map}
use Rattle.netlist.specs.declared.net.Net.{Net}
use Rattle.netlist.specs.declared.net.Net.TheVariants as N
use Rattle.netlist.specs.declared.net.Net.TheVariants.{Input, Register}
use Rattle.netlist.specs.Nets.{is_register}
use Rattle.netlist.specs.Plans.{Plan}
use Rattle.verilog_module.specs.declared.module.Declared.{Declared}
use Rattle.verilog_module.specs.declared.module.EndpointLine.{EndpointLine}
use Rattle.verilog_module.specs.declared.module.Offer.{Offer}
use Rattle.verilog_module.specs.declared.right.Right.{Right}
use Rattle.verilog_module.specs.declared.right.Right.TheVariants.{Port, Constant, Not, And, Or, Xor, Add, Sub, Equal, Less, Choose, Slice, Concat}
use Rattle.verilog_module.specs.Modules.{Bits, Module}

-- What a module has beside its nets: its title, its endpoints, and the nets that drive its output ports.
pub record Interface : Type 0 where
  pub title : List ℕ
  pub to_server : List EndpointLine
  pub to_client : List EndpointLine
  pub readies : List ℕ
  pub offers : List Offer

-- the declarations of nets of these widths
abbrev pub declarations : List Net → List ℕ → List Declared
declarations [] widths = []
declarations (net ∷ nets) [] = []
declarations (net ∷ nets) (width ∷ widths) = record { width = width; is_register = is_register net } ∷ declarations nets widths

-- the right side of a net's assign, where so many inputs stand before it
abbrev pub right_of : ℕ → Net → Option Right
right_of k (Input width) = Some (Port k)
right_of k (Register reset) = None
right_of k (N.Const word) = Some (Constant word)
right_of k (N.Not a) = Some (Not a)
right_of k (N.And a b) = Some (And a b)
right_of k (N.Or a b) = Some (Or a b)
right_of k (N.Xor a b) = Some (Xor a b)
right_of k (N.Add a b) = Some (Add a b)
right_of k (N.Sub a b) = Some (Sub a b)
right_of k (N.Equal a b) = Some (Equal a b)
right_of k (N.Less a b) = Some (Less a b)
right_of k (N.Choose test one other) = Some (Choose test one other)
right_of k (N.Slice of high low) = Some (Slice of high low)
right_of k (N.Concat high low) = Some (Concat high low)

-- how many inputs stand before the next net
abbrev pub inputs_behind : ℕ → Net → ℕ
inputs_behind k (Input width) = k + 1
inputs_behind k _ = k

-- the right sides of nets, where so many inputs stand before them
abbrev pub rights_from : ℕ → List Net → List (Option Right)
rights_from k [] = []
rights_from k (net ∷ nets) = right_of k net ∷ rights_from (inputs_behind k net) nets

-- the reset of a register
abbrev pub reset_from : Net → Option Bits
reset_from (Register reset) = Some reset
reset_from _ = None

abbrev pub module_of : Plan → Interface → Module
module_of plan interface = record {
  title = interface.title;
  to_server = interface.to_server;
  to_client = interface.to_client;
  nets = declarations plan.nets plan.widths;
  rights = rights_from 0 plan.nets;
  readies = interface.readies;
  offers = interface.offers;
  resets = map reset_from plan.nets;
  nexts = plan.nexts;
}
