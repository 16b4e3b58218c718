-- A netlist as contracts see it, and what it keeps.
use Rattle.std.specs.Prelude.{◌≡◌, ℕ, ◌<◌, ◌≤◌, ◌++◌, ◌∷◌, [], Bool, true, List, Option, Some, None, length, slice_get, IsSome}
use Rattle.std.specs.List.{slice_index_or, slice_set}
use Rattle.netlist.specs.declared.limits.TheConstants.{MAX_NETS, MAX_WIDTH}
use Rattle.netlist.specs.declared.net.Net.{Net}
use Rattle.netlist.specs.declared.net.Net.TheVariants.{Not}
use Rattle.netlist.specs.Nets.{Fits, width_at, width_in, is_register}

-- the nets in order, the width of each, and of each register the number of its next net, where that is set
pub record Plan : Type 0 where
  pub nets : List Net
  pub widths : List ℕ
  pub nexts : List (Option ℕ)

abbrev pub empty_plan : Plan
empty_plan = record { nets = []; widths = []; nexts = [] }

-- a net stands at a place
abbrev pub Stands : List Net → ℕ → Net → Type 0
Stands nets place net = slice_get nets place ≡ Some net

-- the net at a place; past the end one that is neither an input nor a register
abbrev pub net_at : List Net → ℕ → Net
net_at nets place = slice_index_or nets place (Not 0)

abbrev pub is_register_at : List Net → ℕ → Bool
is_register_at nets place = is_register (net_at nets place)

-- the next net of a register, where it is set
abbrev pub next_of : Plan → ℕ → Option ℕ
next_of plan register = slice_index_or plan.nexts register None

-- the netlist with one net more, at its end
abbrev pub with_net : Plan → Net → Plan
with_net plan net = record { nets = plan.nets ++ net ∷ []; widths = plan.widths ++ width_in net plan.widths ∷ []; nexts = plan.nexts ++ None ∷ [] }

-- the netlist with a register's next net set
abbrev pub with_next : Plan → ℕ → ℕ → Plan
with_next plan register next = record plan { nexts = slice_set plan.nexts register (Some next) }

-- a net is 1 to 1,024 bits wide
pub record IsWidth (width : ℕ) : Type 0 where
  pub low : 1 ≤ width
  pub high : width ≤ MAX_WIDTH

-- the net at a place reads nets before it alone, of widths that fit, and has its width
pub record FitsAt (widths : List ℕ) (place : ℕ) (net : Net) : Type 0 where
  pub fits : Fits net place widths
  pub own : width_at widths place ≡ width_in net widths
  pub wide : IsWidth (width_at widths place)

-- a register may take its words from a net: any net that there is, of its width
pub record IsNextOf (plan : Plan) (register next : ℕ) : Type 0 where
  pub is_one : is_register_at plan.nets register ≡ true
  pub within : next < length plan.nets
  pub same : width_at plan.widths next ≡ width_at plan.widths register

-- what every netlist keeps
pub record IsPlan (plan : Plan) : Type 0 where
  pub width_count : length plan.widths ≡ length plan.nets
  pub next_count : length plan.nexts ≡ length plan.nets
  pub limit : length plan.nets ≤ MAX_NETS
  pub fit : (place : ℕ) (net : Net) → Stands plan.nets place net → FitsAt plan.widths place net
  pub set_nexts : (register next : ℕ) → next_of plan register ≡ Some next → IsNextOf plan register next

-- each register has its next net
pub record HasAllNexts (plan : Plan) : Type 0 where
  pub each : (register : ℕ) → is_register_at plan.nets register ≡ true → IsSome (next_of plan register)

-- what a sealed netlist keeps
pub record IsComplete (plan : Plan) : Type 0 where
  pub plan_kept : IsPlan plan
  pub all : HasAllNexts plan
