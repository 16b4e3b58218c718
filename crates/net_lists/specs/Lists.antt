-- Lists of nets that are added to a netlist at its end, and where they stand in every netlist that has them.
use Rattle.std.specs.Prelude.{◌≡◌, ℕ, ◌+◌, ◌<◌, ◌≤◌, List, [], ◌∷◌, length, take, slice_get, Some}
use Rattle.netlist.specs.declared.net.Net.{Net}
use Rattle.netlist.specs.Nets.{Fits, width_at}
use Rattle.netlist.specs.Plans.{Plan, Stands, with_net}

-- the netlist with these nets more, at its end
abbrev pub with_nets : Plan → List Net → Plan
with_nets plan [] = plan
with_nets plan (net ∷ nets) = with_nets (with_net plan net) nets

-- each of the nets reads nets before it alone, of widths that fit its operator
abbrev pub FitAll : Plan → List Net → Type 0
FitAll plan [] = Unit {0}
FitAll plan (net ∷ nets) = Fits net (length plan.nets) plan.widths × FitAll (with_net plan net) nets

-- the netlist has got some of the nets, the first ones, but not all
pub record HasSome (old new : Plan) (nets : List Net) : Type 0 where
  pub count : ℕ
  pub fewer : count < length nets
  pub is : new ≡ with_nets old (take count nets)

-- the netlist has got the first ones of the nets, maybe none, maybe all
pub record HasFront (old new : Plan) (nets : List Net) : Type 0 where
  pub count : ℕ
  pub within : count ≤ length nets
  pub is : new ≡ with_nets old (take count nets)

-- a list of nets stands in a netlist, from a place on
pub record StandFrom (nets : List Net) (at : ℕ) (these : List Net) : Type 0 where
  pub each : (place : ℕ) (net : Net) → slice_get these place ≡ Some net → Stands nets (at + place) net

-- a net stands before the end of a netlist, and is so wide
pub record Carries (plan : Plan) (net width : ℕ) : Type 0 where
  pub below : net < length plan.nets
  pub wide : width_at plan.widths net ≡ width
