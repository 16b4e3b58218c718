use Rattle.std.proofs.Common.{◌≡◌, take, drop}
use Rattle.net_lists.specs.Lists.{with_nets, FitAll}
use Rattle.net_lists.proofs.push_nets.Given as goal

abbrev pub invariant-loop-net : goal.invariant-loop-net
invariant-loop-net l = record { fit : FitAll l.netlist (drop l.net-index l.nets); so_far : l.netlist ≡ with_nets l.initial.netlist (take l.net-index l.nets) }
