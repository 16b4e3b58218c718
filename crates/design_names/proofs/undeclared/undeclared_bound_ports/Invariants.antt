use Rattle.std.proofs.Common.{◌≡◌, take}
use Rattle.std.specs.List.{flat_map}
use Rattle.name_tables.specs.FirstPlaces.{least_from}
use Rattle.design_names.specs.ReferencePlaces.{bound_port_undeclared}
use Rattle.design_names.proofs.undeclared.undeclared_bound_ports.Given as goal

abbrev pub invariant-loop-binding : goal.invariant-loop-binding
invariant-loop-binding l = l.place ≡ least_from l.fn.first (flat_map (bound_port_undeclared l.source) (take l.binding-index l.bindings))
