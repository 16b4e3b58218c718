use Rattle.std.proofs.Common.{◌≡◌, take}
use Rattle.std.specs.List.{flat_map}
use Rattle.name_tables.specs.FirstPlaces.{least_from}
use Rattle.design_names.specs.ReferencePlaces.{port_bundle_undeclared}
use Rattle.design_names.proofs.undeclared.undeclared_in_service.Given as goal

abbrev pub invariant-loop-port : goal.invariant-loop-port
invariant-loop-port l = l.place ≡ least_from l.fn.first (flat_map (port_bundle_undeclared l.bundles) (take l.port-index l.ports))
