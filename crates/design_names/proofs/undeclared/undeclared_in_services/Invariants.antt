use Rattle.std.proofs.Common.{◌≡◌, take}
use Rattle.std.specs.List.{flat_map}
use Rattle.name_tables.specs.FirstPlaces.{least}
use Rattle.check_rules.specs.Undeclared.{service_undeclared}
use Rattle.design_names.proofs.undeclared.undeclared_in_services.Given as goal

abbrev pub invariant-loop-service : goal.invariant-loop-service
invariant-loop-service l = l.place ≡ least (flat_map (service_undeclared l.bundles) (take l.service-index l.services))
