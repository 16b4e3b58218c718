use Rattle.std.proofs.Common.{◌≡◌, take}
use Rattle.std.specs.List.{flat_map}
use Rattle.name_tables.specs.FirstPlaces.{least_from}
use Rattle.check_rules.specs.DeclaredTwice.{port_named}
use Rattle.design_names.specs.UnusedPlaces.{missing_one}
use Rattle.design_names.proofs.unused.unused_ports.Given as goal

abbrev pub invariant-loop-port : goal.invariant-loop-port
invariant-loop-port l = l.place ≡ least_from l.fn.first (flat_map (λ p. missing_one l.used (port_named p)) (take l.port-index l.ports))
