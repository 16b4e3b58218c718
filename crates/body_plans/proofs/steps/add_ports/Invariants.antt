use Rattle.std.proofs.Common.{◌≡◌, ◌++◌, take}
use Rattle.body_plans.specs.Plans.{port_sources}
use Rattle.body_plans.proofs.steps.add_ports.Given as goal

abbrev pub invariant-loop-port : goal.invariant-loop-port
invariant-loop-port l = l.sources ≡ l.fn.sources ++ port_sources l.places l.bindings (take l.port-index l.ports)
