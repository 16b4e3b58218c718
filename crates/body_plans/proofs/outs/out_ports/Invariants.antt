use Rattle.std.proofs.Common.{◌≡◌, take}
use Rattle.body_plans.specs.Plans.{port_places}
use Rattle.body_plans.proofs.outs.out_ports.Given as goal

abbrev pub invariant-loop-port : goal.invariant-loop-port
invariant-loop-port l = l.outs ≡ port_places l.places l.drives (take l.port-index l.ports)
