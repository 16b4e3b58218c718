use Rattle.std.proofs.Common.{◌≡◌, ◌++◌, map, take}
use Rattle.name_tables.specs.Keys.{label_of}
use Rattle.design_scopes.specs.Tables.{port_label}
use Rattle.design_scopes.proofs.body_names.add_ports.Given as goal

abbrev pub invariant-loop-port : goal.invariant-loop-port
invariant-loop-port l = map label_of l.keys ≡ map label_of l.initial.keys ++ map port_label (take l.port-index l.ports)
