use Rattle.std.proofs.Common.{◌≡◌, ◌++◌, map, take}
use Rattle.name_tables.specs.Keys.{occurrence_of}
use Rattle.check_rules.specs.DeclaredTwice.{port_named}
use Rattle.design_names.proofs.declared_twice.push_ports.Given as goal

abbrev pub invariant-loop-port : goal.invariant-loop-port
invariant-loop-port l = map occurrence_of l.marks ≡ map occurrence_of l.initial.marks ++ map port_named (take l.port-index l.ports)
