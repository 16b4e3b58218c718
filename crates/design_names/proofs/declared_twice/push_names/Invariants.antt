use Rattle.std.proofs.Common.{◌≡◌, ◌++◌, map, take}
use Rattle.name_tables.specs.Keys.{occurrence_of}
use Rattle.check_rules.specs.References.{named}
use Rattle.design_names.proofs.declared_twice.push_names.Given as goal

abbrev pub invariant-loop-name : goal.invariant-loop-name
invariant-loop-name l = map occurrence_of l.marks ≡ map occurrence_of l.initial.marks ++ map named (take l.name-index l.names)
