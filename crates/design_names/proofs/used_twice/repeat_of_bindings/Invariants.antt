use Rattle.std.proofs.Common.{◌≡◌, map, take}
use Rattle.name_tables.specs.Keys.{occurrence_of}
use Rattle.check_rules.specs.Uses.{binding_named}
use Rattle.design_names.proofs.used_twice.repeat_of_bindings.Given as goal

abbrev pub invariant-loop-binding : goal.invariant-loop-binding
invariant-loop-binding l = map occurrence_of l.marks ≡ map binding_named (take l.binding-index l.bindings)
