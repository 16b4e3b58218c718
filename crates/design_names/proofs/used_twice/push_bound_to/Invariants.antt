use Rattle.std.proofs.Common.{◌≡◌, ◌++◌, map, take}
use Rattle.name_tables.specs.Keys.{occurrence_of}
use Rattle.design_names.specs.Places.{binding_used}
use Rattle.design_names.proofs.used_twice.push_bound_to.Given as goal

abbrev pub invariant-loop-binding : goal.invariant-loop-binding
invariant-loop-binding l = map occurrence_of l.marks ≡ map occurrence_of l.initial.marks ++ map binding_used (take l.binding-index l.bindings)
