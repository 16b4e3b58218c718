use Rattle.std.proofs.Common.{◌≡◌, map, take}
use Rattle.std.specs.List.{flat_map}
use Rattle.name_tables.specs.Keys.{occurrence_of}
use Rattle.check_rules.specs.DeclaredTwice.{ids_of}
use Rattle.design_names.proofs.declared_twice.repeat_of_ids.Given as goal

abbrev pub invariant-loop-statement : goal.invariant-loop-statement
invariant-loop-statement l = map occurrence_of l.marks ≡ flat_map (λ s. ids_of s.now) (take l.statement-index l.statements)
