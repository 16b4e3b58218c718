use Rattle.std.proofs.Common.{◌≡◌, ◌++◌, map, take}
use Rattle.std.specs.List.{flat_map}
use Rattle.name_tables.specs.Keys.{occurrence_of}
use Rattle.design_names.specs.Places.{statement_used}
use Rattle.design_names.proofs.used_twice.push_used.Given as goal

abbrev pub invariant-loop-statement : goal.invariant-loop-statement
invariant-loop-statement l = map occurrence_of l.marks ≡ map occurrence_of l.initial.marks ++ flat_map (λ s. statement_used s.now) (take l.statement-index l.statements)
