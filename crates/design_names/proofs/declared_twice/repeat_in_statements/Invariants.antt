use Rattle.std.proofs.Common.{◌≡◌, take}
use Rattle.std.specs.List.{flat_map}
use Rattle.name_tables.specs.FirstPlaces.{least_from}
use Rattle.design_names.specs.Places.{statement_repeats}
use Rattle.design_names.proofs.declared_twice.repeat_in_statements.Given as goal

abbrev pub invariant-loop-statement : goal.invariant-loop-statement
invariant-loop-statement l = l.place ≡ least_from l.fn.first (flat_map (λ s. statement_repeats s.now) (take l.statement-index l.statements))
