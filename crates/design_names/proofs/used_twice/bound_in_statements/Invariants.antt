use Rattle.std.proofs.Common.{◌≡◌, take}
use Rattle.std.specs.List.{flat_map}
use Rattle.name_tables.specs.FirstPlaces.{least_from}
use Rattle.design_names.specs.Places.{statement_bound}
use Rattle.design_names.proofs.used_twice.bound_in_statements.Given as goal

abbrev pub invariant-loop-statement : goal.invariant-loop-statement
invariant-loop-statement l = l.place ≡ least_from l.fn.first (flat_map (λ s. statement_bound s.now) (take l.statement-index l.statements))
