use Rattle.std.proofs.Common.{◌≡◌, take}
use Rattle.std.specs.List.{flat_map}
use Rattle.name_tables.specs.FirstPlaces.{least_from}
use Rattle.design_scopes.specs.Resolving.{scope_in}
use Rattle.design_names.specs.UnusedPlaces.{unused_by}
use Rattle.design_names.proofs.unused.unused_of_statements.Given as goal

abbrev pub invariant-loop-statement : goal.invariant-loop-statement
invariant-loop-statement l = l.place ≡ least_from l.fn.first (flat_map (λ s. unused_by (scope_in l.declared l.body) l.used s.now) (take l.statement-index l.statements))
