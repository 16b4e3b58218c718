use Rattle.std.proofs.Common.{◌≡◌, take}
use Rattle.std.specs.List.{flat_map}
use Rattle.name_tables.specs.FirstPlaces.{least_from}
use Rattle.check_rules.specs.Counts.{statement_counts}
use Rattle.statement_checks.proofs.counts.body_count.Given as goal

abbrev pub invariant-loop-statement : goal.invariant-loop-statement
invariant-loop-statement l = l.place ≡ least_from l.fn.first (flat_map (λ s. statement_counts s.now) (take l.statement-index l.body.statements))
