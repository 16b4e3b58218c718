use Rattle.std.proofs.Common.{◌≡◌, take}
use Rattle.std.specs.List.{flat_map}
use Rattle.name_tables.specs.FirstPlaces.{least}
use Rattle.statement_checks.specs.Counted.{body_counts}
use Rattle.statement_checks.proofs.counts.first_count.Given as goal

abbrev pub invariant-loop-body : goal.invariant-loop-body
invariant-loop-body l = l.first ≡ least (flat_map body_counts (take l.body-index l.bodies))
