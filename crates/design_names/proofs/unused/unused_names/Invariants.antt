use Rattle.std.proofs.Common.{◌≡◌, take}
use Rattle.std.specs.List.{flat_map}
use Rattle.name_tables.specs.FirstPlaces.{least_from}
use Rattle.check_rules.specs.References.{named}
use Rattle.design_names.specs.UnusedPlaces.{missing_one}
use Rattle.design_names.proofs.unused.unused_names.Given as goal

abbrev pub invariant-loop-name : goal.invariant-loop-name
invariant-loop-name l = l.place ≡ least_from l.fn.first (flat_map (λ n. missing_one l.used (named n)) (take l.name-index l.names))
