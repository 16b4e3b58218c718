use Rattle.std.proofs.Common.{◌≡◌, take}
use Rattle.std.specs.List.{flat_map}
use Rattle.name_tables.specs.FirstPlaces.{least}
use Rattle.design_names.specs.Places.{body_uses}
use Rattle.design_names.proofs.used_twice.first_used_twice.Given as goal

abbrev pub invariant-loop-body : goal.invariant-loop-body
invariant-loop-body l = l.place ≡ least (flat_map body_uses (take l.body-index l.bodies))
