use Rattle.std.proofs.Common.{◌≡◌, take}
use Rattle.std.specs.List.{flat_map}
use Rattle.name_tables.specs.FirstPlaces.{least}
use Rattle.design_names.specs.ReferencePlaces.{body_wrong}
use Rattle.design_names.proofs.directions.first_direction.Given as goal

abbrev pub invariant-loop-body : goal.invariant-loop-body
invariant-loop-body l = l.place ≡ least (flat_map (body_wrong l.declared) (take l.body-index l.bodies))
