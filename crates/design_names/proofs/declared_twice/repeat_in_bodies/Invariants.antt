use Rattle.std.proofs.Common.{◌≡◌, take}
use Rattle.std.specs.List.{flat_map}
use Rattle.name_tables.specs.FirstPlaces.{least_from}
use Rattle.design_names.specs.Places.{body_repeats}
use Rattle.design_names.proofs.declared_twice.repeat_in_bodies.Given as goal

abbrev pub invariant-loop-body : goal.invariant-loop-body
invariant-loop-body l = l.place ≡ least_from l.fn.first (flat_map body_repeats (take l.body-index l.bodies))
