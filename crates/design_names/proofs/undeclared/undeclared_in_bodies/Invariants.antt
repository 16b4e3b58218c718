use Rattle.std.proofs.Common.{◌≡◌, take}
use Rattle.std.specs.List.{flat_map}
use Rattle.name_tables.specs.FirstPlaces.{least_from}
use Rattle.design_names.specs.ReferencePlaces.{body_undeclared}
use Rattle.design_names.proofs.undeclared.undeclared_in_bodies.Given as goal

abbrev pub invariant-loop-body : goal.invariant-loop-body
invariant-loop-body l = l.place ≡ least_from l.fn.first (flat_map (body_undeclared l.declared) (take l.body-index l.bodies))
