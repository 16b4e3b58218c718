use Rattle.std.proofs.Common.{◌≡◌, take}
use Rattle.std.specs.List.{flat_map}
use Rattle.name_tables.specs.FirstPlaces.{least_from}
use Rattle.design_names.specs.ReferencePlaces.{implement_undeclared}
use Rattle.design_names.proofs.undeclared.undeclared_implements.Given as goal

abbrev pub invariant-loop-name : goal.invariant-loop-name
invariant-loop-name l = l.place ≡ least_from l.fn.first (flat_map (λ n. implement_undeclared l.services n.now) (take l.name-index l.implements))
