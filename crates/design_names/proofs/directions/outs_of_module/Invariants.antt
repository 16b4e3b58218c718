use Rattle.std.proofs.Common.{◌≡◌, take}
use Rattle.std.specs.List.{flat_map}
use Rattle.name_tables.specs.FirstPlaces.{least_from}
use Rattle.design_names.specs.ReferencePlaces.{binding_out}
use Rattle.design_names.proofs.directions.outs_of_module.Given as goal

abbrev pub invariant-loop-binding : goal.invariant-loop-binding
invariant-loop-binding l = l.place ≡ least_from l.fn.first (flat_map (binding_out l.source.ports) (take l.binding-index l.bindings))
