use Rattle.std.proofs.Common.{◌≡◌, take}
use Rattle.std.specs.List.{flat_map}
use Rattle.name_tables.specs.FirstPlaces.{least_from}
use Rattle.design_names.specs.Places.{declaration_repeats}
use Rattle.design_names.proofs.declared_twice.repeat_in_declarations.Given as goal

abbrev pub invariant-loop-declaration : goal.invariant-loop-declaration
invariant-loop-declaration l = l.place ≡ least_from l.fn.first (flat_map declaration_repeats (take l.declaration-index l.declarations))
