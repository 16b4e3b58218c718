use Rattle.std.proofs.Common.{◌≡◌, ◌++◌, map, take}
use Rattle.std.specs.List.{flat_map}
use Rattle.name_tables.specs.Keys.{label_of}
use Rattle.design_scopes.specs.Bodies.{referred}
use Rattle.design_scopes.specs.Resolving.{id_labels, id_owners}
use Rattle.design_scopes.proofs.body_names.add_owners.Given as goal

abbrev pub invariant-loop-statement : goal.invariant-loop-statement
invariant-loop-statement l = (map label_of l.ids ≡ map label_of l.initial.ids ++ flat_map (λ s. id_labels s.now) (take l.statement-index l.statements))
    × (referred l.owners ≡ referred l.initial.owners ++ flat_map (λ s. id_owners s.now) (take l.statement-index l.statements))
