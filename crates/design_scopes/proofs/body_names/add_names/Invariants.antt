use Rattle.std.proofs.Common.{◌≡◌, ◌++◌, map, take}
use Rattle.name_tables.specs.Keys.{label_of}
use Rattle.design_scopes.specs.Tables.{name_label}
use Rattle.design_scopes.proofs.body_names.add_names.Given as goal

abbrev pub invariant-loop-name : goal.invariant-loop-name
invariant-loop-name l = map label_of l.keys ≡ map label_of l.initial.keys ++ map name_label (take l.name-index l.names)
