use Rattle.std.proofs.Common.{◌≡◌, ◌++◌, map, take}
use Rattle.std.specs.List.{flat_map}
use Rattle.name_tables.specs.Keys.{label_of}
use Rattle.check_rules.specs.References.{channels_of}
use Rattle.design_scopes.specs.Tables.{port_label, name_label}
use Rattle.design_scopes.proofs.body_names.own_keys.Given as goal

abbrev pub invariant-loop-statement : goal.invariant-loop-statement
invariant-loop-statement l = map label_of l.keys ≡ map port_label l.ports ++ flat_map (λ s. map name_label (channels_of s.now)) (take l.statement-index l.statements)
