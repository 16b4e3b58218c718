use Rattle.std.proofs.Common.{◌≡◌, map, take}
use Rattle.name_tables.specs.Keys.{occurrence_of}
use Rattle.check_rules.specs.References.{named}
use Rattle.design_names.proofs.declared_twice.repeat_of_implements.Given as goal

abbrev pub invariant-loop-name : goal.invariant-loop-name
invariant-loop-name l = map occurrence_of l.marks ≡ map (λ n. named n.now) (take l.name-index l.implements)
