use Rattle.std.proofs.Common.{◌≡◌, map, take}
use Rattle.name_tables.specs.Keys.{occurrence_of}
use Rattle.check_rules.specs.DeclaredTwice.{declaration_named}
use Rattle.design_names.proofs.declared_twice.repeat_of_declarations.Given as goal

abbrev pub invariant-loop-declaration : goal.invariant-loop-declaration
invariant-loop-declaration l = map occurrence_of l.marks ≡ map declaration_named (take l.declaration-index l.declarations)
