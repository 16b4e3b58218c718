use Rattle.std.proofs.Common.{◌≡◌, map, take}
use Rattle.name_tables.specs.Keys.{label_of}
use Rattle.check_rules.specs.Scopes.{modules_of}
use Rattle.design_scopes.specs.Tables.{module_label}
use Rattle.tree_plans.proofs.names.module_table.Given as goal

abbrev pub invariant-loop-declaration : goal.invariant-loop-declaration
invariant-loop-declaration l = map label_of l.keys ≡ map module_label (modules_of (take l.declaration-index l.declarations))
