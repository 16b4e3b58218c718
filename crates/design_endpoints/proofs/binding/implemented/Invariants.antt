use Rattle.std.proofs.Common.{◌≡◌, map, take}
use Rattle.std.specs.List.{flat_map}
use Rattle.name_tables.specs.Keys.{label_of}
use Rattle.check_rules.specs.Scopes.{implement_in}
use Rattle.design_endpoints.specs.BindRules.{label_of_name}
use Rattle.design_endpoints.proofs.binding.implemented.Given as goal

abbrev pub invariant-loop-item : goal.invariant-loop-item
invariant-loop-item l = map label_of l.names ≡ map label_of_name (flat_map implement_in (take l.item-index l.top.body))
