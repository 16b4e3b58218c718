use Rattle.std.proofs.Common.{◌≡◌, map, take}
use Rattle.name_tables.specs.Keys.{label_of}
use Rattle.check_rules.specs.Scopes.{modules_of}
use Rattle.reached_requests.specs.Modules.{referred, module_label}
use Rattle.reached_requests.proofs.modules.Modules.of.Given as goal

abbrev pub invariant-loop-declaration : goal.invariant-loop-declaration
invariant-loop-declaration l = record {
  sources : referred l.sources ≡ modules_of (take l.declaration-index l.declarations);
  keys : map label_of l.keys ≡ map module_label (referred l.sources);
}
