use Rattle.std.proofs.Common.{◌≡◌, map, take}
use Rattle.name_tables.specs.Keys.{label_of}
use Rattle.check_rules.specs.Scopes.{bundles_of}
use Rattle.design_scopes.specs.Tables.{bundle_label}
use Rattle.design_scopes.proofs.bundles.Bundles.of.Given as goal

abbrev pub invariant-loop-declaration : goal.invariant-loop-declaration
invariant-loop-declaration l =
    (l.bundles ≡ bundles_of (take l.declaration-index l.declarations)) × (map label_of l.keys ≡ map bundle_label (bundles_of (take l.declaration-index l.declarations)))
