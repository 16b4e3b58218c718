use Rattle.std.proofs.Common.{◌≡◌, map, take}
use Rattle.name_tables.specs.Keys.{label_of}
use Rattle.check_rules.specs.Scopes.{services_of}
use Rattle.design_scopes.specs.Tables.{service_label}
use Rattle.design_scopes.proofs.services.Services.of.Given as goal

abbrev pub invariant-loop-declaration : goal.invariant-loop-declaration
invariant-loop-declaration l =
    (l.services ≡ services_of (take l.declaration-index l.declarations)) × (map label_of l.keys ≡ map service_label (services_of (take l.declaration-index l.declarations)))
