-- Totals that are as great as is needed to tell whether they exceed their limits, as the walk over the bodies makes them.
use Rattle.std.specs.Prelude.{◌+◌, ◌-◌, min, Option, unwrap_or, List, [], ◌∷◌, ◌++◌, map, length, slice_get}
use Rattle.design_tree.specs.declared.leaves.Name.{Name}
use Rattle.design_tree.specs.declared.statements.Statement.{Statement}
use Rattle.design_tree.specs.declared.statements.Statement.TheVariants as S
use Rattle.design_tree.specs.declared.declarations.Member.{Member}
use Rattle.design_tree.specs.declared.declarations.Bundle.{Bundle}
use Rattle.name_tables.specs.Labels.{Label}
use Rattle.name_tables.specs.Lists.{index_in}
use Rattle.check_rules.specs.Scopes.{Scope, and_then, bundle_of}
use Rattle.check_rules.specs.References.{named}
use Rattle.check_rules.specs.Uses.{members_of}
use Rattle.check_rules.specs.Totals.{Totals, sized, member_total, operation_total}
use Rattle.design_scopes.specs.declared.body.Body.{Body}
use Rattle.design_scopes.specs.declared.declared.Declared.{Declared}
use Rattle.design_scopes.specs.Resolving.{scope_in}
use Rattle.design_totals.specs.declared.capped.CappedTotals.{CappedTotals}
use Rattle.design_totals.specs.declared.capped.TheConstants.{TOO_LARGE, TOO_MANY}

-- each count, and one above its limit for every count that exceeds it
abbrev pub capped_totals : Totals → CappedTotals
capped_totals t = record { size = min TOO_LARGE t.size; to_server = min TOO_MANY t.to_server; to_client = min TOO_MANY t.to_client }

abbrev pub no_totals : CappedTotals
no_totals = record { size = 0; to_server = 0; to_client = 0 }

abbrev pub joined : CappedTotals → CappedTotals → CappedTotals
joined a b = record { size = min TOO_LARGE (a.size + b.size); to_server = min TOO_MANY (a.to_server + b.to_server); to_client = min TOO_MANY (a.to_client + b.to_client) }

-- some totals, and others joined to them one after the other
abbrev pub joined_from : CappedTotals → List CappedTotals → CappedTotals
joined_from t [] = t
joined_from t (x ∷ xs) = joined_from (joined t x) xs

abbrev pub members_capped : List Member → CappedTotals
members_capped members = joined_from no_totals (map (λ m. capped_totals (member_total m)) members)

abbrev pub bundle_capped : Option Bundle → CappedTotals
bundle_capped bundle = members_capped (members_of bundle)

-- what the module of a name has, where all modules have these names, and the first of them have these totals
abbrev pub found_totals : List Label → List CappedTotals → Name → CappedTotals
found_totals labels known name = unwrap_or (and_then (index_in (named name).label labels) (slice_get known)) no_totals

abbrev pub statement_capped : Scope → List Label → List CappedTotals → Statement → CappedTotals
statement_capped scope labels known (S.Request at service port id) = joined (capped_totals (sized 1)) (bundle_capped (bundle_of scope service port))
statement_capped scope labels known (S.Instance at id body bindings) = joined (capped_totals (sized 1)) (found_totals labels known body)
statement_capped scope labels known (S.Channels at names operation) = capped_totals (operation_total operation)
statement_capped scope labels known (S.Drive at sink source) = no_totals

abbrev pub body_capped : Declared → List Label → List CappedTotals → Body → CappedTotals
body_capped d labels known b = joined_from no_totals (map (λ s. statement_capped (scope_in d b) labels known s.now) b.statements)

-- what each body has, over those before it
abbrev pub capped_bodies : Declared → List Label → List CappedTotals → List Body → List CappedTotals
capped_bodies d labels known [] = known
capped_bodies d labels known (b ∷ bs) = capped_bodies d labels (known ++ body_capped d labels known b ∷ []) bs

-- the last of some totals
abbrev pub last_of : List CappedTotals → CappedTotals
last_of known = unwrap_or (slice_get known (length known - 1)) no_totals
