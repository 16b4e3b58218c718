-- The rules of binding: where a request breaks each, and what is reported.
use Rattle.std.specs.Prelude.{ℕ, Bool, not, nat_lt, Option, Some, None, Result, Ok, Err, List, map, flat_map, find, length}
use Rattle.std.specs.List.{list_any}
use Rattle.esi_base.specs.Answers.{◌>>=◌}
use Rattle.channel_types.specs.declared.esi_type.EsiType.{EsiType}
use Rattle.channel_types.specs.Text.{text_of}
use Rattle.design_tree.specs.declared.declarations.Direction.TheVariants.{ToHardware, FromHardware}
use Rattle.design_tree.specs.declared.declarations.Member.{Member}
use Rattle.design_tree.specs.declared.declarations.Bundle.{Bundle}
use Rattle.design_tree.specs.declared.declarations.Service.{Service}
use Rattle.design_tree.specs.declared.declarations.Declaration.{Declaration}
use Rattle.design_tree.specs.declared.leaves.Name.{Name}
use Rattle.design_tree.specs.declared.top.Top.{Top}
use Rattle.name_tables.specs.Labels.{Label}
use Rattle.name_tables.specs.Lists.{stands}
use Rattle.check_rules.specs.References.{named}
use Rattle.check_rules.specs.Scopes.{implement_in, bundles_of, services_of}
use Rattle.reached_requests.specs.Requests.{Reached, requests_of}
use Rattle.design_endpoints.specs.declared.limits.TheConstants.{LONGEST_NAME, LONGEST_TYPE}
use Rattle.design_endpoints.specs.declared.bind_rule.BindRule.{BindRule}
use Rattle.design_endpoints.specs.declared.bind_rule.BindRule.TheVariants.{NotImplemented, NameTooLong, TypeTooLong}
use Rattle.design_endpoints.specs.declared.bind_rule.BindBreak.{BindBreak}
use Rattle.design_endpoints.specs.Endpoints.{AllEnds, members_asked, endpoint_of_member, ends_asked}

abbrev pub rule_number : BindRule → ℕ
rule_number NotImplemented = 401
rule_number NameTooLong = 402
rule_number TypeTooLong = 403

abbrev pub label_of_name : Name → Label
label_of_name n = (named n).label

-- the names of the services that the top implements
abbrev pub implement_labels : Top → List Label
implement_labels top = map label_of_name (flat_map implement_in top.body)

abbrev pub is_long_name : List ℕ → Member → Bool
is_long_name id m = nat_lt LONGEST_NAME (length (endpoint_of_member id m).name)

abbrev pub is_long_text : EsiType → Bool
is_long_text ty = nat_lt LONGEST_TYPE (length (text_of ty))

abbrev pub has_long_text : Member → Bool
has_long_text m = is_long_text m.ty

-- Whether a request breaks a rule: its service is not among those that are implemented, or one of its endpoints has too long a
-- name or type.
abbrev pub breaks : List Bundle → List Service → List Label → BindRule → Reached → Bool
breaks bundles services implemented NotImplemented r = not (stands (label_of_name r.service) implemented)
breaks bundles services implemented NameTooLong r = list_any (is_long_name r.id) (members_asked bundles services r)
breaks bundles services implemented TypeTooLong r = list_any has_long_text (members_asked bundles services r)

-- A rule is kept where no request breaks it; else it is reported at the first that does.
abbrev pub report : BindRule → Option Reached → Result (Unit {0}) BindBreak
report rule None = Ok tt
report rule (Some r) = Err (record { rule = rule; at = r.at })

abbrev pub kept : List Bundle → List Service → List Label → List Reached → BindRule → Result (Unit {0}) BindBreak
kept bundles services implemented requests rule = report rule (find (breaks bundles services implemented rule) requests)

-- The endpoints of requests that keep the three rules, or the first of these that one breaks.
unfoldable pub bound : List Bundle → List Service → List Label → List Reached → Result AllEnds BindBreak
bound bundles services implemented requests =
    kept bundles services implemented requests NotImplemented >>= λ _. kept bundles services implemented requests NameTooLong >>= λ _. kept bundles services implemented requests TypeTooLong >>= λ _.
    Ok (record {
      to_server = flat_map (ends_asked ToHardware bundles services) requests;
      to_client = flat_map (ends_asked FromHardware bundles services) requests;
    })

-- The endpoints of a design whose requests keep the three rules, or the first of these that one breaks.
abbrev pub ends_bound : List Declaration → Top → Result AllEnds BindBreak
ends_bound declarations top = bound (bundles_of declarations) (services_of declarations) (implement_labels top) (requests_of declarations top)
