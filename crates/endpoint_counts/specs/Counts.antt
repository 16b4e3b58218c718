-- A design has as many endpoints as its totals say.
use Rattle.std.specs.Prelude.{◌≡◌, ℕ, ◌≤◌, List, Ok, flat_map, length}
use Rattle.design_tree.specs.declared.declarations.Direction.TheVariants.{ToHardware, FromHardware}
use Rattle.design_tree.specs.declared.declarations.Bundle.{Bundle}
use Rattle.design_tree.specs.declared.declarations.Service.{Service}
use Rattle.design_tree.specs.declared.declarations.Declaration.{Declaration}
use Rattle.design_tree.specs.declared.design.DesignTree.TheVariants as F
use Rattle.design_tree.specs.declared.top.Top.{Top}
use Rattle.check_rules.specs.declared.limits.TheConstants.{LARGEST_DESIGN, MAX_ENDPOINTS}
use Rattle.check_rules.specs.Scopes.{Scope, bundles_of, services_of}
use Rattle.check_rules.specs.Totals.{Totals, top_total}
use Rattle.check_rules.specs.Checks.{Accepts, checks}
use Rattle.reached_requests.specs.Requests.{Reached, requests_of}
use Rattle.design_endpoints.specs.Endpoints.{AllEnds, ends_asked}
use Rattle.design_endpoints.specs.BindRules.{ends_bound}

-- Requests have as many endpoints of each side as totals say, and are no more than their size.
pub record AreCounted (bundles : List Bundle) (services : List Service) (requests : List Reached) (totals : Totals) : Type 0 where
  pub to_server : length (flat_map (ends_asked ToHardware bundles services) requests) ≡ totals.to_server
  pub to_client : length (flat_map (ends_asked FromHardware bundles services) requests) ≡ totals.to_client
  pub few : length requests ≤ totals.size

-- the requests that are reached from the top of each design
abbrev pub EachCounted : Type 0
EachCounted = (declarations : List Declaration) (top : Top)
    → AreCounted (bundles_of declarations) (services_of declarations) (requests_of declarations top) (top_total declarations top)

-- As many endpoints and requests as a top may have.
pub record AreFew (requests : List Reached) (ends : AllEnds) : Type 0 where
  pub to_server : length ends.to_server ≤ MAX_ENDPOINTS
  pub to_client : length ends.to_client ≤ MAX_ENDPOINTS
  pub requests_few : length requests ≤ LARGEST_DESIGN

-- the endpoints of each design that breaks no rule, of the checks and of binding
abbrev pub EachFew : Type 0
EachFew = (misfits : List Scope → List ℕ) (declarations : List Declaration) (top : Top) (ends : AllEnds)
    → Accepts (checks misfits (F.Modules declarations top)) → ends_bound declarations top ≡ Ok ends → AreFew (requests_of declarations top) ends
