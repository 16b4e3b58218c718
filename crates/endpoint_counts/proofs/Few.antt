-- A design that breaks no rule has few endpoints.
use Rattle.std.proofs.Common.{◌≡◌, ℕ, ◌≤◌, List, refl, sym, ap, ◌∙◌, subst, arith, inl, inr}
use Rattle.std.specs.Prelude.{Result, Ok, Err, length, flat_map}
use Rattle.std.proofs.lemmas.Bool.{cases_lt}
use Rattle.esi_base.specs.Answers.{◌>>=◌}
use Rattle.design_tree.specs.declared.declarations.Direction.TheVariants.{ToHardware, FromHardware}
use Rattle.design_tree.specs.declared.declarations.Bundle.{Bundle}
use Rattle.design_tree.specs.declared.declarations.Service.{Service}
use Rattle.design_tree.specs.declared.top.Top.{Top}
use Rattle.name_tables.specs.Labels.{Label}
use Rattle.name_tables.specs.FirstPlaces.{Nowhere}
use Rattle.check_rules.specs.Scopes.{bundles_of, services_of}
use Rattle.check_rules.specs.declared.limits.TheConstants.{LARGEST_DESIGN, MAX_ENDPOINTS}
use Rattle.check_rules.specs.Totals.{Exceeds, top_total}
use Rattle.reached_requests.specs.Requests.{Reached, requests_of}
use Rattle.design_endpoints.specs.declared.bind_rule.BindBreak.{BindBreak}
use Rattle.design_endpoints.specs.declared.bind_rule.BindRule.TheVariants.{NotImplemented, NameTooLong, TypeTooLong}
use Rattle.design_endpoints.specs.Endpoints.{AllEnds, ends_asked}
use Rattle.design_endpoints.specs.BindRules.{implement_labels, kept, bound}
use Rattle.endpoint_counts.specs.Counts.{EachFew}
use Rattle.endpoint_counts.proofs.Bodies.{each_counted}

not_above : (limit count : ℕ) (top : Top) → Nowhere (Exceeds limit count top) → count ≤ limit
not_above limit count top nowhere = elim (cases_lt limit count) [
  | inl above ↦ absurd (nowhere top.name.at (record { above = above; stands = refl }))
  | inr low ↦ low
]

-- what is bound once all three rules are kept
all_kept : (a b c : Result (Unit {0}) BindBreak) (all ends : AllEnds) → (a >>= λ _. b >>= λ _. c >>= λ _. Ok all) ≡ Ok ends → all ≡ ends
all_kept (Ok _) (Ok _) (Ok _) all ends e = cc
all_kept (Ok _) (Ok _) (Err f) all ends e = absurd (cc)
all_kept (Ok _) (Err f) c all ends e = absurd (cc)
all_kept (Err f) b c all ends e = absurd (cc)

abbrev all_asked : List Bundle → List Service → List Reached → AllEnds
all_asked bundles services requests = record {
  to_server = flat_map (ends_asked ToHardware bundles services) requests;
  to_client = flat_map (ends_asked FromHardware bundles services) requests;
}

bound_are : (bundles : List Bundle) (services : List Service) (implemented : List Label) (requests : List Reached) (ends : AllEnds) → bound bundles services implemented requests ≡ Ok ends
    → all_asked bundles services requests ≡ ends
unfolding bound
bound_are bundles services implemented requests ends e =
    all_kept (kept bundles services implemented requests NotImplemented) (kept bundles services implemented requests NameTooLong) (kept bundles services implemented requests TypeTooLong)
    (all_asked bundles services requests) ends e

pub each_few : EachFew
each_few misfits declarations top ends accepts e =
    let requests = requests_of declarations top in
    let counted = each_counted declarations top in
    let are = bound_are (bundles_of declarations) (services_of declarations) (implement_labels top) requests ends e in
    let sizes = accepts.1.1.1.1.1.1.1.1.1 in
    record {
      to_server = subst (λ n. n ≤ MAX_ENDPOINTS) (sym counted.to_server ∙ ap (λ (a : AllEnds). length a.to_server) are) (not_above MAX_ENDPOINTS (top_total declarations top).to_server top sizes.1.0);
      to_client = subst (λ n. n ≤ MAX_ENDPOINTS) (sym counted.to_client ∙ ap (λ (a : AllEnds). length a.to_client) are) (not_above MAX_ENDPOINTS (top_total declarations top).to_client top sizes.1.1.0);
      requests_few = omega (arith, counted.few, not_above LARGEST_DESIGN (top_total declarations top).size top sizes.0);
    }
