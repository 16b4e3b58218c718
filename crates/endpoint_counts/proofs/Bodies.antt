-- What bodies reach is as many endpoints and requests as their totals say.
use Rattle.std.proofs.Common.{◌≡◌, ℕ, ◌+◌, Bool, true, false, List, [], ◌∷◌, ◌++◌, length, map, refl, sym, ap, ◌∙◌, subst, arith, append-nil}
use Rattle.std.specs.Prelude.{cond, filter, flat_map, find, Some, if◌then◌else◌}
use Rattle.std.proofs.lemmas.List.{length-append, length-map}
use Rattle.std.proofs.lemmas.Grind.{flat_map-append}
use Rattle.design_tree.specs.declared.leaves.Name.{Name}
use Rattle.design_tree.specs.declared.statements.Operation.{Operation}
use Rattle.design_tree.specs.declared.statements.Operation.TheVariants as O
use Rattle.design_tree.specs.declared.statements.Statement.{Statement}
use Rattle.design_tree.specs.declared.statements.Statement.TheVariants as S
use Rattle.design_tree.specs.declared.declarations.Direction.{Direction}
use Rattle.design_tree.specs.declared.declarations.Direction.TheVariants.{ToHardware, FromHardware}
use Rattle.design_tree.specs.declared.declarations.Member.{Member}
use Rattle.design_tree.specs.declared.declarations.Bundle.{Bundle}
use Rattle.design_tree.specs.declared.declarations.Service.{Service}
use Rattle.design_tree.specs.declared.declarations.Module.{Module}
use Rattle.check_rules.specs.Scopes.{Scope, is_name, bundle_of, bundles_of, services_of, modules_of, statement_in, module_scope, top_scope}
use Rattle.check_rules.specs.Uses.{members_of}
use Rattle.check_rules.specs.Totals.{Totals, Measured, nothing, both, sized, in_all, member_total, operation_total, measured_of, statement_total, body_total, measured_from, measured}
use Rattle.reached_requests.specs.Requests.{Reached, Known, inside, id_text, requests_found, is_called, requests_in, requests_by, body_requests, known_from, known_of}
use Rattle.design_endpoints.specs.Endpoints.{Named, goes, endpoint_of_member, members_asked, ends_asked}
use Rattle.endpoint_counts.specs.Counts.{AreCounted, EachCounted}
use Rattle.endpoint_counts.proofs.Members.{side, members_counted}

module _ (bundles : List Bundle) (services : List Service) where
  abbrev asked : Direction → Reached → List Named
  asked way r = ends_asked way bundles services r

  abbrev Counted : List Reached → Totals → Type 0
  Counted requests totals = AreCounted bundles services requests totals

  none_counted : (totals : Totals) → 0 ≡ totals.to_server → 0 ≡ totals.to_client → Counted [] totals
  none_counted totals servers clients = record { to_server = servers; to_client = clients; few = omega arith }

  joined_count : (way : Direction) (rs qs : List Reached) → length (flat_map (asked way) (rs ++ qs)) ≡ length (flat_map (asked way) rs) + length (flat_map (asked way) qs)
  joined_count way rs qs = ap length (flat_map-append (asked way) rs qs) ∙ length-append (flat_map (asked way) rs) (flat_map (asked way) qs)

  both_counted : (rs qs : List Reached) (a b : Totals) → Counted rs a → Counted qs b → Counted (rs ++ qs) (both a b)
  both_counted rs qs a b ra qb = record {
    to_server = joined_count ToHardware rs qs ∙ ap (λ n. n + length (flat_map (asked ToHardware) qs)) ra.to_server ∙ ap (λ n. a.to_server + n) qb.to_server;
    to_client = joined_count FromHardware rs qs ∙ ap (λ n. n + length (flat_map (asked FromHardware) qs)) ra.to_client ∙ ap (λ n. a.to_client + n) qb.to_client;
    few = omega (arith, length-append rs qs, ra.few, qb.few);
  }

  -- ---- what stands in a module, seen from outside

  one_inside : (way : Direction) (prefix : List ℕ) (r : Reached) → length (asked way (inside prefix r)) ≡ length (asked way r)
  one_inside way prefix r =
      length-map (chosen way) (endpoint_of_member (prefix ++ r.id)) ∙ sym (length-map (chosen way) (endpoint_of_member r.id))
    where
      chosen : Direction → List Member
      chosen way = filter (λ m. goes way m.direction) (members_asked bundles services r)

  inside_count : (way : Direction) (prefix : List ℕ) (rs : List Reached) → length (flat_map (asked way) (map (inside prefix) rs)) ≡ length (flat_map (asked way) rs)
  inside_count way prefix [] = refl
  inside_count way prefix (r ∷ rs) =
      length-append (asked way (inside prefix r)) (flat_map (asked way) (map (inside prefix) rs))
      ∙ ap (λ n. n + length (flat_map (asked way) (map (inside prefix) rs))) (one_inside way prefix r)
      ∙ ap (λ n. length (asked way r) + n) (inside_count way prefix rs)
      ∙ sym (length-append (asked way r) (flat_map (asked way) rs))

  inside_counted : (prefix : List ℕ) (rs : List Reached) (totals : Totals) → Counted rs totals → Counted (map (inside prefix) rs) totals
  inside_counted prefix rs totals h = record {
    to_server = inside_count ToHardware prefix rs ∙ h.to_server;
    to_client = inside_count FromHardware prefix rs ∙ h.to_client;
    few = omega (arith, length-map rs (inside prefix), h.few);
  }

  -- ---- modules

  -- each module reaches as many endpoints as its totals say
  abbrev AreInStep : List Known → List Measured → Type 0
  AreInStep [] [] = Unit {0}
  AreInStep [] (m ∷ ms) = ⊥
  AreInStep (k ∷ ks) [] = ⊥
  AreInStep (k ∷ ks) (m ∷ ms) = (k.source.name ≡ m.name) × Counted k.requests m.totals × AreInStep ks ms

  found_by : (b : Bool) (name : Name) (k : Known) (ks : List Known) (m : Measured) (ms : List Measured) → Counted k.requests m.totals → Counted (requests_in name ks) (measured_of name ms)
      → Counted (requests_found (cond b (Some k) (find (is_called name) ks))) (if b then m.totals else measured_of name ms)
  found_by true name k ks m ms here later = here
  found_by false name k ks m ms here later = later

  found_counted : (name : Name) (ks : List Known) (ms : List Measured) → AreInStep ks ms → Counted (requests_in name ks) (measured_of name ms)
  found_counted name [] [] h = none_counted nothing refl refl
  found_counted name [] (m ∷ ms) h = absurd h
  found_counted name (k ∷ ks) [] h = absurd h
  found_counted name (k ∷ ks) (m ∷ ms) h =
      subst (λ (n : Name). Counted (requests_found (cond (is_name name n) (Some k) (find (is_called name) ks))) (if is_name name m.name then m.totals else measured_of name ms)) (sym h.0)
      (found_by (is_name name m.name) name k ks m ms h.1 (found_counted name ks ms h.2))

  in_step_append : (ks more : List Known) (ms others : List Measured) → AreInStep ks ms → AreInStep more others → AreInStep (ks ++ more) (ms ++ others)
  in_step_append [] more [] others h g = g
  in_step_append [] more (m ∷ ms) others h g = absurd h
  in_step_append (k ∷ ks) more [] others h g = absurd h
  in_step_append (k ∷ ks) more (m ∷ ms) others h g = (h.0, h.1, in_step_append ks more ms others h.2 g)

operation_sides : (operation : Operation) → (0 ≡ (operation_total operation).to_server) × (0 ≡ (operation_total operation).to_client)
operation_sides (O.Buffer stages source) = (refl, refl)
operation_sides (O.Stage source) = (refl, refl)
operation_sides (O.Fork source) = (refl, refl)
operation_sides (O.AsFifo source) = (refl, refl)
operation_sides (O.AsVr source) = (refl, refl)
operation_sides (O.Fifo depth source) = (refl, refl)
operation_sides (O.Join left right) = (refl, refl)
operation_sides (O.Map source variable body) = (refl, refl)
operation_sides (O.Scan state ty reset source variable body) = (refl, refl)

-- ---- statements and bodies

none_more : (n : ℕ) → n ≡ 0 + n
none_more n = omega arith

module _ (scope : Scope) (before : List Known) (known : List Measured) (steps : AreInStep scope.bundles scope.services before known) where
  request_counted : (r : Reached) → Counted scope.bundles scope.services (r ∷ []) (both (sized 1) (in_all (map member_total (members_of (bundle_of scope r.service r.port)))))
  request_counted r = record {
    to_server = one_request ToHardware ∙ none_more (in_all (map member_total (members_of (bundle_of scope r.service r.port)))).to_server;
    to_client = one_request FromHardware ∙ none_more (in_all (map member_total (members_of (bundle_of scope r.service r.port)))).to_client;
    few = omega arith;
  }
    where
      one_request : (way : Direction) → length (flat_map (asked scope.bundles scope.services way) (r ∷ [])) ≡ side way (in_all (map member_total (members_of (bundle_of scope r.service r.port))))
      one_request way = ap length (append-nil (asked scope.bundles scope.services way r)) ∙ members_counted way r.id (members_of (bundle_of scope r.service r.port))

  statement_counted : (s : Statement) → Counted scope.bundles scope.services (requests_by before s) (statement_total scope known s)
  statement_counted (S.Request at service port id) = request_counted (record { id = id_text id; service = service; port = port; at = at })
  statement_counted (S.Instance at id body bindings) =
      let h = inside_counted scope.bundles scope.services (id_text id ++ 46 ∷ []) (requests_in body before) (measured_of body known) (found_counted scope.bundles scope.services body before known steps) in
      record { to_server = h.to_server ∙ none_more (measured_of body known).to_server; to_client = h.to_client ∙ none_more (measured_of body known).to_client; few = omega (arith, h.few) }
  statement_counted (S.Channels at names operation) = let h = operation_sides operation in none_counted scope.bundles scope.services (operation_total operation) h.0 h.1
  statement_counted (S.Drive at sink source) = none_counted scope.bundles scope.services nothing refl refl

  body_counted : (statements : List Statement) → Counted scope.bundles scope.services (body_requests before statements) (in_all (map (statement_total scope known) statements))
  body_counted [] = none_counted scope.bundles scope.services nothing refl refl
  body_counted (s ∷ more) =
      both_counted scope.bundles scope.services (requests_by before s) (body_requests before more) (statement_total scope known s) (in_all (map (statement_total scope known) more)) (statement_counted s) (body_counted more)

-- ---- the modules of a design, one after the other

modules_counted : (bundles : List Bundle) (services : List Service) (before : List Module) (ks : List Known) (ms : List Measured) (more : List Module) → AreInStep bundles services ks ms
    → AreInStep bundles services (known_from ks more) (measured_from bundles services before ms more)
unfolding known_from
modules_counted bundles services before ks ms [] steps = steps
modules_counted bundles services before ks ms (m ∷ more) steps =
    let here : Scope = module_scope bundles services before m in
    let new : Known = record { source = m; requests = body_requests ks m.body } in
    let counted : Measured = record { name = m.name; totals = body_total ms here } in
    modules_counted bundles services (before ++ m ∷ []) (ks ++ new ∷ []) (ms ++ counted ∷ []) more
    (in_step_append bundles services ks (new ∷ []) ms (counted ∷ []) steps (refl, body_counted here ks ms steps m.body, tt))

pub each_counted : EachCounted
each_counted declarations top =
    body_counted (top_scope declarations top) (known_of (modules_of declarations)) (measured declarations)
    (modules_counted (bundles_of declarations) (services_of declarations) [] [] [] (modules_of declarations) tt) (flat_map statement_in top.body)
