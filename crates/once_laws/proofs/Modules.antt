-- The plan of the module of an instance stands before its body's, where the body has no more endpoints than a top may have.
use Rattle.std.proofs.Common.{◌≡◌, ℕ, zero, suc, ◌+◌, ◌<◌, ◌≤◌, min, true, false, List, [], ◌∷◌, ◌++◌, Some, map, length, take, refl, ap, sym, ◌∙◌, subst, inl, inr, arith}
use Rattle.std.specs.Prelude.{Contains, cond, filter, flat_map, replicate, slice_get, unwrap_or, nat_lt, if◌then◌else◌}
use Rattle.std.proofs.lemmas.Bool.{cases_Bool, or_parts, and_parts, and_from, ltb-true, lt-ltb, le-ltb}
use Rattle.std.proofs.lemmas.List.{append_assoc, append-nil, map-append, length-append, length-map, length-replicate}
use Rattle.std.proofs.lemmas.Option.{same_Some}
use Rattle.design_tree.specs.declared.leaves.Name.{Name}
use Rattle.design_tree.specs.declared.leaves.ApplicationId.{ApplicationId}
use Rattle.design_tree.specs.declared.statements.Binding.{Binding}
use Rattle.design_tree.specs.declared.statements.Statement.{Statement}
use Rattle.design_tree.specs.declared.statements.Statement.TheVariants as S
use Rattle.design_tree.specs.declared.declarations.Module.{Module}
use Rattle.name_tables.specs.Labels.{Label, same_label}
use Rattle.name_tables.specs.Lists.{stands, index_from, index_in}
use Rattle.name_tables.specs.LabelLaws.{same_label-refl}
use Rattle.name_tables.specs.PlaceLaws.{contains_none, contains_cases}
use Rattle.check_rules.specs.Scopes.{Scope, and_then, is_name, find_module}
use Rattle.check_rules.specs.References.{named}
use Rattle.check_rules.specs.Dependencies.{elements_of}
use Rattle.check_rules.specs.Directions.{ports_of}
use Rattle.check_rules.specs.Uses.{is_in, is_out}
use Rattle.flat_design.specs.declared.plan.Plan.{Plan}
use Rattle.flat_design.specs.Laying.{count_up}
use Rattle.flat_design.specs.FlatLaws.{outs_count}
use Rattle.body_plans.specs.declared.endpoints.Endpoints.{Endpoints}
use Rattle.body_plans.specs.declared.ordered.OrderedElement.{OrderedElement}
use Rattle.body_plans.specs.declared.body_plan.BodyPlan.{BodyPlan}
use Rattle.body_plans.specs.Channels.{Channel, Before, no_endpoints, endpoints_of, endpoint_of, under_endpoint, server_label, client_label, port_channel, server_channels, server_endpoints, given, channels, Places, places_of, place_in}
use Rattle.body_plans.specs.Views.{before_of}
use Rattle.body_plans.specs.Plans.{places_within, endpoint_places, drives_of, driver_place, client_places, client_endpoints, port_places, plan_of}
use Rattle.plan_laws.specs.Ahead.{IsBlock, instance_ports, IsPlanned, out_label}
use Rattle.design_plans.specs.declared.design_plans.DesignPlans.{DesignPlans}
use Rattle.design_plans.specs.declared.kept.TheConstants.{TOO_MANY}
use Rattle.design_plans.specs.Planning.{is_within, capped, kept_plan, no_plans, elements_in, with_body, planned_along}
use Rattle.design_plans.specs.DesignLaws.{planned, before_body, own_plan}
use Rattle.once_laws.specs.Accepted.{module_label, given_to}

-- ---- the plan and the endpoints of each body
get_mid : {A : Type 0} (xs : List A) (x : A) (ys : List A) → slice_get (xs ++ x ∷ ys) (length xs) ≡ Some x
get_mid [] x ys = refl
get_mid (y ∷ xs) x ys = get_mid xs x ys

take_front : {A : Type 0} (xs ys : List A) → take (length xs) (xs ++ ys) ≡ xs
take_front [] ys = refl
take_front (x ∷ xs) ys = ap (λ l. x ∷ l) (take_front xs ys)

-- Plan number n and the endpoints of body number n are those of the body.
pub record IsBodyPlan (names : List Label) (rows : List (List OrderedElement)) (p : DesignPlans) (n : ℕ) (scope : Scope) : Type 0 where
  pub plan : slice_get p.plans n ≡ Some (kept_plan (own_plan names rows p n scope))
  pub endpoints : slice_get p.endpoints n ≡ Some (capped (own_plan names rows p n scope).endpoints)

record IsAlong (names : List Label) (rows : List (List OrderedElement)) (before after : DesignPlans) (scopes : List Scope) : Type 0 where
  pub more : List Plan
  pub plans : after.plans ≡ before.plans ++ more
  pub later : List Endpoints
  pub endpoints : after.endpoints ≡ before.endpoints ++ later
  pub at : (i : ℕ) (scope : Scope) → slice_get scopes i ≡ Some scope → IsBodyPlan names rows after (length before.plans + i) scope

along : (names : List Label) (rows : List (List OrderedElement)) (before : DesignPlans) (scopes : List Scope) → length before.endpoints ≡ length before.plans → IsAlong names rows before (planned_along names rows before scopes) scopes
along names rows before [] even = record {
  more = [];
  plans = sym (append-nil before.plans);
  later = [];
  endpoints = sym (append-nil before.endpoints);
  at = λ i scope e. absurd (cc);
}
along names rows before (scope ∷ rest) even =
    let p : BodyPlan = plan_of scope (before_of names before.endpoints) (elements_of scope.statements) (elements_in rows (length before.plans)) in
    let next : DesignPlans = with_body names rows before scope in
    let after : DesignPlans = planned_along names rows next rest in
    let longer : length next.plans ≡ length before.plans + 1 = length-append before.plans (kept_plan p ∷ []) in
    let longer' : length next.endpoints ≡ length before.endpoints + 1 = length-append before.endpoints (capped p.endpoints ∷ []) in
    let inner = along names rows next rest (omega arith) in
    let plans : after.plans ≡ before.plans ++ kept_plan p ∷ inner.more = inner.plans ∙ append_assoc before.plans (kept_plan p ∷ []) inner.more in
    let endpoints : after.endpoints ≡ before.endpoints ++ capped p.endpoints ∷ inner.later = inner.endpoints ∙ append_assoc before.endpoints (capped p.endpoints ∷ []) inner.later in
    record {
      more = kept_plan p ∷ inner.more;
      plans = plans;
      later = capped p.endpoints ∷ inner.later;
      endpoints = endpoints;
      at = each p after inner.more inner.later refl plans endpoints inner.at longer;
    }
  where
    each : (p : BodyPlan) (after : DesignPlans) (more : List Plan) (later : List Endpoints) → p ≡ plan_of scope (before_of names before.endpoints) (elements_of scope.statements) (elements_in rows (length before.plans)) → after.plans ≡ before.plans ++ kept_plan p ∷ more → after.endpoints ≡ before.endpoints ++ capped p.endpoints ∷ later
        → ((i : ℕ) (s : Scope) → slice_get rest i ≡ Some s → IsBodyPlan names rows after (length (with_body names rows before scope).plans + i) s)
        → length (with_body names rows before scope).plans ≡ length before.plans + 1
        → (i : ℕ) (s : Scope) → slice_get (scope ∷ rest) i ≡ Some s → IsBodyPlan names rows after (length before.plans + i) s
    each p after more later is plans endpoints inner longer zero s e =
        let same : scope ≡ s = same_Some scope s e in
        let z : length before.plans ≡ length before.plans + zero = omega arith in
        let found : slice_get after.plans (length before.plans) ≡ Some (kept_plan p) = ap (λ ps. slice_get ps (length before.plans)) plans ∙ get_mid before.plans (kept_plan p) more in
        let ends : slice_get after.endpoints (length before.plans) ≡ Some (capped p.endpoints) = ap (slice_get after.endpoints) (sym even) ∙ ap (λ es. slice_get es (length before.endpoints)) endpoints ∙ get_mid before.endpoints (capped p.endpoints) later in
        let taken : take (length before.plans) after.endpoints ≡ before.endpoints
        = ap (λ n. take n after.endpoints) (sym even) ∙ ap (take (length before.endpoints)) endpoints ∙ take_front before.endpoints (capped p.endpoints ∷ later) in
        let own : p ≡ own_plan names rows after (length before.plans) scope
        = is ∙ ap (λ es. plan_of scope (before_of names es) (elements_of scope.statements) (elements_in rows (length before.plans))) (sym taken) in
        let here : IsBodyPlan names rows after (length before.plans) scope = record { plan = found ∙ ap (λ q. Some (kept_plan q)) own; endpoints = ends ∙ ap (λ (q : BodyPlan). Some (capped q.endpoints)) own } in
        subst (λ s. IsBodyPlan names rows after (length before.plans + zero) s) same (subst (λ n. IsBodyPlan names rows after n scope) z here)
    each p after more later is plans endpoints inner longer (suc i) s e =
        let k : length (with_body names rows before scope).plans + i ≡ length before.plans + suc i = omega arith in
        subst (λ n. IsBodyPlan names rows after n s) k (inner i s e)

pub body_plan : (names : List Label) (rows : List (List OrderedElement)) (bodies : List Scope) (k : ℕ) (scope : Scope) → slice_get bodies k ≡ Some scope → IsBodyPlan names rows (planned names rows bodies) k scope
body_plan names rows bodies k scope e =
    let z : 0 + k ≡ k = omega arith in
    subst (λ n. IsBodyPlan names rows (planned names rows bodies) n scope) z ((along names rows no_plans bodies refl).at k scope e)

-- ---- the module of a name
-- the place of a module among all, and of its name among their names
pub record IsModuleAt (name : Name) (modules : List Module) (k j : ℕ) (m : Module) : Type 0 where
  pub number : ℕ
  pub earlier : number < k
  pub there : slice_get modules number ≡ Some m
  pub found : index_from (named name).label j (map module_label modules) ≡ Some (j + number)

pub module_at : (name : Name) (modules : List Module) (k j : ℕ) (m : Module) → find_module name (take k modules) ≡ Some m → IsModuleAt name modules k j m
module_at name [] zero j m e = absurd (cc)
module_at name [] (suc k) j m e = absurd (cc)
module_at name (x ∷ xs) zero j m e = absurd (cc)
module_at name (x ∷ xs) (suc k) j m e =
    elim (cases_Bool (is_name name x.name)) [
      | inl t ↦ record {
        number = 0;
        earlier = omega arith;
        there = sym (ap (λ b. cond b (Some x) (find_module name (take k xs))) t) ∙ e;
        found = ap (λ b. if b then Some j else index_from (named name).label (j + 1) (map module_label xs)) t ∙ (let z : j ≡ j + 0 = omega arith in ap Some z);
      }
      | inr f ↦
          let more = module_at name xs k (j + 1) m (sym (ap (λ b. cond b (Some x) (find_module name (take k xs))) f) ∙ e) in
          record {
            number = suc more.number;
            earlier = (let low = more.earlier in omega arith);
            there = more.there;
            found = ap (λ b. if b then Some j else index_from (named name).label (j + 1) (map module_label xs)) f ∙ more.found ∙ (let z : j + 1 + more.number ≡ j + suc more.number = omega arith in ap Some z);
          }
    ]

get_taken : {A : Type 0} (xs : List A) (k i : ℕ) → i < k → slice_get (take k xs) i ≡ slice_get xs i
get_taken xs zero i low = absurd (omega arith)
get_taken [] (suc k) i low = refl
get_taken (x ∷ xs) (suc k) zero low = refl
get_taken (x ∷ xs) (suc k) (suc i) low = get_taken xs k i (omega arith)

-- ---- endpoints that stand together
index_later : (label : Label) (j : ℕ) (xs ys : List Label) → stands label xs ≡ false → index_from label j (xs ++ ys) ≡ index_from label (j + length xs) ys
index_later label j [] ys e = let z : j ≡ j + 0 = omega arith in ap (λ n. index_from label n ys) z
index_later label j (x ∷ xs) ys e =
    let parts = or_parts (same_label label x) (stands label xs) e in
    ap (λ b. if b then Some j else index_from label (j + 1) (xs ++ ys)) parts.0 ∙ index_later label (j + 1) xs ys parts.1 ∙ (let z : j + 1 + length xs ≡ j + suc (length xs) = omega arith in ap (λ n. index_from label n ys) z)

length-count_up : (n k : ℕ) → length (count_up n k) ≡ k
length-count_up n zero = refl
length-count_up n (suc k) = ap suc (length-count_up (n + 1) k)

pub block_length : (cs : List Channel) (label : Label) (n : ℕ) → IsBlock cs label n → n ≤ length (endpoint_places (places_of cs) label n)
block_length cs label zero b = omega arith
block_length cs label (suc n) b =
    let rest : List Channel = replicate n (under_endpoint label) ++ b.after in
    let whole : cs ≡ b.before ++ under_endpoint label ∷ rest = b.split in
    let labels : map endpoint_of cs ≡ map endpoint_of b.before ++ label ∷ map endpoint_of rest = ap (map endpoint_of) whole ∙ map-append endpoint_of b.before (under_endpoint label ∷ rest) in
    let m : ℕ = 0 + length (map endpoint_of b.before) in
    let found : index_in label (map endpoint_of cs) ≡ Some m
    = ap (index_in label) labels ∙ index_later label 0 (map endpoint_of b.before) (label ∷ map endpoint_of rest) b.first
    ∙ ap (λ t. if t then Some m else index_from label (m + 1) (map endpoint_of rest)) (same_label-refl label) in
    let place : place_in (map endpoint_of cs) label ≡ m = ap (λ o. unwrap_or o 0) found in
    let before_length : length (map endpoint_of b.before) ≡ length b.before = length-map b.before endpoint_of in
    let all : length cs ≡ length (b.before ++ under_endpoint label ∷ rest) = ap length whole in
    let two : length (b.before ++ under_endpoint label ∷ rest) ≡ length b.before + suc (length rest) = length-append b.before (under_endpoint label ∷ rest) in
    let three : length rest ≡ length (replicate n (under_endpoint label)) + length b.after = length-append (replicate n (under_endpoint label)) b.after in
    let four = length-replicate n (under_endpoint label) in
    let fits : nat_lt (length cs) (m + suc n) ≡ false = le-ltb (length cs) (m + suc n) (omega arith) in
    let places : endpoint_places (places_of cs) label (suc n) ≡ count_up m (suc n)
    = ap (λ q. places_within (length cs) q (suc n)) place ∙ ap (λ t. if t then [] else count_up m (suc n)) fits in
    let long : length (endpoint_places (places_of cs) label (suc n)) ≡ suc n = ap length places ∙ length-count_up m (suc n) in
    omega arith

-- a part of a list that is joined
part_length : {A B : Type 0} (g : A → List B) (xs : List A) (x : A) → Contains xs x → length (g x) ≤ length (flat_map g xs)
part_length g [] x c = absurd (contains_none x c)
part_length g (y ∷ ys) x c =
    let whole = length-append (g y) (flat_map g ys) in
    elim (contains_cases y ys x c) [
      | inl is ↦ let same : length (g y) ≡ length (g x) = ap (λ q. length (g q)) is in omega arith
      | inr later ↦ let more = part_length g ys x later in omega arith
    ]

-- ---- bodies that are kept
pub within_counts : (e : Endpoints) → is_within e ≡ true → (e.to_server < TOO_MANY) × (e.to_client < TOO_MANY)
within_counts e t = let parts = and_parts (nat_lt e.to_server TOO_MANY) (nat_lt e.to_client TOO_MANY) t in (ltb-true e.to_server TOO_MANY parts.0, ltb-true e.to_client TOO_MANY parts.1)

counts_within : (e : Endpoints) → e.to_server < TOO_MANY → e.to_client < TOO_MANY → is_within e ≡ true
counts_within e a b = and_from (nat_lt e.to_server TOO_MANY) (nat_lt e.to_client TOO_MANY) (lt-ltb e.to_server TOO_MANY a) (lt-ltb e.to_client TOO_MANY b)

-- What an instance brings is no more than what its body has.
inner_within : (names : List Label) (rows : List (List OrderedElement)) (p : DesignPlans) (k : ℕ) (scope : Scope) (at : ℕ) (id : ApplicationId) (body : Name) (bindings : List Binding) (own : Endpoints)
    → is_within (own_plan names rows p k scope).endpoints ≡ true → Contains scope.statements (S.Instance at id body bindings) → endpoints_of (before_body names p k) body ≡ capped own
    → IsBlock (channels scope (before_body names p k) (elements_of scope.statements) (elements_in rows k)) (client_label id) (endpoints_of (before_body names p k) body).to_client
    → is_within own ≡ true
inner_within names rows p k scope at id body bindings own t c same block =
    let before : Before = before_body names p k in
    let s : Statement = S.Instance at id body bindings in
    let cs : List Channel = channels scope before (elements_of scope.statements) (elements_in rows k) in
    let counts = within_counts (own_plan names rows p k scope).endpoints t in
    let low_server = counts.0 in
    let low_client = counts.1 in
    let servers : length (server_channels scope before s) ≤ length (server_endpoints scope before) = part_length (server_channels scope before) scope.statements s c in
    let brought : length (server_channels scope before s) ≡ (endpoints_of before body).to_server = length-replicate (endpoints_of before body).to_server (under_endpoint (server_label id)) in
    let clients : length (client_places scope before (places_of cs) (drives_of scope.statements) s) ≤ length (client_endpoints scope before (places_of cs) (drives_of scope.statements))
    = part_length (client_places scope before (places_of cs) (drives_of scope.statements)) scope.statements s c in
    let long : (endpoints_of before body).to_client ≤ length (client_places scope before (places_of cs) (drives_of scope.statements) s) = block_length cs (client_label id) (endpoints_of before body).to_client block in
    let server_is : (endpoints_of before body).to_server ≡ min TOO_MANY own.to_server = ap (λ (e : Endpoints). e.to_server) same in
    let client_is : (endpoints_of before body).to_client ≡ min TOO_MANY own.to_client = ap (λ (e : Endpoints). e.to_client) same in
    counts_within own (omega arith) (omega arith)

pub own_taken : (names : List Label) (rows : List (List OrderedElement)) (bodies : List Scope) (k : ℕ) (scope : Scope) → is_within (own_plan names rows (planned names rows bodies) k scope).endpoints ≡ true
    → given_to names rows bodies k (Some scope) ≡ length (given scope (before_body names (planned names rows bodies) k))
own_taken names rows bodies k scope t = ap (λ b. if b then length (given scope (before_body names (planned names rows bodies) k)) else 0) t

-- The module of an instance in a body that is kept is planned.
pub planned_module : (names : List Label) (rows : List (List OrderedElement)) (bodies : List Scope) (k : ℕ) (scope : Scope) (at : ℕ) (id : ApplicationId) (body : Name) (bindings : List Binding) (m : Module) (number : ℕ) (inner : Scope)
    → is_within (own_plan names rows (planned names rows bodies) k scope).endpoints ≡ true → Contains scope.statements (S.Instance at id body bindings)
    → IsBlock (channels scope (before_body names (planned names rows bodies) k) (elements_of scope.statements) (elements_in rows k)) (client_label id) (endpoints_of (before_body names (planned names rows bodies) k) body).to_client
    → find_module body scope.modules ≡ Some m → number < k → index_in (named body).label names ≡ Some number → slice_get bodies number ≡ Some inner → inner.ports ≡ m.ports
    → IsPlanned (planned names rows bodies).plans (λ n. given_to names rows bodies n (slice_get bodies n)) k scope (before_body names (planned names rows bodies) k) body
planned_module names rows bodies k scope at id body bindings m number inner t c block found earlier index there ports =
    let p : DesignPlans = planned names rows bodies in
    let before : Before = before_body names p k in
    let own : BodyPlan = own_plan names rows p number inner in
    let spot = body_plan names rows bodies number inner there in
    let ends : endpoints_of before body ≡ capped own.endpoints
    = ap (λ o. unwrap_or (and_then o (slice_get (take k p.endpoints))) no_endpoints) index ∙ ap (λ o. unwrap_or o no_endpoints) (get_taken p.endpoints k number earlier ∙ spot.endpoints) in
    let within = inner_within names rows p k scope at id body bindings own.endpoints t c ends block in
    let counts = within_counts own.endpoints within in
    let low_server = counts.0 in
    let low_client = counts.1 in
    let server_is : (endpoints_of before body).to_server ≡ min TOO_MANY own.endpoints.to_server = ap (λ (e : Endpoints). e.to_server) ends in
    let client_is : (endpoints_of before body).to_client ≡ min TOO_MANY own.endpoints.to_client = ap (λ (e : Endpoints). e.to_client) ends in
    let ports_are : instance_ports scope body ≡ inner.ports = ap ports_of found ∙ sym ports in
    let in_count : length (filter is_in (instance_ports scope body)) ≡ length (filter is_in inner.ports) = ap (λ ps. length (filter is_in ps)) ports_are in
    let out_count : length (filter is_out (instance_ports scope body)) ≡ length (filter is_out inner.ports) = ap (λ ps. length (filter is_out ps)) ports_are in
    let takes_is : given_to names rows bodies number (slice_get bodies number) ≡ length (given inner (before_body names p number)) = ap (given_to names rows bodies number) there ∙ own_taken names rows bodies number inner within in
    let given_is : length (given inner (before_body names p number)) ≡ length (map port_channel (filter is_in inner.ports)) + length (server_endpoints inner (before_body names p number))
    = length-append (map port_channel (filter is_in inner.ports)) (server_endpoints inner (before_body names p number)) in
    let ports_length = length-map (filter is_in inner.ports) port_channel in
    let kept : kept_plan own ≡ own.plan = ap (λ b. if b then own.plan else (record { steps = []; outs = [] })) within in
    let outs_is : outs_count (slice_get p.plans number) ≡ length own.plan.outs = ap outs_count (spot.plan ∙ ap Some kept) in
    let handed = outs_length inner (places_of (channels inner (before_body names p number) (elements_of inner.statements) (elements_in rows number))) (before_body names p number) in
    record {
      number = number;
      found = index;
      earlier = earlier;
      taken = omega arith;
      handed = omega arith;
    }
  where
    outs_length : (s : Scope) (places : Places) (before : Before) → length (port_places places (drives_of s.statements) s.ports ++ client_endpoints s before places (drives_of s.statements))
        ≡ length (filter is_out s.ports) + length (client_endpoints s before places (drives_of s.statements))
    outs_length s places before =
        let both = length-append (port_places places (drives_of s.statements) s.ports) (client_endpoints s before places (drives_of s.statements)) in
        let mapped = length-map (filter is_out s.ports) (λ p. driver_place places (drives_of s.statements) (out_label p)) in
        omega arith
