-- What is summed over the sources of a plan's steps and over what it hands out.
use Rattle.std.proofs.Common.{◌≡◌, ℕ, zero, suc, ◌+◌, ◌-◌, List, [], ◌∷◌, ◌++◌, map, length, refl, ap, ◌∙◌, arith}
use Rattle.std.specs.Prelude.{Option, Some, None, filter, flat_map, replicate, slice_get}
use Rattle.std.proofs.lemmas.List.{append-nil}
use Rattle.design_tree.specs.declared.leaves.Reference.{Reference}
use Rattle.design_tree.specs.declared.statements.Binding.{Binding}
use Rattle.design_tree.specs.declared.statements.Statement.{Statement}
use Rattle.design_tree.specs.declared.statements.Statement.TheVariants as S
use Rattle.design_tree.specs.declared.declarations.ModulePort.{ModulePort}
use Rattle.name_tables.specs.Labels.{Label}
use Rattle.name_tables.specs.Lists.{index_in}
use Rattle.check_rules.specs.Scopes.{Scope, and_then, bundle_of}
use Rattle.check_rules.specs.References.{reference_label, operation_sources}
use Rattle.check_rules.specs.Uses.{is_in}
use Rattle.flat_design.specs.declared.plan.Plan.{Plan}
use Rattle.flat_design.specs.declared.plan.Step.{Step}
use Rattle.flat_design.specs.Laying.{count_up}
use Rattle.flat_design.specs.FlatLaws.{total, sources_of}
use Rattle.body_plans.specs.declared.ordered.OrderedElement.{OrderedElement}
use Rattle.body_plans.specs.Channels.{Channel, Before, server_label, client_members, endpoints_of, made_at, places_of}
use Rattle.body_plans.specs.Plans.{source_place, bound_to, binding_place, port_sources, endpoint_places, in_row, steps_if, steps_at, steps_along, Drives, place_if, driver_place, client_places}
use Rattle.plan_laws.specs.Ahead.{member_sink, instance_ports, AreBound, IsAheadIf, AreAhead, AreDriven, IsHanded, AreHanded}
use Rattle.plan_laws.specs.Once.{sum_of, bound_label, port_label, taken_by, taken_names, label_if, driver_label, handed_by, instance_in, instance_if, instance_at}
use Rattle.plan_laws.proofs.Blocks.{flat_map-append}
use Rattle.plan_laws.proofs.Spans.{total-append, sum_of-append, at_name}
use Rattle.plan_laws.proofs.Made.{server_sum, client_sum, inner_sum, inner_along}

-- ---- sources of elements
sources_total : (f : ℕ → ℕ) (all : List Channel) (rs : List Reference) → total f (map (source_place (places_of all)) rs) ≡ sum_of (at_name f all) (map reference_label rs)
sources_total f all [] = refl
sources_total f all (r ∷ rs) = ap (λ n. f (source_place (places_of all) r) + n) (sources_total f all rs)

bound_one : (f : ℕ → ℕ) (all : List Channel) (o : Option Binding) (b : Binding) → o ≡ Some b → f (binding_place (places_of all) o) ≡ at_name f all (bound_label o)
bound_one f all None b e = absurd (cc)
bound_one f all (Some c) b e = refl

ports_total : (f : ℕ → ℕ) (all cs : List Channel) (bindings : List Binding) (ps : List ModulePort) → AreBound cs bindings ps
    → total f (map (λ (p : ModulePort). binding_place (places_of all) (bound_to bindings p)) ps) ≡ sum_of (at_name f all) (map (port_label bindings) ps)
ports_total f all cs bindings [] h = refl
ports_total f all cs bindings (p ∷ ps) h =
    let one = bound_one f all (bound_to bindings p) h.0.binding h.0.found in
    let more = ports_total f all cs bindings ps h.1 in
    omega arith

row_total : (f : ℕ → ℕ) (part width : ℕ) (widths : List ℕ) (n at : ℕ) (sources : List ℕ) → total f (flat_map sources_of (in_row part width widths n at sources)) ≡ total f sources + total f (count_up at n)
row_total f part width widths zero at sources = ap (total f) (append-nil sources) ∙ plain (total f sources)
  where
    plain : (m : ℕ) → m ≡ m + 0
    plain m = omega arith
row_total f part width widths (suc n) at sources =
    let more = row_total f part width widths n (at + 1) (at ∷ []) in
    let split = total-append f sources (flat_map sources_of (in_row part width widths n (at + 1) (at ∷ []))) in
    omega arith

step_total : (f : ℕ → ℕ) (plans : List Plan) (takes : ℕ → ℕ) (k : ℕ) (scope : Scope) (before : Before) (all cs : List Channel) (at : ℕ) (o : OrderedElement) (found : Option Statement)
    → IsAheadIf plans takes k scope before cs found
    → total f (flat_map sources_of (steps_if scope before (places_of all) at o found)) ≡ sum_of (at_name f all) (taken_by scope found) + sum_of (server_sum f all before) (instance_if found) + inner_sum f at o found
step_total f plans takes k scope before all cs at o None h = refl
step_total f plans takes k scope before all cs at o (Some (S.Request place service port id)) h = refl
step_total f plans takes k scope before all cs at o (Some (S.Instance place id body bindings)) h =
    let ports : List ℕ = port_sources (places_of all) bindings (instance_ports scope body) in
    let block : List ℕ = endpoint_places (places_of all) (server_label id) (endpoints_of before body).to_server in
    let alone = ap (total f) (append-nil (ports ++ block)) in
    let both = total-append f ports block in
    let named = ports_total f all cs bindings (filter is_in (instance_ports scope body)) h.bound in
    omega arith
step_total f plans takes k scope before all cs at o (Some (S.Channels place names operation)) h =
    let sources : List ℕ = map (source_place (places_of all)) (operation_sources operation) in
    let row = row_total f o.part o.width (replicate (length names) o.width) (o.count - 1) at sources in
    let named = sources_total f all (operation_sources operation) in
    omega arith
step_total f plans takes k scope before all cs at o (Some (S.Drive place sink source)) h = refl

pub steps_total : (f : ℕ → ℕ) (plans : List Plan) (takes : ℕ → ℕ) (k : ℕ) (scope : Scope) (before : Before) (elements : List Statement) (all cs : List Channel) (order : List OrderedElement)
    → AreAhead plans takes k scope before elements cs order
    → total f (flat_map sources_of (steps_along scope before elements (places_of all) cs order))
    ≡ sum_of (at_name f all) (taken_names scope elements order) + sum_of (server_sum f all before) (flat_map (instance_at elements) order) + inner_along f scope before elements cs order
steps_total f plans takes k scope before elements all cs [] h = refl
steps_total f plans takes k scope before elements all cs (o ∷ order) h =
    let found : Option Statement = slice_get elements o.number in
    let here : List Step = steps_at scope before elements (places_of all) (length cs) o in
    let later : List Step = steps_along scope before elements (places_of all) (cs ++ made_at scope before elements o) order in
    let split = ap (total f) (flat_map-append sources_of here later) ∙ total-append f (flat_map sources_of here) (flat_map sources_of later) in
    let one = step_total f plans takes k scope before all cs (length cs) o found h.0 in
    let more = steps_total f plans takes k scope before elements all (cs ++ made_at scope before elements o) order h.1 in
    let names = sum_of-append (at_name f all) (taken_by scope found) (taken_names scope elements order) in
    let instances = sum_of-append (server_sum f all before) (instance_if found) (flat_map (instance_at elements) order) in
    omega arith

-- ---- what is handed out
driver_one : (f : ℕ → ℕ) (all : List Channel) (o : Option Reference) (r : Reference) → o ≡ Some r → f (place_if (places_of all) o) ≡ at_name f all (label_if o)
driver_one f all None r e = absurd (cc)
driver_one f all (Some s) r e = refl

pub drivers_total : {A : Type 0} (sink_of : A → Label) (f : ℕ → ℕ) (all : List Channel) (drives : Drives) (xs : List A) → AreDriven all drives (map sink_of xs)
    → total f (map (λ x. driver_place (places_of all) drives (sink_of x)) xs) ≡ sum_of (at_name f all) (map (λ x. driver_label drives (sink_of x)) xs)
drivers_total sink_of f all drives [] h = refl
drivers_total sink_of f all drives (x ∷ xs) h =
    let one : f (driver_place (places_of all) drives (sink_of x)) ≡ at_name f all (driver_label drives (sink_of x)) = driver_one f all (and_then (index_in (sink_of x) drives.sinks) (slice_get drives.sources)) h.0.source h.0.found in
    let more = drivers_total sink_of f all drives xs h.1 in
    omega arith

client_total : (f : ℕ → ℕ) (scope : Scope) (before : Before) (all : List Channel) (drives : Drives) (s : Statement) → IsHanded scope before all drives s
    → total f (client_places scope before (places_of all) drives s) ≡ sum_of (at_name f all) (handed_by scope drives s) + sum_of (client_sum f all before) (instance_in s)
client_total f scope before all drives (S.Request at service port id) h =
    drivers_total (member_sink id) f all drives (client_members (bundle_of scope service port)) h ∙ more (sum_of (at_name f all) (handed_by scope drives (S.Request at service port id)))
  where
    more : (m : ℕ) → m ≡ m + 0
    more m = omega arith
client_total f scope before all drives (S.Instance at id body bindings) h = plain (client_sum f all before (S.Instance at id body bindings))
  where
    plain : (m : ℕ) → m ≡ 0 + (m + 0)
    plain m = omega arith
client_total f scope before all drives (S.Channels at names operation) h = refl
client_total f scope before all drives (S.Drive at sink source) h = refl

pub clients_total : (f : ℕ → ℕ) (scope : Scope) (before : Before) (all : List Channel) (drives : Drives) (ss : List Statement) → AreHanded scope before all drives ss
    → total f (flat_map (client_places scope before (places_of all) drives) ss) ≡ sum_of (at_name f all) (flat_map (handed_by scope drives) ss) + sum_of (client_sum f all before) (flat_map instance_in ss)
clients_total f scope before all drives [] h = refl
clients_total f scope before all drives (s ∷ ss) h =
    let split = total-append f (client_places scope before (places_of all) drives s) (flat_map (client_places scope before (places_of all) drives) ss) in
    let one = client_total f scope before all drives s h.0 in
    let more = clients_total f scope before all drives ss h.1 in
    let names = sum_of-append (at_name f all) (handed_by scope drives s) (flat_map (handed_by scope drives) ss) in
    let instances = sum_of-append (client_sum f all before) (instance_in s) (flat_map instance_in ss) in
    omega arith
