-- The steps of a plan take earlier channels.
use Rattle.std.proofs.Common.{◌≡◌, ℕ, zero, suc, ◌+◌, ◌-◌, ◌<◌, List, [], ◌∷◌, ◌++◌, map, length, ap, sym, ◌∙◌, subst, arith}
use Rattle.std.specs.Prelude.{Option, Some, None, filter, flat_map, replicate, slice_get, unwrap_or}
use Rattle.std.proofs.lemmas.List.{append_assoc, append-nil, length-append, length-map, length-replicate}
use Rattle.std.proofs.lemmas.List.Elements.{All-nil, All-cons, All-append}
use Rattle.design_tree.specs.declared.leaves.Name.{Name}
use Rattle.design_tree.specs.declared.leaves.ApplicationId.{ApplicationId}
use Rattle.design_tree.specs.declared.leaves.Reference.{Reference}
use Rattle.design_tree.specs.declared.statements.Binding.{Binding}
use Rattle.design_tree.specs.declared.statements.Statement.{Statement}
use Rattle.design_tree.specs.declared.statements.Statement.TheVariants as S
use Rattle.design_tree.specs.declared.declarations.ModulePort.{ModulePort}
use Rattle.check_rules.specs.Scopes.{Scope}
use Rattle.check_rules.specs.References.{operation_sources}
use Rattle.check_rules.specs.Uses.{is_in, is_out}
use Rattle.flat_design.specs.declared.plan.Plan.{Plan}
use Rattle.flat_design.specs.declared.plan.Step.{Step}
use Rattle.flat_design.specs.declared.plan.Step.TheVariants as T
use Rattle.flat_design.specs.FlatLaws.{outs_count, Below, AreSteps}
use Rattle.flat_design.specs.FlatLaws.AreSteps.{none, more}
use Rattle.body_plans.specs.declared.ordered.OrderedElement.{OrderedElement}
use Rattle.body_plans.specs.Channels.{Channel, Before, inner, name_channel, instance_channel, under_endpoint, server_label, client_label, module_number, endpoints_of, made_if, made_at, places_of}
use Rattle.body_plans.specs.Plans.{source_place, bound_to, binding_place, port_sources, endpoint_places, part_step, in_row, instance_step, steps_if, steps_along}
use Rattle.plan_laws.specs.Ahead.{AreAmong, AreBound, instance_ports, IsAheadInstance, IsAheadIf, AreAhead}
use Rattle.plan_laws.proofs.Places.{source_low, length-count_up, below-count_up, block_low, block_places}

-- ---- parts in a row
row_steps : (plans : List Plan) (takes : ℕ → ℕ) (k part width : ℕ) (widths : List ℕ) (n at m : ℕ) (sources : List ℕ) (rest : List Step) → Below at sources
    → AreSteps plans takes k (at + n + length widths) rest m → AreSteps plans takes k at (in_row part width widths n at sources ++ rest) m
row_steps plans takes k part width widths zero at m sources rest low r =
    let e : at + zero + length widths ≡ at + length widths = omega arith in
    more at m (T.Element part sources widths) rest low tt (subst (λ q. AreSteps plans takes k q rest m) e r)
row_steps plans takes k part width widths (suc n) at m sources rest low r =
    let e : at + suc n + length widths ≡ at + 1 + n + length widths = omega arith in
    more at m (part_step part width sources) (in_row part width widths n (at + 1) (at ∷ []) ++ rest) low tt
    (row_steps plans takes k part width widths n (at + 1) m (at ∷ []) rest (All-cons (λ q. q < at + 1) at [] (omega arith) (All-nil (λ q. q < at + 1))) (subst (λ q. AreSteps plans takes k q rest m) e r))

-- ---- sources
sources_low : (cs later : List Channel) (rs : List Reference) → AreAmong cs rs → Below (length cs) (map (source_place (places_of (cs ++ later))) rs)
sources_low cs later [] h = All-nil (λ q. q < length cs)
sources_low cs later (r ∷ rs) h =
    All-cons (λ q. q < length cs) (source_place (places_of (cs ++ later)) r) (map (source_place (places_of (cs ++ later))) rs) (source_low cs later r h.0) (sources_low cs later rs h.1)

ports_low : (cs later : List Channel) (bindings : List Binding) (ps : List ModulePort) → AreBound cs bindings ps → Below (length cs) (map (λ (p : ModulePort). binding_place (places_of (cs ++ later)) (bound_to bindings p)) ps)
ports_low cs later bindings [] h = All-nil (λ q. q < length cs)
ports_low cs later bindings (p ∷ ps) h =
    let same = ap (binding_place (places_of (cs ++ later))) h.0.found in
    let low = source_low cs later h.0.binding.source h.0.among in
    All-cons (λ q. q < length cs) (binding_place (places_of (cs ++ later)) (bound_to bindings p)) (map (λ (p : ModulePort). binding_place (places_of (cs ++ later)) (bound_to bindings p)) ps)
    (subst (λ q. q < length cs) (sym same) low) (ports_low cs later bindings ps h.1)

-- ---- instances
abbrev instance_sources : List Channel → List Channel → Scope → Before → ApplicationId → Name → List Binding → List ℕ
instance_sources cs later scope before id body bindings =
    port_sources (places_of (cs ++ later)) bindings (instance_ports scope body) ++ endpoint_places (places_of (cs ++ later)) (server_label id) (endpoints_of before body).to_server

instance_steps : (plans : List Plan) (takes : ℕ → ℕ) (k : ℕ) (scope : Scope) (before : Before) (cs later : List Channel) (id : ApplicationId) (body : Name) (bindings : List Binding) (rest : List Step) (m : ℕ)
    → IsAheadInstance plans takes k scope before cs id body bindings
    → AreSteps plans takes k (length (cs ++ (map (instance_channel id) (filter is_out (instance_ports scope body)) ++ replicate (endpoints_of before body).to_client (under_endpoint (client_label id))))) rest m
    → AreSteps plans takes k (length cs) (instance_step scope before (places_of (cs ++ later)) id body bindings ∷ rest) m
instance_steps plans takes k scope before cs later id body bindings rest m h r =
    let ports : List ℕ = port_sources (places_of (cs ++ later)) bindings (instance_ports scope body) in
    let block : List ℕ = endpoint_places (places_of (cs ++ later)) (server_label id) (endpoints_of before body).to_server in
    let block_is = block_places cs later (server_label id) (endpoints_of before body).to_server h.served in
    let outs : List Channel = map (instance_channel id) (filter is_out (instance_ports scope body)) in
    let clients : List Channel = replicate (endpoints_of before body).to_client (under_endpoint (client_label id)) in
    let number : unwrap_or (module_number before body) 0 ≡ h.planned.number = ap (λ o. unwrap_or o 0) h.planned.found in
    let low : Below (length cs) (ports ++ block) = All-append (λ q. q < length cs) ports block (ports_low cs later bindings (filter is_in (instance_ports scope body)) h.bound)
    (subst (λ xs. Below (length cs) xs) (sym block_is) (below-count_up (length h.served.before) (endpoints_of before body).to_server (length cs) (block_low cs (server_label id) (endpoints_of before body).to_server h.served))) in
    let both : length (ports ++ block) ≡ length ports + length block = length-append ports block in
    let ports_count : length ports ≡ length (filter is_in (instance_ports scope body)) = length-map (filter is_in (instance_ports scope body)) (λ (p : ModulePort). binding_place (places_of (cs ++ later)) (bound_to bindings p)) in
    let block_count : length block ≡ (endpoints_of before body).to_server = ap length block_is ∙ length-count_up (length h.served.before) (endpoints_of before body).to_server in
    let taken = h.planned.taken in
    let fits : length (ports ++ block) ≡ takes h.planned.number = omega arith in
    let made : length (cs ++ (outs ++ clients)) ≡ length cs + length (outs ++ clients) = length-append cs (outs ++ clients) in
    let made_both : length (outs ++ clients) ≡ length outs + length clients = length-append outs clients in
    let outs_are : length outs ≡ length (filter is_out (instance_ports scope body)) = length-map (filter is_out (instance_ports scope body)) (instance_channel id) in
    let clients_are : length clients ≡ (endpoints_of before body).to_client = length-replicate (endpoints_of before body).to_client (under_endpoint (client_label id)) in
    let handed = h.planned.handed in
    let next : length (cs ++ (outs ++ clients)) ≡ length cs + outs_count (slice_get plans h.planned.number) = omega arith in
    subst (λ n. AreSteps plans takes k (length cs) (T.Instance n (ports ++ block) ∷ rest) m) (sym number)
    (more (length cs) m (T.Instance h.planned.number (ports ++ block)) rest low (h.planned.earlier, fits) (subst (λ q. AreSteps plans takes k q rest m) next r))

-- ---- elements in their order
steps_by_one : (plans : List Plan) (takes : ℕ → ℕ) (k : ℕ) (scope : Scope) (before : Before) (cs later : List Channel) (o : OrderedElement) (found : Option Statement) (rest : List Step) (m : ℕ)
    → IsAheadIf plans takes k scope before cs found → AreSteps plans takes k (length (cs ++ made_if scope before o found)) rest m
    → AreSteps plans takes k (length cs) (steps_if scope before (places_of (cs ++ later)) (length cs) o found ++ rest) m
steps_by_one plans takes k scope before cs later o None rest m h r = subst (λ xs. AreSteps plans takes k (length xs) rest m) (append-nil cs) r
steps_by_one plans takes k scope before cs later o (Some (S.Request at service port id)) rest m h r = subst (λ xs. AreSteps plans takes k (length xs) rest m) (append-nil cs) r
steps_by_one plans takes k scope before cs later o (Some (S.Instance at id body bindings)) rest m h r = instance_steps plans takes k scope before cs later id body bindings rest m h r
steps_by_one plans takes k scope before cs later o (Some (S.Channels at names operation)) rest m h r =
    let between : List Channel = replicate (o.count - 1) inner in
    let named : List Channel = map name_channel names in
    let made : length (cs ++ (between ++ named)) ≡ length cs + length (between ++ named) = length-append cs (between ++ named) in
    let both : length (between ++ named) ≡ length between + length named = length-append between named in
    let between_are : length between ≡ o.count - 1 = length-replicate (o.count - 1) inner in
    let named_are : length named ≡ length names = length-map names name_channel in
    let widths_are : length (replicate (length names) o.width) ≡ length names = length-replicate (length names) o.width in
    let next : length (cs ++ (between ++ named)) ≡ length cs + (o.count - 1) + length (replicate (length names) o.width) = omega arith in
    row_steps plans takes k o.part o.width (replicate (length names) o.width) (o.count - 1) (length cs) m (map (source_place (places_of (cs ++ later))) (operation_sources operation)) rest
    (sources_low cs later (operation_sources operation) h) (subst (λ q. AreSteps plans takes k q rest m) next r)
steps_by_one plans takes k scope before cs later o (Some (S.Drive at sink source)) rest m h r = subst (λ xs. AreSteps plans takes k (length xs) rest m) (append-nil cs) r

pub steps_ahead : (plans : List Plan) (takes : ℕ → ℕ) (k : ℕ) (scope : Scope) (before : Before) (elements : List Statement) (cs all : List Channel) (order : List OrderedElement)
    → all ≡ cs ++ flat_map (made_at scope before elements) order → AreAhead plans takes k scope before elements cs order
    → AreSteps plans takes k (length cs) (steps_along scope before elements (places_of all) cs order) (length all)
steps_ahead plans takes k scope before elements cs all [] e h =
    let same : length cs ≡ length all = sym (ap length (e ∙ append-nil cs)) in
    subst (λ n. AreSteps plans takes k (length cs) [] n) same (none (length cs))
steps_ahead plans takes k scope before elements cs all (o ∷ order) e h =
    let made : List Channel = made_at scope before elements o in
    let later : List Channel = flat_map (made_at scope before elements) order in
    subst (λ xs. AreSteps plans takes k (length cs) (steps_along scope before elements (places_of xs) cs (o ∷ order)) (length xs)) (sym e)
    (steps_by_one plans takes k scope before cs (made ++ later) o (slice_get elements o.number) (steps_along scope before elements (places_of (cs ++ (made ++ later))) (cs ++ made) order) (length (cs ++ (made ++ later))) h.0
    (steps_ahead plans takes k scope before elements (cs ++ made) (cs ++ (made ++ later)) order (sym (append_assoc cs made later)) h.1))
