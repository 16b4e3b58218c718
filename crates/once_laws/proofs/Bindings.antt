-- What the `in` ports of an instance are bound to, and what drives sinks, are the sources of its bindings and of drives.
use Rattle.std.proofs.Common.{◌≡◌, ℕ, suc, ◌+◌, true, false, List, [], ◌∷◌, ◌++◌, Some, map, length, refl, ap, sym, ◌∙◌, subst, arith}
use Rattle.std.specs.Prelude.{Contains, filter, flat_map}
use Rattle.std.proofs.lemmas.Bool.{false≢true}
use Rattle.std.proofs.lemmas.List.{length-map}
use Rattle.design_tree.specs.declared.leaves.Name.{Name}
use Rattle.design_tree.specs.declared.leaves.ApplicationId.{ApplicationId}
use Rattle.design_tree.specs.declared.leaves.Reference.{Reference}
use Rattle.design_tree.specs.declared.statements.Binding.{Binding}
use Rattle.design_tree.specs.declared.statements.Statement.{Statement}
use Rattle.design_tree.specs.declared.statements.Statement.TheVariants as S
use Rattle.design_tree.specs.declared.declarations.Member.{Member}
use Rattle.design_tree.specs.declared.declarations.ModulePort.{ModulePort}
use Rattle.name_tables.specs.Labels.{Label, label_at}
use Rattle.name_tables.specs.Lists.{stands}
use Rattle.check_rules.specs.Scopes.{Scope, bundle_of}
use Rattle.check_rules.specs.References.{reference_label, binding_source}
use Rattle.check_rules.specs.DeclaredTwice.{port_named}
use Rattle.check_rules.specs.Dependencies.{is_element, elements_of}
use Rattle.check_rules.specs.Directions.{ports_of}
use Rattle.check_rules.specs.Uses.{is_in, is_out}
use Rattle.body_plans.specs.declared.ordered.OrderedElement.{OrderedElement}
use Rattle.body_plans.specs.Channels.{client_members}
use Rattle.body_plans.specs.Plans.{binding_label, sinks_of, drivers_of, Drives, drives_of}
use Rattle.plan_laws.specs.Ahead.{out_label, member_sink, instance_ports}
use Rattle.plan_laws.specs.Once.{sum_of, given_names, made_by, made_names, bound_label, port_label, taken_by, taken_names, label_if, driver_label, handed_by, handed_names}
use Rattle.once_laws.proofs.Sums.{sum_of-append, sum_of-map, sum_of-flat_map, sum_same, sum_plus, hit, count, stands_count, count_stands, same_sums, apart_from_count, in_map, found_by, lookup_sum, once_each}
use Rattle.once_laws.proofs.Orders.{IsComplete, parts_sum}
use Rattle.once_laws.proofs.Kept.{IsKept, instance_module, made_one, source_names, sinks_by, sink_names}
use Rattle.once_laws.proofs.Matched.{source_labels, filter_least, same_names, sinks_once}

-- ---- bindings
-- the `in` ports of an instance are those that it binds
pub bound_ports : (scope : Scope) → IsKept scope → (at : ℕ) (id : ApplicationId) (body : Name) (bindings : List Binding) → Contains scope.statements (S.Instance at id body bindings)
    → (l : Label) → count l (map out_label (filter is_in (instance_ports scope body))) ≡ count l (map binding_label bindings)
bound_ports scope k at id body bindings c l =
    let m = instance_module scope k at id body bindings c in
    let ports_are : instance_ports scope body ≡ m.part.ports = ap ports_of m.found in
    let all : count l (map label_at (map port_named m.part.ports)) ≡ sum_of (λ (p : ModulePort). hit l (out_label p)) m.part.ports
    = sum_of-map (hit l) label_at (map port_named m.part.ports) ∙ sum_of-map (λ o. hit l (label_at o)) port_named m.part.ports in
    let few : count l (map out_label (filter is_in (instance_ports scope body))) ≡ sum_of (λ (p : ModulePort). hit l (out_label p)) (filter is_in m.part.ports)
    = ap (λ ps. count l (map out_label (filter is_in ps))) ports_are ∙ sum_of-map (hit l) out_label (filter is_in m.part.ports) in
    let fewer = filter_least (λ (p : ModulePort). hit l (out_label p)) is_in m.part.ports in
    let once = k.ports body m.part m.found l in
    once_each (count l (map out_label (filter is_in (instance_ports scope body)))) (count l (map binding_label bindings)) (omega arith) (k.bound at id body bindings c l)
    (λ n. stands_count l (map binding_label bindings) (k.binds at id body bindings c l (count_stands l (map out_label (filter is_in (instance_ports scope body))) n)))
    (λ n. stands_count l (map out_label (filter is_in (instance_ports scope body)))
    (ap (λ ps. stands l (map out_label (filter is_in ps))) ports_are
    ∙ in_map l binding_label bindings (count_stands l (map binding_label bindings) n) (λ b d is. subst (λ q. stands q (map out_label (filter is_in m.part.ports)) ≡ true) (sym is) (m.binds b d))))

bindings_sum : (f : Label → ℕ) (scope : Scope) → IsKept scope → (at : ℕ) (id : ApplicationId) (body : Name) (bindings : List Binding) → Contains scope.statements (S.Instance at id body bindings)
    → sum_of f (map (port_label bindings) (filter is_in (instance_ports scope body))) ≡ sum_of f (map reference_label (map binding_source bindings))
bindings_sum f scope k at id body bindings c =
    let ps : List ModulePort = filter is_in (instance_ports scope body) in
    let keys : List Label = map binding_label bindings in
    let g : Label → ℕ = λ l. f (bound_label (found_by keys bindings l)) in
    let ports : sum_of f (map (port_label bindings) ps) ≡ sum_of g (map out_label ps) = sum_of-map f (port_label bindings) ps ∙ sym (sum_of-map g out_label ps) in
    let same : sum_of g (map out_label ps) ≡ sum_of g keys = same_sums (map out_label ps) keys (bound_ports scope k at id body bindings c) g in
    let found : sum_of g keys ≡ sum_of (λ (b : Binding). f (reference_label b.source)) bindings
    = lookup_sum (λ o. f (bound_label o)) keys bindings (length-map bindings binding_label) (apart_from_count keys (k.bound at id body bindings c)) in
    let sources : sum_of f (map reference_label (map binding_source bindings)) ≡ sum_of (λ (b : Binding). f (reference_label b.source)) bindings
    = sum_of-map f reference_label (map binding_source bindings) ∙ sum_of-map (λ (r : Reference). f (reference_label r)) binding_source bindings in
    ports ∙ same ∙ found ∙ sym sources

-- ---- statements
abbrev taken_one : Scope → Statement → List Label
taken_one scope s = taken_by scope (Some s)

statement_sum : (f : Label → ℕ) (scope : Scope) → IsKept scope → (s : Statement) → Contains scope.statements s → sum_of f (source_labels s) ≡ sum_of f (taken_one scope s) + sum_of (λ (r : Reference). f (reference_label r)) (drivers_of s)
statement_sum f scope k (S.Request at service port id) c = omega arith
statement_sum f scope k (S.Instance at id body bindings) c = let same = bindings_sum f scope k at id body bindings c in omega arith
statement_sum f scope k (S.Channels at names operation) c = omega arith
statement_sum f scope k (S.Drive at sink source) c = omega arith

-- ---- drives
drives_even : (ss : List Statement) → length (flat_map sinks_of ss) ≡ length (flat_map drivers_of ss)
drives_even [] = refl
drives_even (S.Request at service port id ∷ ss) = drives_even ss
drives_even (S.Instance at id body bindings ∷ ss) = drives_even ss
drives_even (S.Channels at names operation ∷ ss) = drives_even ss
drives_even (S.Drive at sink source ∷ ss) = ap suc (drives_even ss)

pub drive_keys : (scope : Scope) → length (drives_of scope.statements).sinks ≡ length (drives_of scope.statements).sources
drive_keys scope = drives_even scope.statements

handed_one : (f : Label → ℕ) (scope : Scope) (drives : Drives) (s : Statement) → sum_of f (handed_by scope drives s) ≡ sum_of (λ l. f (driver_label drives l)) (sinks_by scope s)
handed_one f scope drives (S.Request at service port id) =
    let ms : List Member = client_members (bundle_of scope service port) in
    sum_of-map f (λ (m : Member). driver_label drives (member_sink id m)) ms ∙ sym (sum_of-map (λ l. f (driver_label drives l)) (member_sink id) ms)
handed_one f scope drives (S.Instance at id body bindings) = refl
handed_one f scope drives (S.Channels at names operation) = refl
handed_one f scope drives (S.Drive at sink source) = refl

handed_sum : (f : Label → ℕ) (scope : Scope) → IsKept scope → sum_of f (handed_names scope (drives_of scope.statements)) ≡ sum_of (λ s. sum_of (λ (r : Reference). f (reference_label r)) (drivers_of s)) scope.statements
handed_sum f scope k =
    let ss : List Statement = scope.statements in
    let drives : Drives = drives_of ss in
    let h : Label → ℕ = λ l. f (driver_label drives l) in
    let ps : List ModulePort = filter is_out scope.ports in
    let whole = sum_of-append f (map (λ (p : ModulePort). driver_label drives (out_label p)) ps) (flat_map (handed_by scope drives) ss) in
    let ports : sum_of f (map (λ (p : ModulePort). driver_label drives (out_label p)) ps) ≡ sum_of h (map out_label ps)
    = sum_of-map f (λ (p : ModulePort). driver_label drives (out_label p)) ps ∙ sym (sum_of-map h out_label ps) in
    let each : sum_of f (flat_map (handed_by scope drives) ss) ≡ sum_of h (flat_map (sinks_by scope) ss)
    = sum_of-flat_map f (handed_by scope drives) ss ∙ sum_same (λ s. sum_of f (handed_by scope drives s)) (λ s. sum_of h (sinks_by scope s)) ss (λ s c. handed_one f scope drives s) ∙ sym (sum_of-flat_map h (sinks_by scope) ss) in
    let sinks = sum_of-append h (map out_label ps) (flat_map (sinks_by scope) ss) in
    let same : sum_of h (flat_map sinks_of ss) ≡ sum_of h (sink_names scope) = same_sums (flat_map sinks_of ss) (sink_names scope) (λ l. (same_names scope k l).1) h in
    let found : sum_of h (flat_map sinks_of ss) ≡ sum_of (λ (r : Reference). f (reference_label r)) (flat_map drivers_of ss)
    = lookup_sum (λ o. f (label_if o)) (flat_map sinks_of ss) (flat_map drivers_of ss) (drives_even ss) (apart_from_count (flat_map sinks_of ss) (sinks_once scope k)) in
    let drivers = sum_of-flat_map (λ (r : Reference). f (reference_label r)) drivers_of ss in
    omega arith

-- ---- all uses
taken_none : (f : Label → ℕ) (scope : Scope) (s : Statement) → is_element s ≡ false → sum_of f (taken_by scope (Some s)) ≡ 0
taken_none f scope (S.Request at service port id) e = refl
taken_none f scope (S.Instance at id body bindings) e = absurd (false≢true (sym e))
taken_none f scope (S.Channels at names operation) e = absurd (false≢true (sym e))
taken_none f scope (S.Drive at sink source) e = refl

made_none : (f : Label → ℕ) (scope : Scope) (s : Statement) → is_element s ≡ false → sum_of f (made_by scope (Some s)) ≡ 0
made_none f scope (S.Request at service port id) e = refl
made_none f scope (S.Instance at id body bindings) e = absurd (false≢true (sym e))
made_none f scope (S.Channels at names operation) e = absurd (false≢true (sym e))
made_none f scope (S.Drive at sink source) e = refl

pub made_sum : (f : Label → ℕ) (scope : Scope) (order : List OrderedElement) → IsComplete (elements_of scope.statements) order → sum_of f (given_names scope ++ made_names scope (elements_of scope.statements) order) ≡ sum_of f (source_names scope)
made_sum f scope order c =
    sum_of-append f (given_names scope) (made_names scope (elements_of scope.statements) order)
    ∙ ap (λ n. sum_of f (given_names scope) + n) (parts_sum f (made_by scope) (made_none f scope) scope.statements order c)
    ∙ sym (sum_of-append f (given_names scope) (flat_map (made_one scope) scope.statements))

-- Each name that is given or made is used once.
pub used_once : (scope : Scope) → IsKept scope → (order : List OrderedElement) → IsComplete (elements_of scope.statements) order → (f : Label → ℕ)
    → sum_of f (taken_names scope (elements_of scope.statements) order ++ handed_names scope (drives_of scope.statements)) ≡ sum_of f (given_names scope ++ made_names scope (elements_of scope.statements) order)
used_once scope k order c f =
    let ss : List Statement = scope.statements in
    let g : Reference → ℕ = λ r. f (reference_label r) in
    let whole = sum_of-append f (taken_names scope (elements_of ss) order) (handed_names scope (drives_of ss)) in
    let taken : sum_of f (taken_names scope (elements_of ss) order) ≡ sum_of (λ s. sum_of f (taken_one scope s)) ss
    = parts_sum f (taken_by scope) (taken_none f scope) ss order c ∙ sum_of-flat_map f (taken_one scope) ss in
    let handed = handed_sum f scope k in
    let two = sum_plus (λ s. sum_of f (taken_one scope s)) (λ s. sum_of g (drivers_of s)) ss in
    let sources : sum_of f (flat_map source_labels ss) ≡ sum_of (λ s. sum_of f (taken_one scope s) + sum_of g (drivers_of s)) ss
    = sum_of-flat_map f source_labels ss ∙ sum_same (λ s. sum_of f (source_labels s)) (λ s. sum_of f (taken_one scope s) + sum_of g (drivers_of s)) ss (λ s d. statement_sum f scope k s d) in
    let same : sum_of f (flat_map source_labels ss) ≡ sum_of f (source_names scope) = same_sums (flat_map source_labels ss) (source_names scope) (λ l. (same_names scope k l).0) f in
    let made = made_sum f scope order c in
    omega arith
