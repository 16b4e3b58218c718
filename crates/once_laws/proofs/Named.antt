-- In a body that keeps the rules no two channels have one name, no two instances one application id, and all instances stand
-- along the order.
use Rattle.std.proofs.Common.{◌≡◌, ℕ, zero, suc, ◌+◌, ◌-◌, ◌≤◌, false, List, ◌∷◌, ◌++◌, Option, Some, None, map, refl, ap, sym, ◌∙◌, arith}
use Rattle.std.specs.Prelude.{filter, flat_map, replicate, slice_get}
use Rattle.std.proofs.lemmas.Bool.{false≢true}
use Rattle.design_tree.specs.declared.statements.Statement.{Statement}
use Rattle.design_tree.specs.declared.statements.Statement.TheVariants as S
use Rattle.design_tree.specs.declared.declarations.Member.{Member}
use Rattle.design_tree.specs.declared.declarations.ModulePort.{ModulePort}
use Rattle.name_tables.specs.Labels.{Label, Occurrence, label_at, same_label}
use Rattle.name_tables.specs.Lists.{stands}
use Rattle.check_rules.specs.Scopes.{Scope, bundle_of}
use Rattle.check_rules.specs.DeclaredTwice.{ids_of}
use Rattle.check_rules.specs.Dependencies.{is_element, elements_of}
use Rattle.check_rules.specs.Uses.{is_in, is_out}
use Rattle.body_order.specs.Makers.{instance_labels_of, instance_labels}
use Rattle.body_order.specs.Cycles.{AreApart}
use Rattle.body_plans.specs.declared.ordered.OrderedElement.{OrderedElement}
use Rattle.body_plans.specs.Channels.{Channel, Before, no_name, under_name, under_endpoint, server_label, client_label, name_of, port_channel, member_channel, instance_channel, name_channel, inner, server_members, endpoints_of, server_channels, server_endpoints, given, made_if, made_at, channels}
use Rattle.plan_laws.specs.Ahead.{out_label, member_sink, instance_ports}
use Rattle.plan_laws.specs.Blocks.{labels_if, labels_at}
use Rattle.plan_laws.specs.Once.{sum_of, given_by, given_names, instance_label, own_label, made_by, made_names, instance_in, instance_if, instance_at, AreNamedOnce}
use Rattle.once_laws.proofs.Sums.{sum_of-append, sum_of-map, sum_of-flat_map, sum_same, sum_least, one_if, hit, count, count_absent, itself, apart_from_count}
use Rattle.once_laws.proofs.Orders.{IsComplete, parts_sum}
use Rattle.once_laws.proofs.Kept.{IsKept}
use Rattle.once_laws.proofs.Matched.{source_once}
use Rattle.once_laws.proofs.Bindings.{made_sum}

-- ---- channels by name
-- how often a channel has the name
abbrev pub called : Label → Channel → ℕ
called l c = hit l c.name

nameless : (l : Label) (n : ℕ) (c : Channel) → called l c ≡ 0 → sum_of (called l) (replicate n c) ≡ 0
nameless l zero c e = refl
nameless l (suc n) c e = let more = nameless l n c e in omega arith

no_hit : (l : Label) → same_label l no_name ≡ false → hit l no_name ≡ 0
no_hit l e = ap one_if e

server_names : (l : Label) → same_label l no_name ≡ false → (scope : Scope) (before : Before) (s : Statement) → sum_of (called l) (server_channels scope before s) ≡ count l (given_by scope s)
server_names l e scope before (S.Request at service port id) =
    let ms : List Member = server_members (bundle_of scope service port) in
    sum_of-map (called l) (member_channel id) ms ∙ sym (sum_of-map (hit l) (member_sink id) ms)
server_names l e scope before (S.Instance at id body bindings) = nameless l (endpoints_of before body).to_server (under_endpoint (server_label id)) (no_hit l e)
server_names l e scope before (S.Channels at names operation) = refl
server_names l e scope before (S.Drive at sink source) = refl

pub given_named : (l : Label) → same_label l no_name ≡ false → (scope : Scope) (before : Before) → sum_of (called l) (given scope before) ≡ count l (given_names scope)
given_named l e scope before =
    let ps : List ModulePort = filter is_in scope.ports in
    let whole = sum_of-append (called l) (map port_channel ps) (server_endpoints scope before) in
    let names = sum_of-append (hit l) (map out_label ps) (flat_map (given_by scope) scope.statements) in
    let ports : sum_of (called l) (map port_channel ps) ≡ count l (map out_label ps) = sum_of-map (called l) port_channel ps ∙ sym (sum_of-map (hit l) out_label ps) in
    let servers : sum_of (called l) (server_endpoints scope before) ≡ count l (flat_map (given_by scope) scope.statements)
    = sum_of-flat_map (called l) (server_channels scope before) scope.statements
    ∙ sum_same (λ s. sum_of (called l) (server_channels scope before s)) (λ s. count l (given_by scope s)) scope.statements (λ s c. server_names l e scope before s)
    ∙ sym (sum_of-flat_map (hit l) (given_by scope) scope.statements) in
    omega arith

pub made_count : (l : Label) → same_label l no_name ≡ false → (scope : Scope) (before : Before) (o : OrderedElement) (found : Option Statement) → sum_of (called l) (made_if scope before o found) ≡ count l (made_by scope found)
made_count l e scope before o None = refl
made_count l e scope before o (Some (S.Request at service port id)) = refl
made_count l e scope before o (Some (S.Instance at id body bindings)) =
    let ps : List ModulePort = filter is_out (instance_ports scope body) in
    let whole = sum_of-append (called l) (map (instance_channel id) ps) (replicate (endpoints_of before body).to_client (under_endpoint (client_label id))) in
    let none = nameless l (endpoints_of before body).to_client (under_endpoint (client_label id)) (no_hit l e) in
    let ports : sum_of (called l) (map (instance_channel id) ps) ≡ count l (map (instance_label id) ps) = sum_of-map (called l) (instance_channel id) ps ∙ sym (sum_of-map (hit l) (instance_label id) ps) in
    omega arith
made_count l e scope before o (Some (S.Channels at names operation)) =
    let whole = sum_of-append (called l) (replicate (o.count - 1) inner) (map name_channel names) in
    let none = nameless l (o.count - 1) inner (no_hit l e) in
    let own : sum_of (called l) (map name_channel names) ≡ count l (map own_label names) = sum_of-map (called l) name_channel names ∙ sym (sum_of-map (hit l) own_label names) in
    omega arith
made_count l e scope before o (Some (S.Drive at sink source)) = refl

pub channels_count : (l : Label) → same_label l no_name ≡ false → (scope : Scope) (before : Before) (elements : List Statement) (order : List OrderedElement)
    → sum_of (called l) (channels scope before elements order) ≡ count l (given_names scope ++ made_names scope elements order)
channels_count l e scope before elements order =
    let whole = sum_of-append (called l) (given scope before) (flat_map (made_at scope before elements) order) in
    let names = sum_of-append (hit l) (given_names scope) (made_names scope elements order) in
    let first = given_named l e scope before in
    let made : sum_of (called l) (flat_map (made_at scope before elements) order) ≡ count l (made_names scope elements order)
    = sum_of-flat_map (called l) (made_at scope before elements) order
    ∙ sum_same (λ (o : OrderedElement). sum_of (called l) (made_at scope before elements o)) (λ (o : OrderedElement). count l (made_by scope (slice_get elements o.number))) order (λ o c. made_count l e scope before o (slice_get elements o.number))
    ∙ sym (sum_of-flat_map (hit l) (λ (o : OrderedElement). made_by scope (slice_get elements o.number)) order) in
    omega arith

pub named_once : (scope : Scope) → IsKept scope → (before : Before) (order : List OrderedElement) → IsComplete (elements_of scope.statements) order → AreNamedOnce (channels scope before (elements_of scope.statements) order)
named_once scope k before order c = record { new = λ front after l split real. new front after l split real }
  where
    new : (front after : List Channel) (l : Label) → channels scope before (elements_of scope.statements) order ≡ front ++ under_name l ∷ after → same_label l no_name ≡ false → stands l (map name_of front) ≡ false
    new front after l split real =
        let all = channels_count l real scope before (elements_of scope.statements) order in
        let made = made_sum (hit l) scope order c in
        let once = source_once scope k l in
        let whole : sum_of (called l) (channels scope before (elements_of scope.statements) order) ≡ sum_of (called l) front + (hit l l + sum_of (called l) after)
        = ap (sum_of (called l)) split ∙ sum_of-append (called l) front (under_name l ∷ after) in
        let one = itself l in
        let names : count l (map name_of front) ≡ sum_of (called l) front = sum_of-map (hit l) name_of front in
        count_absent l (map name_of front) (omega arith)

-- ---- instances
instance_none : (f : Statement → ℕ) (s : Statement) → is_element s ≡ false → sum_of f (instance_if (Some s)) ≡ 0
instance_none f (S.Request at service port id) e = refl
instance_none f (S.Instance at id body bindings) e = absurd (false≢true (sym e))
instance_none f (S.Channels at names operation) e = refl
instance_none f (S.Drive at sink source) e = refl

pub instances_along : (scope : Scope) (order : List OrderedElement) → IsComplete (elements_of scope.statements) order → (f : Statement → ℕ)
    → sum_of f (flat_map (instance_at (elements_of scope.statements)) order) ≡ sum_of f (flat_map instance_in scope.statements)
instances_along scope order c f = parts_sum f instance_if (instance_none f) scope.statements order c

labels_least : (l : Label) (s : Statement) → count l (instance_labels_of s) ≤ sum_of (λ (o : Occurrence). hit l (label_at o)) (ids_of s)
labels_least l (S.Request at service port id) = omega arith
labels_least l (S.Instance at id body bindings) = omega arith
labels_least l (S.Channels at names operation) = omega arith
labels_least l (S.Drive at sink source) = omega arith

instance_once : (scope : Scope) → IsKept scope → (l : Label) → count l (instance_labels scope.statements) ≤ 1
instance_once scope k l =
    let ss : List Statement = scope.statements in
    let labels = sum_of-flat_map (hit l) instance_labels_of ss in
    let least = sum_least (λ s. count l (instance_labels_of s)) (λ s. sum_of (λ (o : Occurrence). hit l (label_at o)) (ids_of s)) ss (λ s c. labels_least l s) in
    let ids : count l (map label_at (flat_map ids_of ss)) ≡ sum_of (λ s. sum_of (λ (o : Occurrence). hit l (label_at o)) (ids_of s)) ss
    = sum_of-map (hit l) label_at (flat_map ids_of ss) ∙ sum_of-flat_map (λ (o : Occurrence). hit l (label_at o)) ids_of ss in
    let once = k.ids l in
    omega arith

pub instances_apart : (scope : Scope) → IsKept scope → AreApart (instance_labels scope.statements)
instances_apart scope k = apart_from_count (instance_labels scope.statements) (instance_once scope k)

labels_none : (l : Label) (s : Statement) → is_element s ≡ false → count l (labels_if (Some s)) ≡ 0
labels_none l (S.Request at service port id) e = refl
labels_none l (S.Instance at id body bindings) e = absurd (false≢true (sym e))
labels_none l (S.Channels at names operation) e = refl
labels_none l (S.Drive at sink source) e = refl

pub ordered_apart : (scope : Scope) → IsKept scope → (order : List OrderedElement) → IsComplete (elements_of scope.statements) order → AreApart (flat_map (labels_at (elements_of scope.statements)) order)
ordered_apart scope k order c = apart_from_count (flat_map (labels_at (elements_of scope.statements)) order) once
  where
    once : (l : Label) → count l (flat_map (labels_at (elements_of scope.statements)) order) ≤ 1
    once l =
        let same : count l (flat_map (labels_at (elements_of scope.statements)) order) ≡ count l (instance_labels scope.statements) = parts_sum (hit l) labels_if (labels_none l) scope.statements order c in
        let one = instance_once scope k l in
        omega arith
