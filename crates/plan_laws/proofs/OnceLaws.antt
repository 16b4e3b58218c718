-- The plan of a body each of whose names is used once is good.
use Rattle.std.proofs.Common.{◌≡◌, ℕ, ◌+◌, List, [], ◌++◌, map, length, refl, sym, arith}
use Rattle.std.specs.Prelude.{filter, flat_map}
use Rattle.std.proofs.lemmas.List.{append_assoc, append-nil}
use Rattle.design_tree.specs.declared.statements.Statement.{Statement}
use Rattle.check_rules.specs.Scopes.{Scope}
use Rattle.check_rules.specs.Uses.{is_in, is_out}
use Rattle.flat_design.specs.declared.plan.Plan.{Plan}
use Rattle.flat_design.specs.Laying.{count_up}
use Rattle.flat_design.specs.FlatLaws.{total, sources_of}
use Rattle.body_plans.specs.declared.ordered.OrderedElement.{OrderedElement}
use Rattle.body_plans.specs.Channels.{Channel, Before, port_channel, server_endpoints, given, made_at, places_of, channels}
use Rattle.body_plans.specs.Plans.{Drives, drives_of, steps_along, port_places, client_endpoints, plan_of}
use Rattle.plan_laws.specs.Ahead.{out_label, IsAheadBody}
use Rattle.plan_laws.specs.Once.{sum_of, given_by, given_names, made_names, taken_names, driver_label, handed_by, handed_names, instance_in, instance_at, IsOnceBody, EachPlan}
use Rattle.plan_laws.proofs.AheadLaws.{each_ahead}
use Rattle.plan_laws.proofs.Spans.{total-append, sum_of-append, span-append, at_name, named_span}
use Rattle.plan_laws.proofs.Made.{server_sum, client_sum, inner_along, given_span, made_span}
use Rattle.plan_laws.proofs.Used.{steps_total, drivers_total, clients_total}

-- over all channels of a body
channels_total : (f : ℕ → ℕ) (plans : List Plan) (takes : ℕ → ℕ) (k : ℕ) (scope : Scope) (before : Before) (elements : List Statement) (order : List OrderedElement) → IsOnceBody plans takes k scope before elements order
    → total f (count_up 0 (length (channels scope before elements order)))
    ≡ sum_of (at_name f (channels scope before elements order)) (given_names scope ++ made_names scope elements order)
    + sum_of (server_sum f (channels scope before elements order) before) (flat_map instance_in scope.statements)
    + sum_of (client_sum f (channels scope before elements order) before) (flat_map (instance_at elements) order)
    + inner_along f scope before elements (given scope before) order
channels_total f plans takes k scope before elements order h =
    let all : List Channel = channels scope before elements order in
    let ports : List Channel = map port_channel (filter is_in scope.ports) in
    let servers : List Channel = server_endpoints scope before in
    let made : List Channel = flat_map (made_at scope before elements) order in
    let whole = span-append f [] (given scope before) made in
    let front = span-append f [] ports servers in
    let whole_is : all ≡ ports ++ (servers ++ made) = append_assoc ports servers made in
    let ports_are = named_span out_label (λ p. refl) f all [] (servers ++ made) (filter is_in scope.ports) h.names whole_is in
    let servers_are = given_span f scope before all ports made [] scope.statements h.names (sym (append-nil ports)) whole_is h.apart in
    let made_are = made_span f scope before elements all (given scope before) [] order h.names (sym (append-nil (given scope before))) refl h.ordered_apart in
    let given_are = sum_of-append (at_name f all) (map out_label (filter is_in scope.ports)) (flat_map (given_by scope) scope.statements) in
    let names = sum_of-append (at_name f all) (given_names scope) (made_names scope elements order) in
    omega arith

-- over all uses
uses_total : (f : ℕ → ℕ) (plans : List Plan) (takes : ℕ → ℕ) (k : ℕ) (scope : Scope) (before : Before) (elements : List Statement) (order : List OrderedElement) → IsAheadBody plans takes k scope before elements order
    → total f (flat_map sources_of (plan_of scope before elements order).plan.steps ++ (plan_of scope before elements order).plan.outs)
    ≡ sum_of (at_name f (channels scope before elements order)) (taken_names scope elements order ++ handed_names scope (drives_of scope.statements))
    + sum_of (server_sum f (channels scope before elements order) before) (flat_map (instance_at elements) order)
    + sum_of (client_sum f (channels scope before elements order) before) (flat_map instance_in scope.statements)
    + inner_along f scope before elements (given scope before) order
uses_total f plans takes k scope before elements order h =
    let all : List Channel = channels scope before elements order in
    let drives : Drives = drives_of scope.statements in
    let steps = steps_along scope before elements (places_of all) (given scope before) order in
    let ports : List ℕ = port_places (places_of all) drives scope.ports in
    let clients : List ℕ = client_endpoints scope before (places_of all) drives in
    let whole = total-append f (flat_map sources_of steps) (ports ++ clients) in
    let outs = total-append f ports clients in
    let steps_are = steps_total f plans takes k scope before elements all (given scope before) order h.ahead in
    let ports_are = drivers_total out_label f all drives (filter is_out scope.ports) h.ports in
    let clients_are = clients_total f scope before all drives scope.statements h.clients in
    let handed = sum_of-append (at_name f all) (map (λ p. driver_label drives (out_label p)) (filter is_out scope.ports)) (flat_map (handed_by scope drives) scope.statements) in
    let names = sum_of-append (at_name f all) (taken_names scope elements order) (handed_names scope drives) in
    omega arith

pub each_plan : EachPlan
each_plan plans takes k scope before elements order h =
    let all : List Channel = channels scope before elements order in
    let numbered = each_ahead plans takes k scope before elements order h.ahead in
    record {
      channels = length all;
      steps = numbered.steps;
      outs = numbered.outs;
      once = λ f.
          let uses = uses_total f plans takes k scope before elements order h.ahead in
          let places = channels_total f plans takes k scope before elements order h in
          let used = h.used (at_name f all) in
          let servers = h.instances (server_sum f all before) in
          let clients = h.instances (client_sum f all before) in
          omega arith;
    }
