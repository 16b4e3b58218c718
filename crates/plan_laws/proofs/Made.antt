-- What is summed over the channels of a body: names, endpoints of instances, and channels between parts in a row.
use Rattle.std.proofs.Common.{◌≡◌, ℕ, ◌+◌, ◌-◌, false, List, [], ◌∷◌, ◌++◌, map, length, refl, ap, sym, ◌∙◌, subst, arith}
use Rattle.std.specs.Prelude.{Option, Some, None, filter, flat_map, replicate, slice_get, codes}
use Rattle.std.proofs.lemmas.List.{append_assoc, append-nil, length-replicate}
use Rattle.design_tree.specs.declared.leaves.ApplicationId.{ApplicationId}
use Rattle.design_tree.specs.declared.statements.Statement.{Statement}
use Rattle.design_tree.specs.declared.statements.Statement.TheVariants as S
use Rattle.name_tables.specs.Lists.{stands}
use Rattle.check_rules.specs.Scopes.{Scope, bundle_of}
use Rattle.check_rules.specs.References.{id_named}
use Rattle.check_rules.specs.Uses.{is_in, is_out}
use Rattle.body_order.specs.Makers.{instance_labels_of, instance_labels}
use Rattle.body_order.specs.Cycles.{AreApart}
use Rattle.flat_design.specs.Laying.{count_up}
use Rattle.flat_design.specs.FlatLaws.{total}
use Rattle.body_plans.specs.declared.ordered.OrderedElement.{OrderedElement}
use Rattle.body_plans.specs.Channels.{Channel, Before, endpoint_of, port_channel, instance_channel, name_channel, inner, under_endpoint, server_label, client_label, server_members, server_channels, endpoints_of, given, made_if, made_at, places_of}
use Rattle.body_plans.specs.Plans.{endpoint_places}
use Rattle.plan_laws.specs.Ahead.{member_sink, instance_ports}
use Rattle.plan_laws.specs.Blocks.{labels_if, labels_at}
use Rattle.plan_laws.specs.Once.{sum_of, given_by, instance_label, own_label, made_by, made_names, instance_in, instance_if, instance_at, AreNamedOnce}
use Rattle.plan_laws.proofs.Blocks.{new_behind, flat_map-append, no_port, in_neither, none_among, not_given, no_out, none_made}
use Rattle.plan_laws.proofs.Spans.{sum_of-append, span, span-append, at_name, named_span, block_span}

-- ---- sums over the endpoints of an instance
abbrev pub server_sum : (ℕ → ℕ) → List Channel → Before → Statement → ℕ
server_sum f all before (S.Request at service port id) = 0
server_sum f all before (S.Instance at id body bindings) = total f (endpoint_places (places_of all) (server_label id) (endpoints_of before body).to_server)
server_sum f all before (S.Channels at names operation) = 0
server_sum f all before (S.Drive at sink source) = 0

abbrev pub client_sum : (ℕ → ℕ) → List Channel → Before → Statement → ℕ
client_sum f all before (S.Request at service port id) = 0
client_sum f all before (S.Instance at id body bindings) = total f (endpoint_places (places_of all) (client_label id) (endpoints_of before body).to_client)
client_sum f all before (S.Channels at names operation) = 0
client_sum f all before (S.Drive at sink source) = 0

-- ---- lists in parts
longer : {A : Type 0} (all pre xs ys zs : List A) → all ≡ pre ++ ((xs ++ ys) ++ zs) → all ≡ (pre ++ xs) ++ (ys ++ zs)
longer all pre xs ys zs e = e ∙ ap (λ l. pre ++ l) (append_assoc xs ys zs) ∙ sym (append_assoc pre xs (ys ++ zs))

grown : {A : Type 0} (pre base xs ys : List A) → pre ≡ base ++ xs → pre ++ ys ≡ base ++ (xs ++ ys)
grown pre base xs ys e = ap (λ l. l ++ ys) e ∙ append_assoc base xs ys

one_more : {A B : Type 0} (f : A → List B) (front : List A) (x : A) → flat_map f front ++ f x ≡ flat_map f (front ++ x ∷ [])
one_more f front x = ap (λ l. flat_map f front ++ l) (sym (append-nil (f x))) ∙ sym (flat_map-append f front (x ∷ []))

plus_nothing : (m : ℕ) → m ≡ m + 0
plus_nothing m = omega arith

alone : (m : ℕ) → m ≡ 0 + (m + 0)
alone m = omega arith

-- ---- channels that the body is given
given_one : (f : ℕ → ℕ) (scope : Scope) (before : Before) (all pre after : List Channel) (front back : List Statement) (s : Statement) → AreNamedOnce all
    → pre ≡ map port_channel (filter is_in scope.ports) ++ flat_map (server_channels scope before) front → all ≡ pre ++ (server_channels scope before s ++ after) → AreApart (instance_labels (front ++ s ∷ back))
    → span f pre (server_channels scope before s) ≡ sum_of (at_name f all) (given_by scope s) + sum_of (server_sum f all before) (instance_in s)
given_one f scope before all pre after front back (S.Request at service port id) once is e apart =
    named_span (member_sink id) (λ m. refl) f all pre after (server_members (bundle_of scope service port)) once e ∙ plus_nothing (sum_of (at_name f all) (given_by scope (S.Request at service port id)))
given_one f scope before all pre after front back (S.Instance at id body bindings) once is e apart =
    let one : Statement = S.Instance at id body bindings in
    let new = new_behind (id_named id).label (instance_labels front) (instance_labels back) (subst AreApart (flat_map-append instance_labels_of front (one ∷ back)) apart) in
    let first = subst (λ cs. stands (server_label id) (map endpoint_of cs) ≡ false) (sym is)
    (in_neither (server_label id) (map port_channel (filter is_in scope.ports)) (flat_map (server_channels scope before) front) (no_port (codes "to_server") id (filter is_in scope.ports)) (none_among scope before id front new)) in
    block_span f all pre after (server_label id) (endpoints_of before body).to_server e first ∙ alone (server_sum f all before one)
given_one f scope before all pre after front back (S.Channels at names operation) once is e apart = refl
given_one f scope before all pre after front back (S.Drive at sink source) once is e apart = refl

pub given_span : (f : ℕ → ℕ) (scope : Scope) (before : Before) (all pre after : List Channel) (front back : List Statement) → AreNamedOnce all
    → pre ≡ map port_channel (filter is_in scope.ports) ++ flat_map (server_channels scope before) front → all ≡ pre ++ (flat_map (server_channels scope before) back ++ after) → AreApart (instance_labels (front ++ back))
    → span f pre (flat_map (server_channels scope before) back) ≡ sum_of (at_name f all) (flat_map (given_by scope) back) + sum_of (server_sum f all before) (flat_map instance_in back)
given_span f scope before all pre after front [] once is e apart = refl
given_span f scope before all pre after front (s ∷ back) once is e apart =
    let made : List Channel = server_channels scope before s in
    let rest : List Channel = flat_map (server_channels scope before) back in
    let split = span-append f pre made rest in
    let next = longer all pre made rest after e in
    let one = given_one f scope before all pre (rest ++ after) front back s once is (e ∙ ap (λ l. pre ++ l) (append_assoc made rest after)) apart in
    let more = given_span f scope before all (pre ++ made) after (front ++ s ∷ []) back once
    (grown pre (map port_channel (filter is_in scope.ports)) (flat_map (server_channels scope before) front) made is ∙ ap (λ l. map port_channel (filter is_in scope.ports) ++ l) (one_more (server_channels scope before) front s))
    next (subst (λ ss. AreApart (instance_labels ss)) (sym (append_assoc front (s ∷ []) back)) apart) in
    let names = sum_of-append (at_name f all) (given_by scope s) (flat_map (given_by scope) back) in
    let instances = sum_of-append (server_sum f all before) (instance_in s) (flat_map instance_in back) in
    omega arith

-- ---- channels that elements make
abbrev pub inner_sum : (ℕ → ℕ) → ℕ → OrderedElement → Option Statement → ℕ
inner_sum f at o None = 0
inner_sum f at o (Some (S.Request place service port id)) = 0
inner_sum f at o (Some (S.Instance place id body bindings)) = 0
inner_sum f at o (Some (S.Channels place names operation)) = total f (count_up at (o.count - 1))
inner_sum f at o (Some (S.Drive place sink source)) = 0

-- over the channels between parts in a row, along an order
abbrev pub inner_along : (ℕ → ℕ) → Scope → Before → List Statement → List Channel → List OrderedElement → ℕ
inner_along f scope before elements pre [] = 0
inner_along f scope before elements pre (o ∷ order) =
    inner_sum f (length pre) o (slice_get elements o.number) + inner_along f scope before elements (pre ++ made_at scope before elements o) order

made_one : (f : ℕ → ℕ) (scope : Scope) (before : Before) (all pre after : List Channel) (o : OrderedElement) (found : Option Statement) → AreNamedOnce all
    → ((id : ApplicationId) → labels_if found ≡ (id_named id).label ∷ [] → stands (client_label id) (map endpoint_of pre) ≡ false) → all ≡ pre ++ (made_if scope before o found ++ after)
    → span f pre (made_if scope before o found) ≡ sum_of (at_name f all) (made_by scope found) + sum_of (client_sum f all before) (instance_if found) + inner_sum f (length pre) o found
made_one f scope before all pre after o None once new e = refl
made_one f scope before all pre after o (Some (S.Request at service port id)) once new e = refl
made_one f scope before all pre after o (Some (S.Instance at id body bindings)) once new e =
    let outs : List Channel = map (instance_channel id) (filter is_out (instance_ports scope body)) in
    let block : List Channel = replicate (endpoints_of before body).to_client (under_endpoint (client_label id)) in
    let split = span-append f pre outs block in
    let named = named_span (instance_label id) (λ p. refl) f all pre (block ++ after) (filter is_out (instance_ports scope body)) once (e ∙ ap (λ l. pre ++ l) (append_assoc outs block after)) in
    let endpoints = block_span f all (pre ++ outs) after (client_label id) (endpoints_of before body).to_client (longer all pre outs block after e)
    (in_neither (client_label id) pre outs (new id refl) (no_out id id (filter is_out (instance_ports scope body)))) in
    omega arith
made_one f scope before all pre after o (Some (S.Channels at names operation)) once new e =
    let between : List Channel = replicate (o.count - 1) inner in
    let own : List Channel = map name_channel names in
    let split = span-append f pre between own in
    let count : span f pre between ≡ total f (count_up (length pre) (o.count - 1)) = ap (λ n. total f (count_up (length pre) n)) (length-replicate (o.count - 1) inner) in
    let named = named_span own_label (λ n. refl) f all (pre ++ between) after names once (longer all pre between own after e) in
    omega arith
made_one f scope before all pre after o (Some (S.Drive at sink source)) once new e = refl

pub made_span : (f : ℕ → ℕ) (scope : Scope) (before : Before) (elements : List Statement) (all pre : List Channel) (front back : List OrderedElement) → AreNamedOnce all
    → pre ≡ given scope before ++ flat_map (made_at scope before elements) front → all ≡ pre ++ flat_map (made_at scope before elements) back → AreApart (flat_map (labels_at elements) (front ++ back))
    → span f pre (flat_map (made_at scope before elements) back) ≡ sum_of (at_name f all) (made_names scope elements back) + sum_of (client_sum f all before) (flat_map (instance_at elements) back) + inner_along f scope before elements pre back
made_span f scope before elements all pre front [] once is e apart = refl
made_span f scope before elements all pre front (o ∷ back) once is e apart =
    let made : List Channel = made_at scope before elements o in
    let rest : List Channel = flat_map (made_at scope before elements) back in
    let found : Option Statement = slice_get elements o.number in
    let split = span-append f pre made rest in
    let new : (id : ApplicationId) → labels_if found ≡ (id_named id).label ∷ [] → stands (client_label id) (map endpoint_of pre) ≡ false
    = λ id label.
    subst (λ cs. stands (client_label id) (map endpoint_of cs) ≡ false) (sym is)
    (in_neither (client_label id) (given scope before) (flat_map (made_at scope before elements) front) (not_given scope before id)
    (none_made scope before elements id front (new_behind (id_named id).label (flat_map (labels_at elements) front) (flat_map (labels_at elements) back)
    (subst AreApart (flat_map-append (labels_at elements) front (o ∷ back) ∙ ap (λ ls. flat_map (labels_at elements) front ++ (ls ++ flat_map (labels_at elements) back)) label) apart)))) in
    let one = made_one f scope before all pre rest o found once new e in
    let more = made_span f scope before elements all (pre ++ made) (front ++ o ∷ []) back once
    (grown pre (given scope before) (flat_map (made_at scope before elements) front) made is ∙ ap (λ l. given scope before ++ l) (one_more (made_at scope before elements) front o))
    (e ∙ sym (append_assoc pre made rest)) (subst (λ os. AreApart (flat_map (labels_at elements) os)) (sym (append_assoc front (o ∷ []) back)) apart) in
    let names = sum_of-append (at_name f all) (made_by scope found) (made_names scope elements back) in
    let instances = sum_of-append (client_sum f all before) (instance_if found) (flat_map (instance_at elements) back) in
    omega arith
