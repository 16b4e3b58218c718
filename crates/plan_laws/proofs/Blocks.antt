-- The endpoints of an instance to the server stand together.
use Rattle.std.proofs.Common.{◌≡◌, ℕ, zero, suc, ◌-◌, Bool, true, false, List, [], ◌∷◌, ◌++◌, map, refl, ap, sym, ◌∙◌, subst}
use Rattle.std.specs.Prelude.{◌||◌, ◌&&◌, Option, Some, None, slice_get, filter, flat_map, replicate, bytes_eq, codes}
use Rattle.std.proofs.lemmas.Bool.{false≢true, or_parts}
use Rattle.std.proofs.lemmas.List.{append_assoc, map-append}
use Rattle.design_tree.specs.declared.leaves.Name.{Name}
use Rattle.design_tree.specs.declared.leaves.ApplicationId.{ApplicationId}
use Rattle.design_tree.specs.declared.statements.Statement.{Statement}
use Rattle.design_tree.specs.declared.statements.Statement.TheVariants as S
use Rattle.design_tree.specs.declared.declarations.Member.{Member}
use Rattle.design_tree.specs.declared.declarations.ModulePort.{ModulePort}
use Rattle.name_tables.specs.Labels.{Label, same_index, same_label}
use Rattle.name_tables.specs.Lists.{stands}
use Rattle.name_tables.specs.LabelLaws.{same_label-sym}
use Rattle.name_tables.specs.ListLaws.{stands-append}
use Rattle.check_rules.specs.Scopes.{Scope, bundle_of}
use Rattle.check_rules.specs.References.{id_named}
use Rattle.check_rules.specs.Uses.{is_in, is_out}
use Rattle.body_order.specs.Makers.{instance_labels_of, instance_labels}
use Rattle.body_order.specs.Cycles.{AreApart}
use Rattle.body_plans.specs.declared.ordered.OrderedElement.{OrderedElement}
use Rattle.body_plans.specs.Channels.{Channel, Before, endpoint_of, port_channel, member_channel, instance_channel, name_channel, inner, under_endpoint, server_label, client_label, server_members, server_channels, server_endpoints, endpoints_of, given, made_if, made_at}
use Rattle.plan_laws.specs.Ahead.{instance_ports}
use Rattle.plan_laws.specs.Blocks.{EachServed, labels_if, labels_at, EachClient}

-- ---- names that are apart
other_at : (x l : Label) (xs ys : List Label) → stands x (xs ++ l ∷ ys) ≡ false → same_label x l ≡ false
other_at x l [] ys e = (or_parts (same_label x l) (stands x ys) e).0
other_at x l (y ∷ xs) ys e = other_at x l xs ys (or_parts (same_label x y) (stands x (xs ++ l ∷ ys)) e).1

-- none before it is this one
pub new_behind : (l : Label) (xs ys : List Label) → AreApart (xs ++ l ∷ ys) → stands l xs ≡ false
new_behind l [] ys h = refl
new_behind l (x ∷ xs) ys h =
    ap (λ b. b || stands l xs) (same_label-sym l x ∙ other_at x l xs ys h.0) ∙ new_behind l xs ys h.1

pub flat_map-append : {A B : Type 0} (f : A → List B) (xs ys : List A) → flat_map f (xs ++ ys) ≡ flat_map f xs ++ flat_map f ys
flat_map-append f [] ys = refl
flat_map-append f (x ∷ xs) ys = ap (λ r. f x ++ r) (flat_map-append f xs ys) ∙ sym (append_assoc (f x) (flat_map f xs) (flat_map f ys))

-- ---- endpoints of others
-- an endpoint of an instance, on the side of a word
abbrev side : List ℕ → ApplicationId → Label
side word id = record { owner = Some id.name.octets; index = id.index; name = word }

pub no_port : (word : List ℕ) (id : ApplicationId) (ps : List ModulePort) → stands (side word id) (map endpoint_of (map port_channel ps)) ≡ false
no_port word id [] = refl
no_port word id (p ∷ ps) = no_port word id ps

no_member : (word : List ℕ) (id own : ApplicationId) (ms : List Member) → stands (side word id) (map endpoint_of (map (member_channel own) ms)) ≡ false
no_member word id own [] = refl
no_member word id own (m ∷ ms) = no_member word id own ms

swapped : (a b c : Bool) → (a && b) ≡ false → (b && (a && c)) ≡ false
swapped true true c e = absurd (false≢true (sym e))
swapped true false c e = refl
swapped false true c e = refl
swapped false false c e = refl

other_side : (word : List ℕ) (id own : ApplicationId) → same_label (id_named id).label (id_named own).label ≡ false → same_label (side word id) (side word own) ≡ false
other_side word id own e = swapped (same_index id.index own.index) (bytes_eq id.name.octets own.name.octets) (bytes_eq word word) e

no_copy : (one other : Label) (n : ℕ) → same_label one other ≡ false → stands one (map endpoint_of (replicate n (under_endpoint other))) ≡ false
no_copy one other zero e = refl
no_copy one other (suc n) e = ap (λ b. b || stands one (map endpoint_of (replicate n (under_endpoint other)))) e ∙ no_copy one other n e

-- what stands in neither of two lists of channels
pub in_neither : (label : Label) (xs ys : List Channel) → stands label (map endpoint_of xs) ≡ false → stands label (map endpoint_of ys) ≡ false → stands label (map endpoint_of (xs ++ ys)) ≡ false
in_neither label xs ys a b =
    ap (stands label) (map-append endpoint_of xs ys) ∙ stands-append label (map endpoint_of xs) (map endpoint_of ys) ∙ ap (λ t. t || stands label (map endpoint_of ys)) a ∙ b

-- the labels of a first list and of others are none of these
first_parts : (label : Label) (xs ys : List Label) → stands label (xs ++ ys) ≡ false → (stands label xs ≡ false) × (stands label ys ≡ false)
first_parts label xs ys e = or_parts (stands label xs) (stands label ys) (sym (stands-append label xs ys) ∙ e)

-- ---- endpoints to the server
none_by : (scope : Scope) (before : Before) (id : ApplicationId) (s : Statement) → stands (id_named id).label (instance_labels_of s) ≡ false → stands (server_label id) (map endpoint_of (server_channels scope before s)) ≡ false
none_by scope before id (S.Request at service port own) e = no_member (codes "to_server") id own (server_members (bundle_of scope service port))
none_by scope before id (S.Instance at own body bindings) e =
    no_copy (server_label id) (server_label own) (endpoints_of before body).to_server (other_side (codes "to_server") id own (or_parts (same_label (id_named id).label (id_named own).label) false e).0)
none_by scope before id (S.Channels at names operation) e = refl
none_by scope before id (S.Drive at sink source) e = refl

pub none_among : (scope : Scope) (before : Before) (id : ApplicationId) (ss : List Statement) → stands (id_named id).label (instance_labels ss) ≡ false
    → stands (server_label id) (map endpoint_of (flat_map (server_channels scope before) ss)) ≡ false
none_among scope before id [] e = refl
none_among scope before id (s ∷ ss) e =
    let parts = first_parts (id_named id).label (instance_labels_of s) (instance_labels ss) e in
    in_neither (server_label id) (server_channels scope before s) (flat_map (server_channels scope before) ss) (none_by scope before id s parts.0) (none_among scope before id ss parts.1)

pub each_served : EachServed
each_served scope before front back at id body bindings e apart =
    let one : Statement = S.Instance at id body bindings in
    let ports : List Channel = map port_channel (filter is_in scope.ports) in
    let ahead : List Channel = flat_map (server_channels scope before) front in
    let later : List Channel = flat_map (server_channels scope before) back in
    let block : List Channel = replicate (endpoints_of before body).to_server (under_endpoint (server_label id)) in
    let new = new_behind (id_named id).label (instance_labels front) (instance_labels back)
    (subst AreApart (ap instance_labels e ∙ flat_map-append instance_labels_of front (one ∷ back)) apart) in
    record {
      before = ports ++ ahead;
      after = later;
      split = ap (λ ss. ports ++ flat_map (server_channels scope before) ss) e ∙ ap (λ cs. ports ++ cs) (flat_map-append (server_channels scope before) front (one ∷ back)) ∙ sym (append_assoc ports ahead (block ++ later));
      first = in_neither (server_label id) ports ahead (no_port (codes "to_server") id (filter is_in scope.ports)) (none_among scope before id front new);
    }

-- ---- endpoints to the client
words_differ : (a b : Bool) → (a && (b && bytes_eq (codes "to_client") (codes "to_server"))) ≡ false
words_differ true true = refl
words_differ true false = refl
words_differ false b = refl

other_word : (id own : ApplicationId) → same_label (client_label id) (server_label own) ≡ false
other_word id own = words_differ (bytes_eq id.name.octets own.name.octets) (same_index id.index own.index)

not_given_by : (scope : Scope) (before : Before) (id : ApplicationId) (s : Statement) → stands (client_label id) (map endpoint_of (server_channels scope before s)) ≡ false
not_given_by scope before id (S.Request at service port own) = no_member (codes "to_client") id own (server_members (bundle_of scope service port))
not_given_by scope before id (S.Instance at own body bindings) = no_copy (client_label id) (server_label own) (endpoints_of before body).to_server (other_word id own)
not_given_by scope before id (S.Channels at names operation) = refl
not_given_by scope before id (S.Drive at sink source) = refl

not_given_among : (scope : Scope) (before : Before) (id : ApplicationId) (ss : List Statement) → stands (client_label id) (map endpoint_of (flat_map (server_channels scope before) ss)) ≡ false
not_given_among scope before id [] = refl
not_given_among scope before id (s ∷ ss) =
    in_neither (client_label id) (server_channels scope before s) (flat_map (server_channels scope before) ss) (not_given_by scope before id s) (not_given_among scope before id ss)

pub not_given : (scope : Scope) (before : Before) (id : ApplicationId) → stands (client_label id) (map endpoint_of (given scope before)) ≡ false
not_given scope before id =
    in_neither (client_label id) (map port_channel (filter is_in scope.ports)) (server_endpoints scope before) (no_port (codes "to_client") id (filter is_in scope.ports)) (not_given_among scope before id scope.statements)

pub no_out : (id own : ApplicationId) (ps : List ModulePort) → stands (client_label id) (map endpoint_of (map (instance_channel own) ps)) ≡ false
no_out id own [] = refl
no_out id own (p ∷ ps) = no_out id own ps

no_inner : (id : ApplicationId) (n : ℕ) → stands (client_label id) (map endpoint_of (replicate n inner)) ≡ false
no_inner id zero = refl
no_inner id (suc n) = no_inner id n

no_name_among : (id : ApplicationId) (names : List Name) → stands (client_label id) (map endpoint_of (map name_channel names)) ≡ false
no_name_among id [] = refl
no_name_among id (n ∷ ns) = no_name_among id ns

none_made_by : (scope : Scope) (before : Before) (o : OrderedElement) (id : ApplicationId) (found : Option Statement) → stands (id_named id).label (labels_if found) ≡ false
    → stands (client_label id) (map endpoint_of (made_if scope before o found)) ≡ false
none_made_by scope before o id None e = refl
none_made_by scope before o id (Some (S.Request at service port own)) e = refl
none_made_by scope before o id (Some (S.Instance at own body bindings)) e =
    in_neither (client_label id) (map (instance_channel own) (filter is_out (instance_ports scope body))) (replicate (endpoints_of before body).to_client (under_endpoint (client_label own))) (no_out id own (filter is_out (instance_ports scope body)))
    (no_copy (client_label id) (client_label own) (endpoints_of before body).to_client (other_side (codes "to_client") id own (or_parts (same_label (id_named id).label (id_named own).label) false e).0))
none_made_by scope before o id (Some (S.Channels at names operation)) e = in_neither (client_label id) (replicate (o.count - 1) inner) (map name_channel names) (no_inner id (o.count - 1)) (no_name_among id names)
none_made_by scope before o id (Some (S.Drive at sink source)) e = refl

pub none_made : (scope : Scope) (before : Before) (elements : List Statement) (id : ApplicationId) (order : List OrderedElement) → stands (id_named id).label (flat_map (labels_at elements) order) ≡ false
    → stands (client_label id) (map endpoint_of (flat_map (made_at scope before elements) order)) ≡ false
none_made scope before elements id [] e = refl
none_made scope before elements id (o ∷ order) e =
    let parts = first_parts (id_named id).label (labels_at elements o) (flat_map (labels_at elements) order) e in
    in_neither (client_label id) (made_at scope before elements o) (flat_map (made_at scope before elements) order) (none_made_by scope before o id (slice_get elements o.number) parts.0) (none_made scope before elements id order parts.1)

pub each_client : EachClient
each_client scope before elements front back o at id body bindings found apart =
    let ahead : List Channel = flat_map (made_at scope before elements) front in
    let later : List Channel = flat_map (made_at scope before elements) back in
    let outs : List Channel = map (instance_channel id) (filter is_out (instance_ports scope body)) in
    let block : List Channel = replicate (endpoints_of before body).to_client (under_endpoint (client_label id)) in
    let made : made_at scope before elements o ≡ outs ++ block = ap (made_if scope before o) found in
    let label : labels_at elements o ≡ (id_named id).label ∷ [] = ap labels_if found in
    let new = new_behind (id_named id).label (flat_map (labels_at elements) front) (flat_map (labels_at elements) back)
    (subst AreApart (flat_map-append (labels_at elements) front (o ∷ back) ∙ ap (λ ls. flat_map (labels_at elements) front ++ (ls ++ flat_map (labels_at elements) back)) label) apart) in
    let whole : given scope before ++ flat_map (made_at scope before elements) (front ++ o ∷ back) ≡ (given scope before ++ ahead) ++ ((outs ++ block) ++ later)
    = ap (λ cs. given scope before ++ cs) (flat_map-append (made_at scope before elements) front (o ∷ back) ∙ ap (λ cs. ahead ++ (cs ++ later)) made) ∙ sym (append_assoc (given scope before) ahead ((outs ++ block) ++ later)) in
    record {
      before = (given scope before ++ ahead) ++ outs;
      after = later;
      split = whole ∙ ap (λ cs. (given scope before ++ ahead) ++ cs) (append_assoc outs block later) ∙ sym (append_assoc (given scope before ++ ahead) outs (block ++ later));
      first = in_neither (client_label id) (given scope before ++ ahead) outs (in_neither (client_label id) (given scope before) ahead (not_given scope before id) (none_made scope before elements id front new)) (no_out id id (filter is_out (instance_ports scope body)));
    }
