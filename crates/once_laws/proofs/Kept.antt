-- What the rules on names keep of a body, and what its references are to.
use Rattle.std.proofs.Common.{◌≡◌, ℕ, ◌≤◌, Bool, true, false, List, [], ◌∷◌, ◌++◌, Option, Some, None, map, refl, ap, sym, ◌∙◌, subst, inl, inr}
use Rattle.std.specs.Prelude.{◌&&◌, ◌||◌, Contains, cond, find, filter, flat_map, if◌then◌else◌}
use Rattle.std.proofs.lemmas.Bool.{false≢true, cases_Bool, or_cases, and_parts, and_from}
use Rattle.std.proofs.lemmas.List.{map-append}
use Rattle.std.proofs.lemmas.Option.{same_Some}
use Rattle.design_tree.specs.declared.leaves.Name.{Name}
use Rattle.design_tree.specs.declared.leaves.ApplicationId.{ApplicationId}
use Rattle.design_tree.specs.declared.leaves.Reference.{Reference}
use Rattle.design_tree.specs.declared.leaves.Reference.TheVariants as R
use Rattle.design_tree.specs.declared.statements.Binding.{Binding}
use Rattle.design_tree.specs.declared.statements.Statement.{Statement}
use Rattle.design_tree.specs.declared.statements.Statement.TheVariants as S
use Rattle.design_tree.specs.declared.declarations.Member.{Member}
use Rattle.design_tree.specs.declared.declarations.Bundle.{Bundle}
use Rattle.design_tree.specs.declared.declarations.ServicePort.{ServicePort}
use Rattle.design_tree.specs.declared.declarations.Service.{Service}
use Rattle.design_tree.specs.declared.declarations.ModulePort.{ModulePort}
use Rattle.design_tree.specs.declared.declarations.Module.{Module}
use Rattle.name_tables.specs.Labels.{Label, label_at, same_index, same_label}
use Rattle.name_tables.specs.Lists.{stands}
use Rattle.name_tables.specs.ListLaws.{stands-append}
use Rattle.name_tables.specs.PlaceLaws.{contains_here, contains_later}
use Rattle.check_rules.specs.declared.referent.Referent.TheVariants as K
use Rattle.check_rules.specs.declared.referent.Resolution.TheVariants.{To, Undeclared}
use Rattle.check_rules.specs.Scopes.{Scope, is_name, is_id, declares, and_then, bundle_of, find_bundle, find_service, find_service_port, find_module, find_member, find_port, find_id}
use Rattle.check_rules.specs.References.{named, part_label, reference_label, reference_place, sources_of, references_of, channels_of, is_among, member_referent, port_referent, instance_referent, own_name, member_of, port_of, part_of, resolve}
use Rattle.check_rules.specs.DeclaredTwice.{member_named, port_named, ids_of}
use Rattle.check_rules.specs.Undeclared.{look_up, no_more, service_undeclared, names_undeclared, variables_undeclared, undeclared_in, references_undeclared, statement_undeclared}
use Rattle.check_rules.specs.Directions.{is_source, is_sink, unless, wrong_sources, wrong_sinks, bound_out, bound_outs, ports_of, statement_directions}
use Rattle.check_rules.specs.Uses.{used_in, due_in, is_in, is_out}
use Rattle.body_plans.specs.Channels.{is_to_server, is_to_client, server_members, client_members}
use Rattle.body_plans.specs.Plans.{binding_label}
use Rattle.plan_laws.specs.Ahead.{out_label, member_sink, instance_ports}
use Rattle.plan_laws.specs.Once.{given_by, given_names, instance_label, own_label, made_by}
use Rattle.once_laws.proofs.Sums.{count, stands_left, stands_right, in_flat_stands, nil_parts, flat_nil}
use Rattle.once_laws.proofs.Sides.{member_source, member_drive, port_source, port_drive, instance_source, instance_drive, bound_in_port, unless_true, find_stands}

-- What the rules keep of a body: each name once, each use once, all that is due is used, all that is looked up is found, and
-- goes the right way.
pub record IsKept (scope : Scope) : Type 0 where
  pub own : (l : Label) → count l (map label_at (map port_named scope.ports ++ map named (flat_map channels_of scope.statements))) ≤ 1
  pub ids : (l : Label) → count l (map label_at (flat_map ids_of scope.statements)) ≤ 1
  pub members : (service port : Name) (b : Bundle) → bundle_of scope service port ≡ Some b → (l : Label) → count l (map label_at (map member_named b.members)) ≤ 1
  pub ports : (body : Name) (m : Module) → find_module body scope.modules ≡ Some m → (l : Label) → count l (map label_at (map port_named m.ports)) ≤ 1
  pub used : (l : Label) → count l (map label_at (used_in scope)) ≤ 1
  pub bound : (at : ℕ) (id : ApplicationId) (body : Name) (bindings : List Binding) → Contains scope.statements (S.Instance at id body bindings) → (l : Label) → count l (map binding_label bindings) ≤ 1
  pub due : (l : Label) → stands l (map label_at (due_in scope)) ≡ true → stands l (map label_at (used_in scope)) ≡ true
  pub binds : (at : ℕ) (id : ApplicationId) (body : Name) (bindings : List Binding) → Contains scope.statements (S.Instance at id body bindings)
      → (l : Label) → stands l (map out_label (filter is_in (instance_ports scope body))) ≡ true → stands l (map binding_label bindings) ≡ true
  pub known : (s : Statement) → Contains scope.statements s → statement_undeclared scope s ≡ []
  pub ways : (s : Statement) → Contains scope.statements s → statement_directions scope s ≡ []
  pub bundles : (service : Name) (f : Service) → find_service service scope.services ≡ Some f → service_undeclared scope.bundles f ≡ []

-- ---- what may be taken, and what may be driven
abbrev pub made_one : Scope → Statement → List Label
made_one scope s = made_by scope (Some s)

abbrev pub source_names : Scope → List Label
source_names scope = given_names scope ++ flat_map (made_one scope) scope.statements

abbrev pub sinks_by : Scope → Statement → List Label
sinks_by scope (S.Request at service port id) = map (member_sink id) (client_members (bundle_of scope service port))
sinks_by scope (S.Instance at id body bindings) = []
sinks_by scope (S.Channels at names operation) = []
sinks_by scope (S.Drive at sink source) = []

abbrev pub sink_names : Scope → List Label
sink_names scope = map out_label (filter is_out scope.ports) ++ flat_map (sinks_by scope) scope.statements

-- ---- what is found
pub find_contains : {A : Type 0} (test : A → Bool) (xs : List A) (x : A) → find test xs ≡ Some x → Contains xs x × (test x ≡ true)
find_contains test [] x e = absurd (cc)
find_contains test (y ∷ ys) x e =
    elim (cases_Bool (test y)) [
      | inl t ↦
          let is : y ≡ x = same_Some y x (sym (ap (λ b. cond b (Some y) (find test ys)) t) ∙ e) in
          (subst (λ q. Contains (y ∷ ys) q) is (contains_here y ys), ap test (sym is) ∙ t)
      | inr f ↦
          let more = find_contains test ys x (sym (ap (λ b. cond b (Some y) (find test ys)) f) ∙ e) in
          (contains_later y ys x more.0, more.1)
    ]

none_found : (name : Name) (b : Bundle) → find_member name b.members ≡ None → member_of name (Some b) ≡ Undeclared name.at
none_found name b e = rw e refl

one_found : (name : Name) (b : Bundle) (m : Member) → find_member name b.members ≡ Some m → member_of name (Some b) ≡ To (member_referent m)
one_found name b m e = rw e refl

no_port_found : (name : Name) (m : Module) → find_port name m.ports ≡ None → port_of name (Some m) ≡ Undeclared name.at
no_port_found name m e = rw e refl

port_found : (name : Name) (m : Module) (p : ModulePort) → find_port name m.ports ≡ Some p → port_of name (Some m) ≡ To (instance_referent p)
port_found name m p e = rw e refl

-- the rules of a statement, in parts
undeclared_names : (scope : Scope) (s : Statement) → statement_undeclared scope s ≡ [] → names_undeclared scope s ≡ []
undeclared_names scope s e = (nil_parts (names_undeclared scope s) (variables_undeclared s) (nil_parts (names_undeclared scope s ++ variables_undeclared s) (references_undeclared scope s) e).0).0

undeclared_references : (scope : Scope) (s : Statement) → statement_undeclared scope s ≡ [] → references_undeclared scope s ≡ []
undeclared_references scope s e = (nil_parts (names_undeclared scope s ++ variables_undeclared s) (references_undeclared scope s) e).1

source_ways : (scope : Scope) (s : Statement) → statement_directions scope s ≡ [] → wrong_sources scope s ≡ []
source_ways scope s e = (nil_parts (wrong_sources scope s) (wrong_sinks scope s) (nil_parts (wrong_sources scope s ++ wrong_sinks scope s) (bound_outs scope s) e).0).0

sink_ways : (scope : Scope) (s : Statement) → statement_directions scope s ≡ [] → wrong_sinks scope s ≡ []
sink_ways scope s e = (nil_parts (wrong_sources scope s) (wrong_sinks scope s) (nil_parts (wrong_sources scope s ++ wrong_sinks scope s) (bound_outs scope s) e).0).1

bound_ways : (scope : Scope) (s : Statement) → statement_directions scope s ≡ [] → bound_outs scope s ≡ []
bound_ways scope s e = (nil_parts (wrong_sources scope s ++ wrong_sinks scope s) (bound_outs scope s) e).1

-- the bundle of a request
pub request_bundle : (scope : Scope) → IsKept scope → (at : ℕ) (service port : Name) (id : ApplicationId) → Contains scope.statements (S.Request at service port id) → (b : Bundle) × (bundle_of scope service port ≡ Some b)
request_bundle scope k at service port id c = of_service (find_service service scope.services) refl (undeclared_names scope (S.Request at service port id) (k.known (S.Request at service port id) c))
  where
    of_bundle : (p : ServicePort) (o : Option Bundle) → look_up p.bundle o no_more ≡ [] → (b : Bundle) × (o ≡ Some b)
    of_bundle p None h = absurd (cc)
    of_bundle p (Some b) h = (b, refl)

    of_port : (f : Service) → find_service service scope.services ≡ Some f → (o : Option ServicePort) → find_service_port port f.ports ≡ o → look_up port o no_more ≡ []
        → (b : Bundle) × (and_then o (λ (p : ServicePort). find_bundle p.bundle scope.bundles) ≡ Some b)
    of_port f e None is h = absurd (cc)
    of_port f e (Some p) is h =
        of_bundle p (find_bundle p.bundle scope.bundles)
        (flat_nil (λ (q : ServicePort). look_up q.bundle (find_bundle q.bundle scope.bundles) no_more) f.ports p (find_contains (λ (q : ServicePort). is_name port q.name) f.ports p is).0 (k.bundles service f e))

    of_service : (o : Option Service) → find_service service scope.services ≡ o → look_up service o (λ (s : Service). look_up port (find_service_port port s.ports) no_more) ≡ []
        → (b : Bundle) × (and_then o (λ (s : Service). and_then (find_service_port port s.ports) (λ (p : ServicePort). find_bundle p.bundle scope.bundles)) ≡ Some b)
    of_service None e h = absurd (cc)
    of_service (Some f) e h = of_port f e (find_service_port port f.ports) refl h

-- the module of an instance, whose `in` ports its bindings bind
pub record HasModule (scope : Scope) (body : Name) (bindings : List Binding) : Type 0 where
  pub part : Module
  pub found : find_module body scope.modules ≡ Some part
  pub binds : (b : Binding) → Contains bindings b → stands (binding_label b) (map out_label (filter is_in part.ports)) ≡ true

pub instance_module : (scope : Scope) → IsKept scope → (at : ℕ) (id : ApplicationId) (body : Name) (bindings : List Binding) → Contains scope.statements (S.Instance at id body bindings) → HasModule scope body bindings
instance_module scope k at id body bindings c =
    of_module (find_module body scope.modules) refl (undeclared_names scope (S.Instance at id body bindings) (k.known (S.Instance at id body bindings) c))
    (bound_ways scope (S.Instance at id body bindings) (k.ways (S.Instance at id body bindings) c))
  where
    of_port : (m : Module) (b : Binding) (o : Option ModulePort) → find_port b.port m.ports ≡ o → look_up b.port o no_more ≡ [] → bound_out o b.source ≡ [] → stands (binding_label b) (map out_label (filter is_in m.ports)) ≡ true
    of_port m b None e h w = absurd (cc)
    of_port m b (Some p) e h w = find_stands (λ (q : ModulePort). q.name) out_label (binding_label b) b.port is_in m.ports p (λ q t. t) e (bound_in_port p b.source w)

    of_module : (o : Option Module) → find_module body scope.modules ≡ o → look_up body o (λ (m : Module). flat_map (λ (b : Binding). look_up b.port (find_port b.port m.ports) no_more) bindings) ≡ []
        → flat_map (λ (b : Binding). bound_out (find_port b.port (ports_of o)) b.source) bindings ≡ [] → HasModule scope body bindings
    of_module None e h w = absurd (cc)
    of_module (Some m) e h w = record {
      part = m;
      found = e;
      binds = λ b d.
          of_port m b (find_port b.port m.ports) refl (flat_nil (λ (b : Binding). look_up b.port (find_port b.port m.ports) no_more) bindings b d h)
          (flat_nil (λ (b : Binding). bound_out (find_port b.port m.ports) b.source) bindings b d w);
    }

-- ---- what a reference is to
part_same : (id own : ApplicationId) (name other : Name) → is_id id own ≡ true → is_name name other ≡ true → same_label (part_label id name) (part_label own other) ≡ true
part_same id own name other same t =
    let parts = and_parts (same_index id.index own.index) (is_name id.name own.name) same in
    and_from (is_name id.name own.name) (same_index id.index own.index && is_name name other) parts.1 (and_from (same_index id.index own.index) (is_name name other) parts.0 t)

request_source : (at : ℕ) (id own : ApplicationId) (name : Name) (b : Bundle) → is_id id own ≡ true → undeclared_in (member_of name (Some b)) ≡ [] → unless is_source at (member_of name (Some b)) ≡ []
    → stands (part_label id name) (map (member_sink own) (filter is_to_server b.members)) ≡ true
request_source at id own name b same h w = go (find_member name b.members) refl
  where
    go : (o : Option Member) → find_member name b.members ≡ o → stands (part_label id name) (map (member_sink own) (filter is_to_server b.members)) ≡ true
    go None e = let bad : name.at ∷ [] ≡ [] = ap undeclared_in (sym (none_found name b e)) ∙ h in absurd (cc)
    go (Some m) e =
        let told : unless is_source at (To (member_referent m)) ≡ [] = ap (unless is_source at) (sym (one_found name b m e)) ∙ w in
        find_stands (λ (q : Member). q.name) (member_sink own) (part_label id name) name is_to_server b.members m (λ q t. part_same id own name q.name same t) e (sym (member_source m) ∙ unless_true is_source at (member_referent m) told)

request_sink : (at : ℕ) (id own : ApplicationId) (name : Name) (b : Bundle) → is_id id own ≡ true → undeclared_in (member_of name (Some b)) ≡ [] → unless is_sink at (member_of name (Some b)) ≡ []
    → stands (part_label id name) (map (member_sink own) (filter is_to_client b.members)) ≡ true
request_sink at id own name b same h w = go (find_member name b.members) refl
  where
    go : (o : Option Member) → find_member name b.members ≡ o → stands (part_label id name) (map (member_sink own) (filter is_to_client b.members)) ≡ true
    go None e = let bad : name.at ∷ [] ≡ [] = ap undeclared_in (sym (none_found name b e)) ∙ h in absurd (cc)
    go (Some m) e =
        let told : unless is_sink at (To (member_referent m)) ≡ [] = ap (unless is_sink at) (sym (one_found name b m e)) ∙ w in
        find_stands (λ (q : Member). q.name) (member_sink own) (part_label id name) name is_to_client b.members m (λ q t. part_same id own name q.name same t) e (sym (member_drive m) ∙ unless_true is_sink at (member_referent m) told)

instance_out : (at : ℕ) (id own : ApplicationId) (name : Name) (m : Module) → is_id id own ≡ true → undeclared_in (port_of name (Some m)) ≡ [] → unless is_source at (port_of name (Some m)) ≡ []
    → stands (part_label id name) (map (instance_label own) (filter is_out m.ports)) ≡ true
instance_out at id own name m same h w = go (find_port name m.ports) refl
  where
    go : (o : Option ModulePort) → find_port name m.ports ≡ o → stands (part_label id name) (map (instance_label own) (filter is_out m.ports)) ≡ true
    go None e = let bad : name.at ∷ [] ≡ [] = ap undeclared_in (sym (no_port_found name m e)) ∙ h in absurd (cc)
    go (Some p) e =
        let told : unless is_source at (To (instance_referent p)) ≡ [] = ap (unless is_source at) (sym (port_found name m p e)) ∙ w in
        find_stands (λ (q : ModulePort). q.name) (instance_label own) (part_label id name) name is_out m.ports p (λ q t. part_same id own name q.name same t) e (sym (instance_source p) ∙ unless_true is_source at (instance_referent p) told)

-- nothing of an instance may be driven
instance_no_sink : (at : ℕ) (name : Name) (m : Module) → undeclared_in (port_of name (Some m)) ≡ [] → unless is_sink at (port_of name (Some m)) ≡ [] → ⊥
instance_no_sink at name m h w = go (find_port name m.ports) refl
  where
    go : (o : Option ModulePort) → find_port name m.ports ≡ o → ⊥
    go None e = let bad : name.at ∷ [] ≡ [] = ap undeclared_in (sym (no_port_found name m e)) ∙ h in absurd (cc)
    go (Some p) e =
        let told : unless is_sink at (To (instance_referent p)) ≡ [] = ap (unless is_sink at) (sym (port_found name m p e)) ∙ w in
        false≢true (sym (instance_drive p) ∙ unless_true is_sink at (instance_referent p) told)

-- a channel of the body
made_channels : (scope : Scope) (l : Label) (ss : List Statement) → stands l (map own_label (flat_map channels_of ss)) ≡ true → stands l (flat_map (made_one scope) ss) ≡ true
made_channels scope l [] e = e
made_channels scope l (S.Request at service port id ∷ ss) e = made_channels scope l ss e
made_channels scope l (S.Instance at id body bindings ∷ ss) e = stands_right l (map (instance_label id) (filter is_out (instance_ports scope body))) (flat_map (made_one scope) ss) (made_channels scope l ss e)
made_channels scope l (S.Channels at names operation ∷ ss) e =
    elim (or_cases (stands l (map own_label names)) (stands l (map own_label (flat_map channels_of ss)))
    (sym (stands-append l (map own_label names) (map own_label (flat_map channels_of ss))) ∙ ap (stands l) (sym (map-append own_label names (flat_map channels_of ss))) ∙ e)) [
      | inl t ↦ stands_left l (map own_label names) (flat_map (made_one scope) ss) t
      | inr t ↦ stands_right l (map own_label names) (flat_map (made_one scope) ss) (made_channels scope l ss t)
    ]
made_channels scope l (S.Drive at sink source ∷ ss) e = made_channels scope l ss e

pub among_stands : (name : Name) (names : List Name) → is_among name names ≡ stands (own_label name) (map own_label names)
among_stands name [] = refl
among_stands name (x ∷ xs) = ap (λ b. is_name name x || b) (among_stands name xs)

-- A reference that is found and may be taken is to one of the names that may be taken.
pub source_stands : (scope : Scope) → IsKept scope → (r : Reference) → undeclared_in (resolve scope r) ≡ [] → unless is_source (reference_place r) (resolve scope r) ≡ [] → stands (reference_label r) (source_names scope) ≡ true
source_stands scope k (R.Channel name) h w = own (find_port name scope.ports) refl h w
  where
    among : (b : Bool) → undeclared_in (if b then To K.Channel else Undeclared name.at) ≡ [] → b ≡ true
    among true h = refl
    among false h = absurd (cc)

    own : (o : Option ModulePort) → find_port name scope.ports ≡ o → undeclared_in (own_name scope name o) ≡ [] → unless is_source name.at (own_name scope name o) ≡ [] → stands (own_label name) (source_names scope) ≡ true
    own (Some p) e h w =
        stands_left (own_label name) (given_names scope) (flat_map (made_one scope) scope.statements)
        (stands_left (own_label name) (map out_label (filter is_in scope.ports)) (flat_map (given_by scope) scope.statements)
        (find_stands (λ (q : ModulePort). q.name) out_label (own_label name) name is_in scope.ports p (λ q t. t) e (sym (port_source p) ∙ unless_true is_source name.at (port_referent p) w)))
    own None e h w =
        stands_right (own_label name) (given_names scope) (flat_map (made_one scope) scope.statements)
        (made_channels scope (own_label name) scope.statements (sym (among_stands name (flat_map channels_of scope.statements)) ∙ among (is_among name (flat_map channels_of scope.statements)) h))
source_stands scope k (R.Member id name) h w = part (find_id id scope.statements) refl h w
  where
    part : (o : Option Statement) → find_id id scope.statements ≡ o → undeclared_in (part_of scope id name o) ≡ [] → unless is_source id.name.at (part_of scope id name o) ≡ [] → stands (part_label id name) (source_names scope) ≡ true
    part None e h w = absurd (cc)
    part (Some (S.Request at service port own)) e h w =
        let s : Statement = S.Request at service port own in
        let c = find_contains (declares id) scope.statements s e in
        let b = request_bundle scope k at service port own c.0 in
        let here = request_source id.name.at id own name b.0 c.1 (ap (λ o. undeclared_in (member_of name o)) (sym b.1) ∙ h) (ap (λ o. unless is_source id.name.at (member_of name o)) (sym b.1) ∙ w) in
        stands_left (part_label id name) (given_names scope) (flat_map (made_one scope) scope.statements)
        (stands_right (part_label id name) (map out_label (filter is_in scope.ports)) (flat_map (given_by scope) scope.statements)
        (in_flat_stands (part_label id name) (given_by scope) scope.statements s c.0 (ap (λ o. stands (part_label id name) (map (member_sink own) (server_members o))) b.1 ∙ here)))
    part (Some (S.Instance at own body bindings)) e h w =
        let s : Statement = S.Instance at own body bindings in
        let c = find_contains (declares id) scope.statements s e in
        let m = instance_module scope k at own body bindings c.0 in
        let here = instance_out id.name.at id own name m.part c.1 (ap (λ o. undeclared_in (port_of name o)) (sym m.found) ∙ h) (ap (λ o. unless is_source id.name.at (port_of name o)) (sym m.found) ∙ w) in
        stands_right (part_label id name) (given_names scope) (flat_map (made_one scope) scope.statements)
        (in_flat_stands (part_label id name) (made_one scope) scope.statements s c.0 (ap (λ o. stands (part_label id name) (map (instance_label own) (filter is_out (ports_of o)))) m.found ∙ here))
    part (Some (S.Channels at names operation)) e h w = absurd (false≢true (find_contains (declares id) scope.statements (S.Channels at names operation) e).1)
    part (Some (S.Drive at sink source)) e h w = absurd (false≢true (find_contains (declares id) scope.statements (S.Drive at sink source) e).1)

-- One that is found and may be driven is to one of those that may be driven.
pub sink_stands : (scope : Scope) → IsKept scope → (r : Reference) → undeclared_in (resolve scope r) ≡ [] → unless is_sink (reference_place r) (resolve scope r) ≡ [] → stands (reference_label r) (sink_names scope) ≡ true
sink_stands scope k (R.Channel name) h w = own (find_port name scope.ports) refl h w
  where
    none : (b : Bool) → undeclared_in (if b then To K.Channel else Undeclared name.at) ≡ [] → unless is_sink name.at (if b then To K.Channel else Undeclared name.at) ≡ [] → ⊥
    none true h w = absurd (cc)
    none false h w = absurd (cc)

    own : (o : Option ModulePort) → find_port name scope.ports ≡ o → undeclared_in (own_name scope name o) ≡ [] → unless is_sink name.at (own_name scope name o) ≡ [] → stands (own_label name) (sink_names scope) ≡ true
    own (Some p) e h w =
        stands_left (own_label name) (map out_label (filter is_out scope.ports)) (flat_map (sinks_by scope) scope.statements)
        (find_stands (λ (q : ModulePort). q.name) out_label (own_label name) name is_out scope.ports p (λ q t. t) e (sym (port_drive p) ∙ unless_true is_sink name.at (port_referent p) w))
    own None e h w = absurd (none (is_among name (flat_map channels_of scope.statements)) h w)
sink_stands scope k (R.Member id name) h w = part (find_id id scope.statements) refl h w
  where
    part : (o : Option Statement) → find_id id scope.statements ≡ o → undeclared_in (part_of scope id name o) ≡ [] → unless is_sink id.name.at (part_of scope id name o) ≡ [] → stands (part_label id name) (sink_names scope) ≡ true
    part None e h w = absurd (cc)
    part (Some (S.Request at service port own)) e h w =
        let s : Statement = S.Request at service port own in
        let c = find_contains (declares id) scope.statements s e in
        let b = request_bundle scope k at service port own c.0 in
        let here = request_sink id.name.at id own name b.0 c.1 (ap (λ o. undeclared_in (member_of name o)) (sym b.1) ∙ h) (ap (λ o. unless is_sink id.name.at (member_of name o)) (sym b.1) ∙ w) in
        stands_right (part_label id name) (map out_label (filter is_out scope.ports)) (flat_map (sinks_by scope) scope.statements)
        (in_flat_stands (part_label id name) (sinks_by scope) scope.statements s c.0 (ap (λ o. stands (part_label id name) (map (member_sink own) (client_members o))) b.1 ∙ here))
    part (Some (S.Instance at own body bindings)) e h w =
        let c = find_contains (declares id) scope.statements (S.Instance at own body bindings) e in
        let m = instance_module scope k at own body bindings c.0 in
        absurd (instance_no_sink id.name.at name m.part (ap (λ o. undeclared_in (port_of name o)) (sym m.found) ∙ h) (ap (λ o. unless is_sink id.name.at (port_of name o)) (sym m.found) ∙ w))
    part (Some (S.Channels at names operation)) e h w = absurd (false≢true (find_contains (declares id) scope.statements (S.Channels at names operation) e).1)
    part (Some (S.Drive at sink source)) e h w = absurd (false≢true (find_contains (declares id) scope.statements (S.Drive at sink source) e).1)

-- ---- the references of statements
is_reference : (s : Statement) (r : Reference) → Contains (sources_of s) r → Contains (references_of s) r
is_reference (S.Request at service port id) r c = c
is_reference (S.Instance at id body bindings) r c = c
is_reference (S.Channels at names operation) r c = c
is_reference (S.Drive at sink source) r c = contains_later sink (source ∷ []) r c

pub taken_stands : (scope : Scope) → IsKept scope → (s : Statement) → Contains scope.statements s → (r : Reference) → Contains (sources_of s) r → stands (reference_label r) (source_names scope) ≡ true
taken_stands scope k s c r d =
    source_stands scope k r (flat_nil (λ r. undeclared_in (resolve scope r)) (references_of s) r (is_reference s r d) (undeclared_references scope s (k.known s c)))
    (flat_nil (λ r. unless is_source (reference_place r) (resolve scope r)) (sources_of s) r d (source_ways scope s (k.ways s c)))

pub driven_stands : (scope : Scope) → IsKept scope → (at : ℕ) (sink source : Reference) → Contains scope.statements (S.Drive at sink source) → stands (reference_label sink) (sink_names scope) ≡ true
driven_stands scope k at sink source c =
    let s : Statement = S.Drive at sink source in
    sink_stands scope k sink (flat_nil (λ r. undeclared_in (resolve scope r)) (references_of s) sink (contains_here sink (source ∷ [])) (undeclared_references scope s (k.known s c))) (sink_ways scope s (k.ways s c))
