-- In a design whose names are declared, what an operation takes has a declared type or is made by an operation of its body.
use Rattle.std.proofs.Common.{◌≡◌, ℕ, Bool, true, List, [], ◌∷◌, ◌++◌, Option, Some, None, inl, inr, refl, ap, sym, ◌∙◌, subst}
use Rattle.std.specs.Prelude.{Contains, cond, find, flat_map, if◌then◌else◌}
use Rattle.std.specs.Option.{option_map}
use Rattle.std.proofs.lemmas.Bool.{false≢true, cases_Bool}
use Rattle.std.proofs.lemmas.List.Elements.{Contains-append_cases}
use Rattle.std.proofs.lemmas.Option.{same_Some}
use Rattle.channel_types.specs.declared.esi_type.EsiType.{EsiType}
use Rattle.design_tree.specs.declared.leaves.Name.{Name}
use Rattle.design_tree.specs.declared.leaves.ApplicationId.{ApplicationId}
use Rattle.design_tree.specs.declared.leaves.Reference.{Reference}
use Rattle.design_tree.specs.declared.leaves.Reference.TheVariants as R
use Rattle.design_tree.specs.declared.statements.Binding.{Binding}
use Rattle.design_tree.specs.declared.statements.Statement.{Statement}
use Rattle.design_tree.specs.declared.statements.Statement.TheVariants as S
use Rattle.design_tree.specs.declared.declarations.Member.{Member}
use Rattle.design_tree.specs.declared.declarations.Bundle.{Bundle}
use Rattle.design_tree.specs.declared.declarations.ServicePort.{ServicePort}
use Rattle.design_tree.specs.declared.declarations.Service.{Service}
use Rattle.design_tree.specs.declared.declarations.ModulePort.{ModulePort}
use Rattle.design_tree.specs.declared.declarations.Module.{Module}
use Rattle.design_tree.specs.declared.declarations.Declaration.{Declaration}
use Rattle.design_tree.specs.declared.design.DesignTree.TheVariants as F
use Rattle.design_tree.specs.declared.top.Top.{Top}
use Rattle.name_tables.specs.PlaceLaws.{contains_none, contains_one, contains_here, contains_later, contains_cases}
use Rattle.check_rules.specs.declared.referent.Resolution.TheVariants.{To, Undeclared}
use Rattle.check_rules.specs.declared.referent.Referent.TheVariants as W
use Rattle.check_rules.specs.Scopes.{Scope, and_then, is_name, declares, bundle_of, find_bundle, find_service, find_service_port, find_module, find_member, find_port, find_id, bundles_of, services_of, modules_of, module_scope, module_scopes, top_scope, scopes}
use Rattle.check_rules.specs.References.{references_of, channels_of, is_among, member_of, port_of, resolve, own_name, part_of}
use Rattle.check_rules.specs.Undeclared.{look_up, no_more, service_undeclared, names_undeclared, variables_undeclared, undeclared_in, references_undeclared, statement_undeclared, scope_undeclared, undeclared_places}
use Rattle.check_rules.specs.Checks.{Accepts, checks}
use Rattle.design_scopes.specs.Flat.{flat_contains}
use Rattle.channel_typing.specs.DeclaredTypes.{declared_type, type_of_port, type_of_member, member_type, port_type, part_type}

-- ---- lists without places

pub nil_parts : {A : Type 0} (xs ys : List A) → xs ++ ys ≡ [] → (xs ≡ []) × (ys ≡ [])
nil_parts [] ys e = (refl, e)
nil_parts (x ∷ xs) ys e = absurd (cc)

nil_of : (xs : List ℕ) → ((at : ℕ) → Contains xs at → ⊥) → xs ≡ []
nil_of [] h = refl
nil_of (x ∷ xs) h = absurd (h x (contains_here x xs))

pub flat_nil : {A : Type 0} (g : A → List ℕ) (xs : List A) (x : A) → Contains xs x → flat_map g xs ≡ [] → g x ≡ []
flat_nil g xs x c e = nil_of (g x) (λ at d. contains_none at (subst (λ l. Contains l at) e (flat_contains g xs x at c d)))

find_contains : {A : Type 0} (test : A → Bool) (xs : List A) (x : A) → find test xs ≡ Some x → Contains xs x × (test x ≡ true)
find_contains test [] x e = absurd (cc)
find_contains test (y ∷ ys) x e =
    elim (cases_Bool (test y)) [
      | inl t ↦
          let is : y ≡ x = same_Some y x (sym (ap (λ b. cond b (Some y) (find test ys)) t) ∙ e) in
          (subst (λ q. Contains (y ∷ ys) q) is (contains_here y ys), ap test (sym is) ∙ t)
      | inr f ↦
          let more = find_contains test ys x (sym (ap (λ b. cond b (Some y) (find test ys)) f) ∙ e) in
          (contains_later y ys x more.0, more.1)
    ]

-- ---- what is looked up in a body is found

pub record IsLookedUp (scope : Scope) : Type 0 where
  pub known : (s : Statement) → Contains scope.statements s → statement_undeclared scope s ≡ []
  pub bundles : (service : Name) (f : Service) → find_service service scope.services ≡ Some f → service_undeclared scope.bundles f ≡ []

-- the bundles and services of each body are those of the design
record IsOwn (bundles : List Bundle) (services : List Service) (scope : Scope) : Type 0 where
  bundles_are : scope.bundles ≡ bundles
  services_are : scope.services ≡ services

modules_own : (bundles : List Bundle) (services : List Service) (before more : List Module) (scope : Scope) → Contains (module_scopes bundles services before more) scope → IsOwn bundles services scope
modules_own bundles services before [] scope c = absurd (contains_none scope c)
modules_own bundles services before (m ∷ more) scope c =
    elim (contains_cases (module_scope bundles services before m) (module_scopes bundles services (before ++ m ∷ []) more) scope c) [
      | inl is ↦ record { bundles_are = ap (λ (s : Scope). s.bundles) (sym is); services_are = ap (λ (s : Scope). s.services) (sym is) }
      | inr later ↦ modules_own bundles services (before ++ m ∷ []) more scope later
    ]

bodies_own : (declarations : List Declaration) (top : Top) (scope : Scope) → Contains (scopes declarations top) scope → IsOwn (bundles_of declarations) (services_of declarations) scope
bodies_own declarations top scope c =
    elim (Contains-append_cases (module_scopes (bundles_of declarations) (services_of declarations) [] (modules_of declarations)) (top_scope declarations top ∷ []) scope c) [
      | inl earlier ↦ modules_own (bundles_of declarations) (services_of declarations) [] (modules_of declarations) scope earlier
      | inr last ↦
          let is = contains_one (top_scope declarations top) scope last in
          record { bundles_are = ap (λ (s : Scope). s.bundles) (sym is); services_are = ap (λ (s : Scope). s.services) (sym is) }
    ]

pub body_looked_up : (misfits : List Scope → List ℕ) (declarations : List Declaration) (top : Top) → Accepts (checks misfits (F.Modules declarations top)) → (scope : Scope) → Contains (scopes declarations top) scope → IsLookedUp scope
body_looked_up misfits declarations top accepts scope c =
    let own = bodies_own declarations top scope c in
    let none : undeclared_places (bundles_of declarations) (services_of declarations) (scopes declarations top) ≡ [] =
    nil_of (undeclared_places (bundles_of declarations) (services_of declarations) (scopes declarations top)) accepts.1.0 in
    let parts = nil_parts (flat_map (service_undeclared (bundles_of declarations)) (services_of declarations)) (flat_map scope_undeclared (scopes declarations top)) none in
    let body = nil_parts (flat_map (statement_undeclared scope) scope.statements) (flat_map (λ name. look_up name (find_service name scope.services) no_more) scope.implements) (flat_nil scope_undeclared (scopes declarations top) scope c parts.1) in
    record {
      known = λ s d. flat_nil (statement_undeclared scope) scope.statements s d body.0;
      bundles = λ service f e.
          let there = find_contains (λ (s : Service). is_name service s.name) scope.services f e in
          subst (λ (bs : List Bundle). service_undeclared bs f ≡ []) (sym own.bundles_are)
          (flat_nil (service_undeclared (bundles_of declarations)) (services_of declarations) f (subst (λ (ss : List Service). Contains ss f) own.services_are there.0) parts.0);
    }

-- ---- what a reference is to

-- It has a declared type, or is a channel that an operation makes.
pub data IsFound (scope : Scope) : Reference → Type 0 where
  declared : (r : Reference) (ty : EsiType) → declared_type scope r ≡ Some ty → IsFound scope r
  made : (name : Name) → declared_type scope (R.Channel name) ≡ None → is_among name (flat_map channels_of scope.statements) ≡ true → IsFound scope (R.Channel name)

undeclared_names : (scope : Scope) (s : Statement) → statement_undeclared scope s ≡ [] → names_undeclared scope s ≡ []
undeclared_names scope s e = (nil_parts (names_undeclared scope s) (variables_undeclared s) (nil_parts (names_undeclared scope s ++ variables_undeclared s) (references_undeclared scope s) e).0).0

undeclared_references : (scope : Scope) (s : Statement) → statement_undeclared scope s ≡ [] → references_undeclared scope s ≡ []
undeclared_references scope s e = (nil_parts (names_undeclared scope s ++ variables_undeclared s) (references_undeclared scope s) e).1

-- the bundle of a request, and the module of an instance
request_bundle : (scope : Scope) → IsLookedUp scope → (at : ℕ) (service port : Name) (id : ApplicationId) → Contains scope.statements (S.Request at service port id) → (b : Bundle) × (bundle_of scope service port ≡ Some b)
request_bundle scope k at service port id c = of_service (find_service service scope.services) refl (undeclared_names scope (S.Request at service port id) (k.known (S.Request at service port id) c))
  where
    of_bundle : (p : ServicePort) (o : Option Bundle) → look_up p.bundle o no_more ≡ [] → (b : Bundle) × (o ≡ Some b)
    of_bundle p None h = absurd (cc)
    of_bundle p (Some b) h = (b, refl)

    of_port : (f : Service) → find_service service scope.services ≡ Some f → (o : Option ServicePort) → find_service_port port f.ports ≡ o → look_up port o no_more ≡ []
        → (b : Bundle) × (and_then o (λ (p : ServicePort). find_bundle p.bundle scope.bundles) ≡ Some b)
    of_port f e None is h = absurd (cc)
    of_port f e (Some p) is h =
        of_bundle p (find_bundle p.bundle scope.bundles)
        (flat_nil (λ (q : ServicePort). look_up q.bundle (find_bundle q.bundle scope.bundles) no_more) f.ports p (find_contains (λ (q : ServicePort). is_name port q.name) f.ports p is).0 (k.bundles service f e))

    of_service : (o : Option Service) → find_service service scope.services ≡ o → look_up service o (λ (s : Service). look_up port (find_service_port port s.ports) no_more) ≡ []
        → (b : Bundle) × (and_then o (λ (s : Service). and_then (find_service_port port s.ports) (λ (p : ServicePort). find_bundle p.bundle scope.bundles)) ≡ Some b)
    of_service None e h = absurd (cc)
    of_service (Some f) e h = of_port f e (find_service_port port f.ports) refl h

instance_module : (scope : Scope) → IsLookedUp scope → (at : ℕ) (id : ApplicationId) (body : Name) (bindings : List Binding) → Contains scope.statements (S.Instance at id body bindings) → (m : Module) × (find_module body scope.modules ≡ Some m)
instance_module scope k at id body bindings c = of_module (find_module body scope.modules) (undeclared_names scope (S.Instance at id body bindings) (k.known (S.Instance at id body bindings) c))
  where
    of_module : (o : Option Module) → look_up body o (λ (m : Module). flat_map (λ (b : Binding). look_up b.port (find_port b.port m.ports) no_more) bindings) ≡ [] → (m : Module) × (o ≡ Some m)
    of_module None h = absurd (cc)
    of_module (Some m) h = (m, refl)

-- ---- parts of requests and of instances

none_found : (name : Name) (b : Bundle) → find_member name b.members ≡ None → member_of name (Some b) ≡ Undeclared name.at
none_found name b e = rw e refl

no_port_found : (name : Name) (m : Module) → find_port name m.ports ≡ None → port_of name (Some m) ≡ Undeclared name.at
no_port_found name m e = rw e refl

member_typed : (name : Name) (b : Bundle) → undeclared_in (member_of name (Some b)) ≡ [] → (ty : EsiType) × (member_type name (Some b) ≡ Some ty)
member_typed name b h = go (find_member name b.members) refl
  where
    go : (o : Option Member) → find_member name b.members ≡ o → (ty : EsiType) × (option_map type_of_member (find_member name b.members) ≡ Some ty)
    go None e = let bad : name.at ∷ [] ≡ [] = ap undeclared_in (sym (none_found name b e)) ∙ h in absurd (cc)
    go (Some m) e = (m.ty, ap (option_map type_of_member) e)

port_typed : (name : Name) (m : Module) → undeclared_in (port_of name (Some m)) ≡ [] → (ty : EsiType) × (port_type name (Some m) ≡ Some ty)
port_typed name m h = go (find_port name m.ports) refl
  where
    go : (o : Option ModulePort) → find_port name m.ports ≡ o → (ty : EsiType) × (option_map type_of_port (find_port name m.ports) ≡ Some ty)
    go None e = let bad : name.at ∷ [] ≡ [] = ap undeclared_in (sym (no_port_found name m e)) ∙ h in absurd (cc)
    go (Some p) e = (p.ty, ap (option_map type_of_port) e)

module _ (scope : Scope) (k : IsLookedUp scope) where
  part_typed : (id : ApplicationId) (name : Name) (o : Option Statement) → ((s : Statement) → o ≡ Some s → Contains scope.statements s × (declares id s ≡ true)) → undeclared_in (part_of scope id name o) ≡ []
      → (ty : EsiType) × (part_type scope name o ≡ Some ty)
  part_typed id name None there h = absurd (cc)
  part_typed id name (Some (S.Request at service port own)) there h =
      let b = request_bundle scope k at service port own (there (S.Request at service port own) refl).0 in
      let t = member_typed name b.0 (sym (ap (λ (o : Option Bundle). undeclared_in (member_of name o)) b.1) ∙ h) in
      (t.0, ap (member_type name) b.1 ∙ t.1)
  part_typed id name (Some (S.Instance at own body bindings)) there h =
      let m = instance_module scope k at own body bindings (there (S.Instance at own body bindings) refl).0 in
      let t = port_typed name m.0 (sym (ap (λ (o : Option Module). undeclared_in (port_of name o)) m.1) ∙ h) in
      (t.0, ap (port_type name) m.1 ∙ t.1)
  part_typed id name (Some (S.Channels at names operation)) there h = absurd (false≢true (there (S.Channels at names operation) refl).1)
  part_typed id name (Some (S.Drive at sink source)) there h = absurd (false≢true (there (S.Drive at sink source) refl).1)

  channel_found : (name : Name) (o : Option ModulePort) → find_port name scope.ports ≡ o → undeclared_in (own_name scope name o) ≡ [] → IsFound scope (R.Channel name)
  channel_found name (Some p) e h = declared (R.Channel name) p.ty (ap (option_map type_of_port) e)
  channel_found name None e h =
      elim (cases_Bool (is_among name (flat_map channels_of scope.statements))) [
        | inl t ↦ made name (ap (option_map type_of_port) e) t
        | inr f ↦ let bad : name.at ∷ [] ≡ [] = sym (ap (λ b. undeclared_in (if b then To W.Channel else Undeclared name.at)) f) ∙ h in absurd (cc)
      ]

  reference_found : (r : Reference) → undeclared_in (resolve scope r) ≡ [] → IsFound scope r
  reference_found (R.Channel name) h = channel_found name (find_port name scope.ports) refl h
  reference_found (R.Member id name) h =
      let t = part_typed id name (find_id id scope.statements) (λ s e. find_contains (declares id) scope.statements s e) h in
      declared (R.Member id name) t.0 t.1

  -- each reference of a statement
  pub source_found : (s : Statement) → Contains scope.statements s → (r : Reference) → Contains (references_of s) r → IsFound scope r
  source_found s c r d = reference_found r (flat_nil (λ r. undeclared_in (resolve scope r)) (references_of s) r d (undeclared_references scope s (k.known s c)))
