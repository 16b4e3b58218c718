-- What the rules of a design keep of each of its bodies.
use Rattle.std.proofs.Common.{◌≡◌, ℕ, zero, suc, ◌≤◌, true, List, [], ◌∷◌, ◌++◌, Option, Some, None, map, length, take, refl, ap, sym, ◌∙◌, subst, inl, inr, arith}
use Rattle.std.specs.Prelude.{◌⊎◌, Contains, filter, flat_map, slice_get}
use Rattle.std.proofs.lemmas.Bool.{false≢true, cases_Bool}
use Rattle.std.proofs.lemmas.List.{append_assoc, append-nil, take_all}
use Rattle.std.proofs.lemmas.List.Elements.{Contains-append_left, Contains-append_right}
use Rattle.std.proofs.lemmas.Option.{same_Some}
use Rattle.design_tree.specs.declared.leaves.Name.{Name}
use Rattle.design_tree.specs.declared.leaves.ApplicationId.{ApplicationId}
use Rattle.design_tree.specs.declared.statements.Binding.{Binding}
use Rattle.design_tree.specs.declared.statements.Statement.{Statement}
use Rattle.design_tree.specs.declared.statements.Statement.TheVariants as S
use Rattle.design_tree.specs.declared.declarations.Bundle.{Bundle}
use Rattle.design_tree.specs.declared.declarations.ServicePort.{ServicePort}
use Rattle.design_tree.specs.declared.declarations.Service.{Service}
use Rattle.design_tree.specs.declared.declarations.ModulePort.{ModulePort}
use Rattle.design_tree.specs.declared.declarations.Module.{Module}
use Rattle.design_tree.specs.declared.declarations.Declaration.{Declaration}
use Rattle.design_tree.specs.declared.declarations.Declaration.TheVariants as D
use Rattle.design_tree.specs.declared.design.DesignTree.TheVariants as F
use Rattle.design_tree.specs.declared.top.Top.{Top}
use Rattle.name_tables.specs.Labels.{Label, Occurrence, label_at}
use Rattle.name_tables.specs.Lists.{stands}
use Rattle.name_tables.specs.ListLaws.{contains_stands}
use Rattle.name_tables.specs.PlaceLaws.{contains_none, contains_one, contains_here, contains_later, contains_cases}
use Rattle.element_order.specs.Laws.{Depends}
use Rattle.check_rules.specs.Scopes.{Scope, and_then, is_name, bundle_in, bundles_of, services_of, modules_of, module_scope, module_scopes, top_scope, scopes, bundle_of, find_bundle, find_service, find_service_port, find_module}
use Rattle.check_rules.specs.References.{named, channels_of, statement_place}
use Rattle.check_rules.specs.DeclaredTwice.{declaration_named, declaration_spaces, member_named, port_named, ids_of, statement_spaces, scope_spaces}
use Rattle.check_rules.specs.Undeclared.{service_undeclared, statement_undeclared, scope_undeclared, undeclared_places, look_up, no_more}
use Rattle.check_rules.specs.Directions.{statement_directions, scope_directions}
use Rattle.check_rules.specs.Uses.{used_in, binding_named, bound_in, scope_uses, due_in, Due, binds_due, scope_due, is_in}
use Rattle.check_rules.specs.Dependencies.{elements_of, needs}
use Rattle.check_rules.specs.Checks.{checks, Accepts}
use Rattle.body_plans.specs.Plans.{binding_label}
use Rattle.plan_laws.specs.Ahead.{out_label, instance_ports}
use Rattle.once_laws.proofs.Sums.{sum_of-append, sum_of-map, hit, count, once_names, in_map, nil_parts, nil_of, flat_nil}
use Rattle.once_laws.proofs.Lists.{get_contains, flat_contains}
use Rattle.once_laws.proofs.Kept.{IsKept, find_contains}
use Rattle.once_laws.proofs.Modules.{module_at}

-- ---- the bodies of a design
scope_of_module : (bundles : List Bundle) (services : List Service) (before more : List Module) (i : ℕ) (m : Module) → slice_get more i ≡ Some m
    → slice_get (module_scopes bundles services before more) i ≡ Some (module_scope bundles services (before ++ take i more) m)
scope_of_module bundles services before [] i m e = absurd (cc)
scope_of_module bundles services before (x ∷ more) zero m e =
    ap Some (ap (module_scope bundles services before) (same_Some x m e) ∙ ap (λ b. module_scope bundles services b m) (sym (append-nil before)))
scope_of_module bundles services before (x ∷ more) (suc i) m e =
    scope_of_module bundles services (before ++ x ∷ []) more i m e ∙ ap (λ b. Some (module_scope bundles services b m)) (append_assoc before (x ∷ []) (take i more))

-- which module's it is
record IsModuleScope (bundles : List Bundle) (services : List Service) (before more : List Module) (i : ℕ) (scope : Scope) : Type 0 where
  pub modules : scope.modules ≡ before ++ take i more
  pub bundles_are : scope.bundles ≡ bundles
  pub services_are : scope.services ≡ services

module_of_scope : (bundles : List Bundle) (services : List Service) (before more : List Module) (i : ℕ) (scope : Scope) → slice_get (module_scopes bundles services before more) i ≡ Some scope
    → IsModuleScope bundles services before more i scope
module_of_scope bundles services before [] i scope e = absurd (cc)
module_of_scope bundles services before (x ∷ more) zero scope e =
    let is : module_scope bundles services before x ≡ scope = same_Some (module_scope bundles services before x) scope e in
    record {
      modules = ap (λ (s : Scope). s.modules) (sym is) ∙ sym (append-nil before);
      bundles_are = ap (λ (s : Scope). s.bundles) (sym is);
      services_are = ap (λ (s : Scope). s.services) (sym is);
    }
module_of_scope bundles services before (x ∷ more) (suc i) scope e =
    let later = module_of_scope bundles services (before ++ x ∷ []) more i scope e in
    record { modules = later.modules ∙ append_assoc before (x ∷ []) (take i more); bundles_are = later.bundles_are; services_are = later.services_are }

scopes_count : (bundles : List Bundle) (services : List Service) (before more : List Module) → length (module_scopes bundles services before more) ≡ length more
scopes_count bundles services before [] = refl
scopes_count bundles services before (x ∷ more) = ap suc (scopes_count bundles services (before ++ x ∷ []) more)

get_front : {A : Type 0} (xs ys : List A) (i : ℕ) (x : A) → slice_get xs i ≡ Some x → slice_get (xs ++ ys) i ≡ Some x
get_front [] ys i x e = absurd (cc)
get_front (y ∷ xs) ys zero x e = e
get_front (y ∷ xs) ys (suc i) x e = get_front xs ys i x e

get_last : {A : Type 0} (xs : List A) (y : A) (k : ℕ) (x : A) → slice_get (xs ++ y ∷ []) k ≡ Some x → (slice_get xs k ≡ Some x) ⊎ ((k ≡ length xs) × (y ≡ x))
get_last [] y zero x e = inr (refl, same_Some y x e)
get_last [] y (suc k) x e = absurd (cc)
get_last (z ∷ xs) y zero x e = inl e
get_last (z ∷ xs) y (suc k) x e = elim (get_last xs y k x e) [ inl f ↦ inl f | inr last ↦ inr (ap suc last.0, last.1) ]

-- The modules that can be named in body number k are those before it.
pub record IsBodyOf (declarations : List Declaration) (k : ℕ) (scope : Scope) : Type 0 where
  pub modules : scope.modules ≡ take k (modules_of declarations)
  pub bundles_are : scope.bundles ≡ bundles_of declarations
  pub services_are : scope.services ≡ services_of declarations

pub body_of : (declarations : List Declaration) (top : Top) (k : ℕ) (scope : Scope) → slice_get (scopes declarations top) k ≡ Some scope → IsBodyOf declarations k scope
body_of declarations top k scope e =
    elim (get_last (module_scopes (bundles_of declarations) (services_of declarations) [] (modules_of declarations)) (top_scope declarations top) k scope e) [
      | inl f ↦
          let one = module_of_scope (bundles_of declarations) (services_of declarations) [] (modules_of declarations) k scope f in
          record { modules = one.modules; bundles_are = one.bundles_are; services_are = one.services_are }
      | inr last ↦
          let many = scopes_count (bundles_of declarations) (services_of declarations) [] (modules_of declarations) in
          let at = last.0 in
          record {
            modules = ap (λ (s : Scope). s.modules) (sym last.1) ∙ sym (take_all k (modules_of declarations) (omega arith));
            bundles_are = ap (λ (s : Scope). s.bundles) (sym last.1);
            services_are = ap (λ (s : Scope). s.services) (sym last.1);
          }
    ]

pub module_body : (declarations : List Declaration) (top : Top) (i : ℕ) (m : Module) → slice_get (modules_of declarations) i ≡ Some m
    → slice_get (scopes declarations top) i ≡ Some (module_scope (bundles_of declarations) (services_of declarations) (take i (modules_of declarations)) m)
module_body declarations top i m e =
    get_front (module_scopes (bundles_of declarations) (services_of declarations) [] (modules_of declarations)) (top_scope declarations top ∷ []) i
    (module_scope (bundles_of declarations) (services_of declarations) (take i (modules_of declarations)) m)
    (scope_of_module (bundles_of declarations) (services_of declarations) [] (modules_of declarations) i m e)

-- ---- the rules
in_flat_map : {A B : Type 0} (f : A → List B) (xs : List A) (x : A) (y : B) → Contains xs x → Contains (f x) y → Contains (flat_map f xs) y
in_flat_map f [] x y there here = absurd (contains_none x there)
in_flat_map {A} {B} f (a ∷ xs) x y there here =
    elim (contains_cases a xs x there) [
      | inl e ↦ Contains-append_left (f a) (flat_map f xs) y (subst (λ q. Contains (f q) y) (sym e) here)
      | inr t ↦ Contains-append_right (f a) (flat_map f xs) y (in_flat_map f xs x y t here)
    ]

and_then_some : {A B P : Type 0} (o : Option A) (f : A → Option B) (y : B) → and_then o f ≡ Some y → ((x : A) → o ≡ Some x → f x ≡ Some y → P) → P
and_then_some None f y e k = absurd (cc)
and_then_some (Some x) f y e k = k x refl e

-- the rules are those of the design
abbrev pub IsAccepted : (List Scope → List ℕ) → List Declaration → Top → Type 0
IsAccepted misfits declarations top = Accepts (checks misfits (F.Modules declarations top))

module _ (misfits : List Scope → List ℕ) (declarations : List Declaration) (top : Top) (h : IsAccepted misfits declarations top) where
  -- each name of a body's own space is declared once
  own_once : (scope : Scope) → Contains (scopes declarations top) scope → (l : Label) → count l (map label_at (map port_named scope.ports ++ map named (flat_map channels_of scope.statements))) ≤ 1
  own_once scope one l =
      let own : List Occurrence = map port_named scope.ports ++ map named (flat_map channels_of scope.statements) in
      let rest : List (List Occurrence) = flat_map ids_of scope.statements ∷ map named scope.implements ∷ flat_map statement_spaces scope.statements in
      once_names own
      (λ at r. h.0 at (record {
        names = own;
        one = contains_later (map declaration_named declarations) (flat_map declaration_spaces declarations ++ flat_map scope_spaces (scopes declarations top)) own
            (Contains-append_right (flat_map declaration_spaces declarations) (flat_map scope_spaces (scopes declarations top)) own (in_flat_map scope_spaces (scopes declarations top) scope own one (contains_here own rest)));
        twice = r;
      }))
      l

  ids_once : (scope : Scope) → Contains (scopes declarations top) scope → (l : Label) → count l (map label_at (flat_map ids_of scope.statements)) ≤ 1
  ids_once scope one l =
      let own : List Occurrence = map port_named scope.ports ++ map named (flat_map channels_of scope.statements) in
      let ids : List Occurrence = flat_map ids_of scope.statements in
      let rest : List (List Occurrence) = map named scope.implements ∷ flat_map statement_spaces scope.statements in
      once_names ids
      (λ at r. h.0 at (record {
        names = ids;
        one = contains_later (map declaration_named declarations) (flat_map declaration_spaces declarations ++ flat_map scope_spaces (scopes declarations top)) ids
            (Contains-append_right (flat_map declaration_spaces declarations) (flat_map scope_spaces (scopes declarations top)) ids
            (in_flat_map scope_spaces (scopes declarations top) scope ids one (contains_later own (ids ∷ rest) ids (contains_here ids rest))));
        twice = r;
      }))
      l

  bundle_space : (b : Bundle) (d : Declaration) → Contains (bundle_in d) b → Contains (declaration_spaces d) (map member_named b.members)
  bundle_space b (D.Bundle x) c = subst (λ (q : Bundle). Contains (map member_named x.members ∷ []) (map member_named q.members)) (contains_one x b c) (contains_here (map member_named x.members) [])
  bundle_space b (D.Service s) c = absurd (contains_none b c)
  bundle_space b (D.Module m) c = absurd (contains_none b c)

  members_once : (b : Bundle) → Contains (bundles_of declarations) b → (l : Label) → count l (map label_at (map member_named b.members)) ≤ 1
  members_once b there l =
      once_names (map member_named b.members)
      (λ at r. h.0 at (record {
        names = map member_named b.members;
        one = contains_later (map declaration_named declarations) (flat_map declaration_spaces declarations ++ flat_map scope_spaces (scopes declarations top)) (map member_named b.members)
            (Contains-append_left (flat_map declaration_spaces declarations) (flat_map scope_spaces (scopes declarations top)) (map member_named b.members)
            (flat_contains bundle_in declarations b there (λ d c e. in_flat_map declaration_spaces declarations d (map member_named b.members) c (bundle_space b d e))));
        twice = r;
      }))
      l

  used_once_in : (scope : Scope) → Contains (scopes declarations top) scope → (l : Label) → count l (map label_at (used_in scope)) ≤ 1
  used_once_in scope one l =
      once_names (used_in scope)
      (λ at r. h.1.1.1.1.0 at (record {
        names = used_in scope;
        one = in_flat_map scope_uses (scopes declarations top) scope (used_in scope) one (contains_here (used_in scope) (flat_map bound_in scope.statements));
        twice = r;
      }))
      l

  bound_once : (scope : Scope) → Contains (scopes declarations top) scope → (at : ℕ) (id : ApplicationId) (body : Name) (bindings : List Binding) → Contains scope.statements (S.Instance at id body bindings)
      → (l : Label) → count l (map binding_label bindings) ≤ 1
  bound_once scope one at id body bindings c l =
      let names : List Occurrence = map binding_named bindings in
      let once = once_names names
      (λ place r. h.1.1.1.1.0 place (record {
        names = names;
        one = in_flat_map scope_uses (scopes declarations top) scope names one
            (contains_later (used_in scope) (flat_map bound_in scope.statements) names (in_flat_map bound_in scope.statements (S.Instance at id body bindings) names c (contains_here names [])));
        twice = r;
      }))
      l in
      let same : count l (map label_at names) ≡ count l (map binding_label bindings)
      = sum_of-map (hit l) label_at names ∙ sum_of-map (λ (o : Occurrence). hit l (label_at o)) binding_named bindings ∙ sym (sum_of-map (hit l) binding_label bindings) in
      omega arith

  due_used : (names : Due) → Contains (flat_map scope_due (scopes declarations top)) names → (l : Label) → stands l (map label_at names.due) ≡ true → stands l names.used ≡ true
  due_used names one l e = in_map l label_at names.due e (λ o c is. told o c is)
    where
      told : (o : Occurrence) → Contains names.due o → l ≡ label_at o → stands l names.used ≡ true
      told o c is =
          elim (cases_Bool (stands l names.used)) [
            | inl t ↦ t
            | inr f ↦ absurd (h.1.1.1.1.1.0 o.at (record {
              names = names;
              one = one;
              missing = record { name = o; there = c; new = λ d. false≢true (sym f ∙ contains_stands l names.used (subst (λ q. Contains names.used q) (sym is) d)); stands = refl };
            }))
          ]

  all_due : (scope : Scope) → Contains (scopes declarations top) scope → (l : Label) → stands l (map label_at (due_in scope)) ≡ true → stands l (map label_at (used_in scope)) ≡ true
  all_due scope one l e =
      let names : Due = record { due = due_in scope; used = map label_at (used_in scope) } in
      due_used names (in_flat_map scope_due (scopes declarations top) scope names one (contains_here names (flat_map (binds_due scope) scope.statements))) l e

  all_bound_due : (scope : Scope) → Contains (scopes declarations top) scope → (at : ℕ) (id : ApplicationId) (body : Name) (bindings : List Binding) → Contains scope.statements (S.Instance at id body bindings)
      → (l : Label) → stands l (map out_label (filter is_in (instance_ports scope body))) ≡ true → stands l (map binding_label bindings) ≡ true
  all_bound_due scope one at id body bindings c l e =
      let ps : List ModulePort = filter is_in (instance_ports scope body) in
      let due : List Occurrence = map (λ (p : ModulePort). record { label = out_label p; at = at }) ps in
      let names : Due = record { due = due; used = map binding_label bindings } in
      let own : Due = record { due = due_in scope; used = map label_at (used_in scope) } in
      due_used names
      (in_flat_map scope_due (scopes declarations top) scope names one
      (contains_later own (flat_map (binds_due scope) scope.statements) names (in_flat_map (binds_due scope) scope.statements (S.Instance at id body bindings) names c (contains_here names []))))
      l (ap (stands l) (labels_same ps) ∙ e)
    where
      labels_same : (ps : List ModulePort) → map label_at (map (λ (p : ModulePort). record { label = out_label p; at = at }) ps) ≡ map out_label ps
      labels_same [] = refl
      labels_same (p ∷ ps) = ap (λ xs. out_label p ∷ xs) (labels_same ps)

  nothing_undeclared : undeclared_places (bundles_of declarations) (services_of declarations) (scopes declarations top) ≡ []
  nothing_undeclared = nil_of (undeclared_places (bundles_of declarations) (services_of declarations) (scopes declarations top)) h.1.0

  all_known : (scope : Scope) → Contains (scopes declarations top) scope → (s : Statement) → Contains scope.statements s → statement_undeclared scope s ≡ []
  all_known scope one s c =
      let bodies = (nil_parts (flat_map (service_undeclared (bundles_of declarations)) (services_of declarations)) (flat_map scope_undeclared (scopes declarations top)) nothing_undeclared).1 in
      let body : scope_undeclared scope ≡ [] = flat_nil scope_undeclared (scopes declarations top) scope one bodies in
      flat_nil (statement_undeclared scope) scope.statements s c
      (nil_parts (flat_map (statement_undeclared scope) scope.statements) (flat_map (λ name. look_up name (find_service name scope.services) no_more) scope.implements) body).0

  services_known : (f : Service) → Contains (services_of declarations) f → service_undeclared (bundles_of declarations) f ≡ []
  services_known f c =
      flat_nil (service_undeclared (bundles_of declarations)) (services_of declarations) f c
      (nil_parts (flat_map (service_undeclared (bundles_of declarations)) (services_of declarations)) (flat_map scope_undeclared (scopes declarations top)) nothing_undeclared).0

  all_ways : (scope : Scope) → Contains (scopes declarations top) scope → (s : Statement) → Contains scope.statements s → statement_directions scope s ≡ []
  all_ways scope one s c =
      flat_nil (statement_directions scope) scope.statements s c
      (flat_nil scope_directions (scopes declarations top) scope one (nil_of (flat_map scope_directions (scopes declarations top)) h.1.1.1.0))

  pub none_itself : (scope : Scope) → Contains (scopes declarations top) scope → (number : ℕ) (e : Statement) → slice_get (elements_of scope.statements) number ≡ Some e → Depends (needs (elements_of scope.statements)) number number → ⊥
  none_itself scope one number e at itself = h.1.1.1.1.1.1.0 (statement_place e) (record { scope = scope; one = one; element = e; number = number; numbered = at; itself = itself; stands = refl })

  -- the ports of a module are declared once
  ports_once : (k : ℕ) (scope : Scope) → IsBodyOf declarations k scope → (body : Name) (m : Module) → find_module body scope.modules ≡ Some m → (l : Label) → count l (map label_at (map port_named m.ports)) ≤ 1
  ports_once k scope is body m found l =
      let spot = module_at body (modules_of declarations) k 0 m (ap (find_module body) (sym is.modules) ∙ found) in
      let inner : Scope = module_scope (bundles_of declarations) (services_of declarations) (take spot.number (modules_of declarations)) m in
      let once = own_once inner (get_contains (scopes declarations top) spot.number inner (module_body declarations top spot.number m spot.there)) l in
      let g : Occurrence → ℕ = λ o. hit l (label_at o) in
      let channels : List Occurrence = map named (flat_map channels_of m.body) in
      let whole = sum_of-map (hit l) label_at (map port_named m.ports ++ channels) ∙ sum_of-append g (map port_named m.ports) channels in
      let first = sum_of-map (hit l) label_at (map port_named m.ports) in
      omega arith

  -- the bundle of a request is one of the design's
  bundle_there : (k : ℕ) (scope : Scope) → IsBodyOf declarations k scope → (service port : Name) (b : Bundle) → bundle_of scope service port ≡ Some b → Contains (bundles_of declarations) b
  bundle_there k scope is service port b e =
      and_then_some (find_service service scope.services) (λ (s : Service). and_then (find_service_port port s.ports) (λ (p : ServicePort). find_bundle p.bundle scope.bundles)) b e
      (λ f _f e. and_then_some (find_service_port port f.ports) (λ (p : ServicePort). find_bundle p.bundle scope.bundles) b e
      (λ p _p e. subst (λ bs. Contains bs b) is.bundles_are (find_contains (λ (q : Bundle). is_name p.bundle q.name) scope.bundles b e).0))

  pub body_kept : (k : ℕ) (scope : Scope) → slice_get (scopes declarations top) k ≡ Some scope → IsKept scope
  body_kept k scope e =
      let one = get_contains (scopes declarations top) k scope e in
      let is = body_of declarations top k scope e in
      record {
        own = own_once scope one;
        ids = ids_once scope one;
        members = λ service port b found. members_once b (bundle_there k scope is service port b found);
        ports = ports_once k scope is;
        used = used_once_in scope one;
        bound = bound_once scope one;
        due = all_due scope one;
        binds = all_bound_due scope one;
        known = all_known scope one;
        ways = all_ways scope one;
        bundles = λ service f found.
            subst (λ bs. service_undeclared bs f ≡ []) (sym is.bundles_are)
            (services_known f (subst (λ fs. Contains fs f) is.services_are (find_contains (λ (q : Service). is_name service q.name) scope.services f found).0));
      }
