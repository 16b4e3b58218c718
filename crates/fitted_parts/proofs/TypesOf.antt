-- The types that can be named in a body are types of the design's text.
use Rattle.std.proofs.Common.{◌≡◌, List, [], ◌∷◌, ◌++◌, map, inl, inr, ap, sym, subst, append_assoc}
use Rattle.std.specs.Prelude.{Contains, flat_map}
use Rattle.std.proofs.lemmas.List.Elements.{Contains-append_left, Contains-append_right, Contains-append_cases}
use Rattle.channel_types.specs.declared.esi_type.EsiType.{EsiType}
use Rattle.design_tree.specs.declared.statements.Statement.{Statement}
use Rattle.design_tree.specs.declared.declarations.Member.{Member}
use Rattle.design_tree.specs.declared.declarations.Bundle.{Bundle}
use Rattle.design_tree.specs.declared.declarations.Service.{Service}
use Rattle.design_tree.specs.declared.declarations.ModulePort.{ModulePort}
use Rattle.design_tree.specs.declared.declarations.Module.{Module}
use Rattle.design_tree.specs.declared.declarations.Declaration.{Declaration}
use Rattle.design_tree.specs.declared.declarations.Declaration.TheVariants as D
use Rattle.design_tree.specs.declared.design.DesignTree.TheVariants as F
use Rattle.design_tree.specs.declared.top.TopItem.{TopItem}
use Rattle.design_tree.specs.declared.top.TopItem.TheVariants as I
use Rattle.design_tree.specs.declared.top.Top.{Top}
use Rattle.name_tables.specs.PlaceLaws.{contains_none, contains_one, contains_here, contains_cases}
use Rattle.check_rules.specs.Scopes.{Scope, bundle_in, module_in, statement_in, bundles_of, services_of, modules_of, module_scope, module_scopes, top_scope, scopes}
use Rattle.design_scopes.specs.Flat.{contains_flat, flat_contains}
use Rattle.esi_text.specs.TypesIn.{member_type, port_type, statement_types, declaration_types, top_item_types, types_in}

contains_map : {A B : Type 0} (f : A → B) (xs : List A) (x : A) → Contains xs x → Contains (map f xs) (f x)
contains_map f [] x c = absurd (contains_none x c)
contains_map {B = B} f (y ∷ xs) x c = elim (contains_cases y xs x c) [
  | inl same ↦ subst (λ (z : B). Contains (f y ∷ map f xs) z) (ap f same) (contains_here (f y) (map f xs))
  | inr later ↦ Contains-append_right (f y ∷ []) (map f xs) (f x) (contains_map f xs x later)
]

-- What holds of each type of the text holds of the types of a body's members, ports and statements.
pub record HoldsIn (P : EsiType → Type 0) (scope : Scope) : Type 0 where
  pub port : (p : ModulePort) → Contains scope.ports p → P p.ty
  pub member : (b : Bundle) → Contains scope.bundles b → (m : Member) → Contains b.members m → P m.ty
  pub module_port : (m : Module) → Contains scope.modules m → (p : ModulePort) → Contains m.ports p → P p.ty
  pub statement : (s : Statement) → Contains scope.statements s → (ty : EsiType) → Contains (statement_types s) ty → P ty

-- the body of a module, before which others stand
record IsModuleBody (bundles : List Bundle) (all : List Module) (scope : Scope) : Type 0 where
  own : Module
  there : Contains all own
  bundles_are : scope.bundles ≡ bundles
  ports_are : scope.ports ≡ own.ports
  statements_are : scope.statements ≡ own.body
  modules_among : (m : Module) → Contains scope.modules m → Contains all m

module_bodies : (bundles : List Bundle) (services : List Service) (before more : List Module) (scope : Scope) → Contains (module_scopes bundles services before more) scope → IsModuleBody bundles (before ++ more) scope
module_bodies bundles services before [] scope c = absurd (contains_none scope c)
module_bodies bundles services before (m ∷ more) scope c =
    elim (contains_cases (module_scope bundles services before m) (module_scopes bundles services (before ++ m ∷ []) more) scope c) [
      | inl is ↦ record {
        own = m;
        there = Contains-append_right before (m ∷ more) m (contains_here m more);
        bundles_are = ap (λ (s : Scope). s.bundles) (sym is);
        ports_are = ap (λ (s : Scope). s.ports) (sym is);
        statements_are = ap (λ (s : Scope). s.statements) (sym is);
        modules_among = λ x d. Contains-append_left before (m ∷ more) x (subst (λ (s : Scope). Contains s.modules x) (sym is) d);
      }
      | inr later ↦ subst (λ (ms : List Module). IsModuleBody bundles ms scope) (append_assoc before (m ∷ []) more) (module_bodies bundles services (before ++ m ∷ []) more scope later)
    ]

module _ (P : EsiType → Type 0) (declarations : List Declaration) (top : Top) (each : (ty : EsiType) → Contains (types_in (F.Modules declarations top)) ty → P ty) where
  of_declaration : (d : Declaration) → Contains declarations d → (ty : EsiType) → Contains (declaration_types d) ty → P ty
  of_declaration d there ty c = each ty (Contains-append_left (flat_map declaration_types declarations) (flat_map top_item_types top.body) ty (flat_contains declaration_types declarations d ty there c))

  of_item : (i : TopItem) → Contains top.body i → (ty : EsiType) → Contains (top_item_types i) ty → P ty
  of_item i there ty c = each ty (Contains-append_right (flat_map declaration_types declarations) (flat_map top_item_types top.body) ty (flat_contains top_item_types top.body i ty there c))

  bundle_holds : (d : Declaration) → Contains declarations d → (b : Bundle) → Contains (bundle_in d) b → (m : Member) → Contains b.members m → P m.ty
  bundle_holds (D.Bundle x) there b c m e =
      of_declaration (D.Bundle x) there m.ty (contains_map member_type x.members m (subst (λ (q : Bundle). Contains q.members m) (sym (contains_one x b c)) e))
  bundle_holds (D.Service x) there b c m e = absurd (contains_none b c)
  bundle_holds (D.Module x) there b c m e = absurd (contains_none b c)

  ports_hold : (d : Declaration) → Contains declarations d → (m : Module) → Contains (module_in d) m → (p : ModulePort) → Contains m.ports p → P p.ty
  ports_hold (D.Bundle x) there m c p e = absurd (contains_none m c)
  ports_hold (D.Service x) there m c p e = absurd (contains_none m c)
  ports_hold (D.Module x) there m c p e =
      of_declaration (D.Module x) there p.ty
      (Contains-append_left (map port_type x.ports) (flat_map statement_types x.body) p.ty (contains_map port_type x.ports p (subst (λ (q : Module). Contains q.ports p) (sym (contains_one x m c)) e)))

  body_holds : (d : Declaration) → Contains declarations d → (m : Module) → Contains (module_in d) m → (s : Statement) → Contains m.body s → (ty : EsiType) → Contains (statement_types s) ty → P ty
  body_holds (D.Bundle x) there m c s e ty h = absurd (contains_none m c)
  body_holds (D.Service x) there m c s e ty h = absurd (contains_none m c)
  body_holds (D.Module x) there m c s e ty h =
      of_declaration (D.Module x) there ty
      (Contains-append_right (map port_type x.ports) (flat_map statement_types x.body) ty (flat_contains statement_types x.body s ty (subst (λ (q : Module). Contains q.body s) (sym (contains_one x m c)) e) h))

  item_holds : (i : TopItem) → Contains top.body i → (s : Statement) → Contains (statement_in i) s → (ty : EsiType) → Contains (statement_types s) ty → P ty
  item_holds (I.Statement x) there s c ty h = of_item (I.Statement x) there ty (subst (λ (q : Statement). Contains (statement_types q) ty) (sym (contains_one x s c)) h)
  item_holds (I.Implement service) there s c ty h = absurd (contains_none s c)

  bundles_hold : (b : Bundle) → Contains (bundles_of declarations) b → (m : Member) → Contains b.members m → P m.ty
  bundles_hold b c m e = let o = contains_flat bundle_in declarations b c in bundle_holds o.item o.there b o.one m e

  modules_hold : (m : Module) → Contains (modules_of declarations) m → (p : ModulePort) → Contains m.ports p → P p.ty
  modules_hold m c p e = let o = contains_flat module_in declarations m c in ports_hold o.item o.there m o.one p e

  bodies_hold : (m : Module) → Contains (modules_of declarations) m → (s : Statement) → Contains m.body s → (ty : EsiType) → Contains (statement_types s) ty → P ty
  bodies_hold m c s e ty h = let o = contains_flat module_in declarations m c in body_holds o.item o.there m o.one s e ty h

  of_module : (scope : Scope) → IsModuleBody (bundles_of declarations) (modules_of declarations) scope → HoldsIn P scope
  of_module scope is = record {
    port = λ p c. modules_hold is.own is.there p (subst (λ (ps : List ModulePort). Contains ps p) is.ports_are c);
    member = λ b c m e. bundles_hold b (subst (λ (bs : List Bundle). Contains bs b) is.bundles_are c) m e;
    module_port = λ m c p e. modules_hold m (is.modules_among m c) p e;
    statement = λ s c ty h. bodies_hold is.own is.there s (subst (λ (ss : List Statement). Contains ss s) is.statements_are c) ty h;
  }

  top_holds : HoldsIn P (top_scope declarations top)
  top_holds = record {
    port = λ p c. absurd (contains_none p c);
    member = λ b c m e. bundles_hold b c m e;
    module_port = λ m c p e. modules_hold m c p e;
    statement = λ s c ty h. let o = contains_flat statement_in top.body s c in item_holds o.item o.there s o.one ty h;
  }

  pub body_types : (scope : Scope) → Contains (scopes declarations top) scope → HoldsIn P scope
  body_types scope c =
      elim (Contains-append_cases (module_scopes (bundles_of declarations) (services_of declarations) [] (modules_of declarations)) (top_scope declarations top ∷ []) scope c) [
        | inl earlier ↦ of_module scope (module_bodies (bundles_of declarations) (services_of declarations) [] (modules_of declarations) scope earlier)
        | inr last ↦ subst (λ (s : Scope). HoldsIn P s) (contains_one (top_scope declarations top) scope last) top_holds
      ]
