-- The bodies of a design, and what can be named in each.
use Rattle.std.specs.Prelude.{Bool, Option, Some, None, List, [], ◌∷◌, ◌++◌, find, flat_map, bytes_eq, ◌&&◌, false}
use Rattle.name_tables.specs.Labels.{same_index}
use Rattle.design_tree.specs.declared.leaves.Name.{Name}
use Rattle.design_tree.specs.declared.leaves.ApplicationId.{ApplicationId}
use Rattle.design_tree.specs.declared.statements.Statement.{Statement}
use Rattle.design_tree.specs.declared.statements.Statement.TheVariants as S
use Rattle.design_tree.specs.declared.declarations.Member.{Member}
use Rattle.design_tree.specs.declared.declarations.Bundle.{Bundle}
use Rattle.design_tree.specs.declared.declarations.ServicePort.{ServicePort}
use Rattle.design_tree.specs.declared.declarations.Service.{Service}
use Rattle.design_tree.specs.declared.declarations.ModulePort.{ModulePort}
use Rattle.design_tree.specs.declared.declarations.Module.{Module}
use Rattle.design_tree.specs.declared.declarations.Declaration.{Declaration}
use Rattle.design_tree.specs.declared.declarations.Declaration.TheVariants as D
use Rattle.design_tree.specs.declared.top.TopItem.{TopItem}
use Rattle.design_tree.specs.declared.top.TopItem.TheVariants as P
use Rattle.design_tree.specs.declared.top.Top.{Top}

-- ---- the declarations of each kind, in the order of the text

abbrev pub bundle_in : Declaration → List Bundle
bundle_in (D.Bundle b) = b ∷ []
bundle_in (D.Service s) = []
bundle_in (D.Module m) = []

abbrev pub service_in : Declaration → List Service
service_in (D.Bundle b) = []
service_in (D.Service s) = s ∷ []
service_in (D.Module m) = []

abbrev pub module_in : Declaration → List Module
module_in (D.Bundle b) = []
module_in (D.Service s) = []
module_in (D.Module m) = m ∷ []

abbrev pub bundles_of : List Declaration → List Bundle
bundles_of = flat_map bundle_in

abbrev pub services_of : List Declaration → List Service
services_of = flat_map service_in

abbrev pub modules_of : List Declaration → List Module
modules_of = flat_map module_in

-- ---- bodies

-- The body of a module or of the top, with what can be named in it. Bundles and services may stand anywhere among the
-- declarations; of modules, those count that stand before the body.
pub record Scope : Type 0 where
  pub bundles : List Bundle
  pub services : List Service
  pub modules : List Module
  -- the ports of the module itself
  pub ports : List ModulePort
  pub statements : List Statement
  -- the services that the top implements
  pub implements : List Name

-- the body of a module, before which others stand
abbrev pub module_scope : List Bundle → List Service → List Module → Module → Scope
module_scope bundles services before m = record { bundles = bundles; services = services; modules = before; ports = m.ports; statements = m.body; implements = [] }

abbrev pub module_scopes : List Bundle → List Service → List Module → List Module → List Scope
module_scopes bundles services before [] = []
module_scopes bundles services before (m ∷ more) = module_scope bundles services before m ∷ module_scopes bundles services (before ++ m ∷ []) more

abbrev pub statement_in : TopItem → List Statement
statement_in (P.Statement s) = s ∷ []
statement_in (P.Implement service) = []

abbrev pub implement_in : TopItem → List Name
implement_in (P.Statement s) = []
implement_in (P.Implement service) = service ∷ []

abbrev pub top_scope : List Declaration → Top → Scope
top_scope declarations top = record {
  bundles = bundles_of declarations;
  services = services_of declarations;
  modules = modules_of declarations;
  ports = [];
  statements = flat_map statement_in top.body;
  implements = flat_map implement_in top.body;
}

-- The bodies of a design in the order of its text: those of its modules, then the top's.
abbrev pub scopes : List Declaration → Top → List Scope
scopes declarations top = module_scopes (bundles_of declarations) (services_of declarations) [] (modules_of declarations) ++ top_scope declarations top ∷ []

-- ---- the first declaration of a name

abbrev pub is_name : Name → Name → Bool
is_name a b = bytes_eq a.octets b.octets

abbrev pub find_bundle : Name → List Bundle → Option Bundle
find_bundle name = find (λ b. is_name name b.name)

abbrev pub find_service : Name → List Service → Option Service
find_service name = find (λ s. is_name name s.name)

abbrev pub find_module : Name → List Module → Option Module
find_module name = find (λ m. is_name name m.name)

abbrev pub find_member : Name → List Member → Option Member
find_member name = find (λ m. is_name name m.name)

abbrev pub find_service_port : Name → List ServicePort → Option ServicePort
find_service_port name = find (λ p. is_name name p.name)

abbrev pub find_port : Name → List ModulePort → Option ModulePort
find_port name = find (λ p. is_name name p.name)

-- `a[1]` and `a[0x1]` are one id; `a` and `a[0]` are two
abbrev pub is_id : ApplicationId → ApplicationId → Bool
is_id a b = same_index a.index b.index && is_name a.name b.name

-- the application id that a statement declares
abbrev pub id_of : Statement → Option ApplicationId
id_of (S.Request at service port id) = Some id
id_of (S.Instance at id body bindings) = Some id
id_of (S.Channels at names operation) = None
id_of (S.Drive at sink source) = None

abbrev pub declares : ApplicationId → Statement → Bool
declares id s = is_declared (id_of s)
  where
    is_declared : Option ApplicationId → Bool
    is_declared None = false
    is_declared (Some own) = is_id id own

-- the request or the instance of an application id
abbrev pub find_id : ApplicationId → List Statement → Option Statement
find_id id = find (declares id)

-- what is found by what was found
abbrev pub and_then : {A B : Type 0} → Option A → (A → Option B) → Option B
and_then None more = None
and_then (Some found) more = more found

-- the bundle that a request of a service's port gives
abbrev pub bundle_of : Scope → Name → Name → Option Bundle
bundle_of scope service port =
    and_then (find_service service scope.services) (λ s. and_then (find_service_port port s.ports) (λ p. find_bundle p.bundle scope.bundles))
