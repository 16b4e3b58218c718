-- How large a design is, and how many endpoints it has.
use Rattle.std.specs.Prelude.{◌≡◌, ℕ, ◌+◌, ◌<◌, List, [], ◌∷◌, ◌++◌, map, if◌then◌else◌}
use Rattle.design_tree.specs.declared.leaves.Name.{Name}
use Rattle.design_tree.specs.declared.statements.Operation.{Operation}
use Rattle.design_tree.specs.declared.statements.Operation.TheVariants as O
use Rattle.design_tree.specs.declared.statements.Statement.{Statement}
use Rattle.design_tree.specs.declared.statements.Statement.TheVariants as S
use Rattle.design_tree.specs.declared.declarations.Direction.{Direction}
use Rattle.design_tree.specs.declared.declarations.Direction.TheVariants.{ToHardware, FromHardware}
use Rattle.design_tree.specs.declared.declarations.Member.{Member}
use Rattle.design_tree.specs.declared.declarations.Bundle.{Bundle}
use Rattle.design_tree.specs.declared.declarations.Service.{Service}
use Rattle.design_tree.specs.declared.declarations.Module.{Module}
use Rattle.design_tree.specs.declared.declarations.Declaration.{Declaration}
use Rattle.design_tree.specs.declared.top.Top.{Top}
use Rattle.check_rules.specs.Scopes.{Scope, is_name, bundle_of, bundles_of, services_of, modules_of, module_scope, top_scope}
use Rattle.check_rules.specs.Uses.{members_of}

-- what a body has, its instances included
pub record Totals : Type 0 where
  pub size : ℕ
  pub to_server : ℕ
  pub to_client : ℕ

abbrev pub nothing : Totals
nothing = record { size = 0; to_server = 0; to_client = 0 }

abbrev pub sized : ℕ → Totals
sized n = record { size = n; to_server = 0; to_client = 0 }

abbrev pub both : Totals → Totals → Totals
both a b = record { size = a.size + b.size; to_server = a.to_server + b.to_server; to_client = a.to_client + b.to_client }

abbrev pub in_all : List Totals → Totals
in_all [] = nothing
in_all (t ∷ ts) = both t (in_all ts)

-- a member is an endpoint
abbrev pub member_total : Member → Totals
member_total m = way m.direction
  where
    way : Direction → Totals
    way ToHardware = record { size = 0; to_server = 1; to_client = 0 }
    way FromHardware = record { size = 0; to_server = 0; to_client = 1 }

abbrev pub operation_total : Operation → Totals
operation_total (O.Buffer stages source) = sized stages.value
operation_total other = sized 1

-- a module's name, and what its body has
pub record Measured : Type 0 where
  pub name : Name
  pub totals : Totals

abbrev pub measured_of : Name → List Measured → Totals
measured_of name [] = nothing
measured_of name (m ∷ ms) = if is_name name m.name then m.totals else measured_of name ms

-- what a statement adds, over what the modules before it have
abbrev pub statement_total : Scope → List Measured → Statement → Totals
statement_total scope known (S.Request at service port id) = both (sized 1) (in_all (map member_total (members_of (bundle_of scope service port))))
statement_total scope known (S.Instance at id body bindings) = both (sized 1) (measured_of body known)
statement_total scope known (S.Channels at names operation) = operation_total operation
statement_total scope known (S.Drive at sink source) = nothing

abbrev pub body_total : List Measured → Scope → Totals
body_total known scope = in_all (map (statement_total scope known) scope.statements)

-- what the modules have, each over those before it
abbrev pub measured_from : List Bundle → List Service → List Module → List Measured → List Module → List Measured
measured_from bundles services before known [] = known
measured_from bundles services before known (m ∷ more) =
    measured_from bundles services (before ++ m ∷ []) (known ++ record { name = m.name; totals = body_total known (module_scope bundles services before m) } ∷ []) more

abbrev pub measured : List Declaration → List Measured
measured declarations = measured_from (bundles_of declarations) (services_of declarations) [] [] (modules_of declarations)

-- What the top has: its size counts one for each statement that makes channels, as many as it has stages for a buffer, one for
-- each request and each instance, and besides what the instance's module has. Each member of a request is an endpoint.
abbrev pub top_total : List Declaration → Top → Totals
top_total declarations top = body_total (measured declarations) (top_scope declarations top)

-- The top has more than the limit, which is reported at its name.
pub record Exceeds (limit count : ℕ) (top : Top) (at : ℕ) : Type 0 where
  pub above : limit < count
  pub stands : top.name.at ≡ at
