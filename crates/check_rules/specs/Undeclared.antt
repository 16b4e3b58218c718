-- Names that are looked up and not declared.
use Rattle.std.specs.Prelude.{ℕ, Option, Some, None, List, [], ◌∷◌, ◌++◌, flat_map, Contains, if◌then◌else◌}
use Rattle.design_tree.specs.declared.leaves.Name.{Name}
use Rattle.design_tree.specs.declared.expression.Expression.{Expression}
use Rattle.design_tree.specs.declared.expression.Expression.TheOpen.{Expression-F}
use Rattle.design_tree.specs.declared.expression.Expression.TheFolds.{fold-Expression}
use Rattle.design_tree.specs.declared.statements.Binding.{Binding}
use Rattle.design_tree.specs.declared.statements.Operation.{Operation}
use Rattle.design_tree.specs.declared.statements.Operation.TheVariants as O
use Rattle.design_tree.specs.declared.statements.Statement.{Statement}
use Rattle.design_tree.specs.declared.statements.Statement.TheVariants as S
use Rattle.design_tree.specs.declared.declarations.Bundle.{Bundle}
use Rattle.design_tree.specs.declared.declarations.ServicePort.{ServicePort}
use Rattle.design_tree.specs.declared.declarations.Service.{Service}
use Rattle.check_rules.specs.declared.referent.Resolution.{Resolution}
use Rattle.check_rules.specs.declared.referent.Resolution.TheVariants.{To, Undeclared, Silent}
use Rattle.check_rules.specs.Scopes.{Scope, find_bundle, find_service, find_service_port, find_module, find_port}
use Rattle.check_rules.specs.References.{is_among, references_of, resolve}

-- the place of a name for which nothing was found, or else the places that follow from what was
abbrev pub look_up : {A : Type 0} → Name → Option A → (A → List ℕ) → List ℕ
look_up name None more = name.at ∷ []
look_up name (Some found) more = more found

abbrev pub no_more : {A : Type 0} → A → List ℕ
no_more found = []

-- ---- the names of declarations: the bundle of a service's port

abbrev pub service_undeclared : List Bundle → Service → List ℕ
service_undeclared bundles s = flat_map (λ (p : ServicePort). look_up p.bundle (find_bundle p.bundle bundles) no_more) s.ports

-- ---- the names of a statement: a request's service and its port, an instance's module and the ports that it binds

abbrev pub names_undeclared : Scope → Statement → List ℕ
names_undeclared scope (S.Request at service port id) =
    look_up service (find_service service scope.services) (λ s. look_up port (find_service_port port s.ports) no_more)
names_undeclared scope (S.Instance at id body bindings) =
    look_up body (find_module body scope.modules) (λ m. flat_map (λ (b : Binding). look_up b.port (find_port b.port m.ports) no_more) bindings)
names_undeclared scope (S.Channels at names operation) = []
names_undeclared scope (S.Drive at sink source) = []

-- ---- the variables of an expression

abbrev pub variables_step : Expression-F (List Name) → List Name
variables_step (Expression-F.Variable name) = name ∷ []
variables_step (Expression-F.Part of suffixes) = of
variables_step (Expression-F.Literal at ty value) = []
variables_step (Expression-F.Make at ty parts) = flat_map (λ part. part) parts
variables_step (Expression-F.Cast at ty of) = of
variables_step (Expression-F.Zext at width of) = of
variables_step (Expression-F.Slice at high low of) = of
variables_step (Expression-F.Not at of) = of
variables_step (Expression-F.Binary at operator left right) = left ++ right
variables_step (Expression-F.Mux at condition when_one when_zero) = condition ++ when_one ++ when_zero

-- the variables that stand in an expression, in the order of the text
abbrev pub variables_of : Expression → List Name
variables_of = fold-Expression (List Name) variables_step

-- those that are none of the known names
abbrev pub expression_undeclared : List Name → Expression → List ℕ
expression_undeclared known body = flat_map (λ (name : Name). if is_among name known then [] else name.at ∷ []) (variables_of body)

abbrev pub operation_undeclared : Operation → List ℕ
operation_undeclared (O.Map source variable body) = expression_undeclared (variable ∷ []) body
operation_undeclared (O.Scan source state ty initial variable body) = expression_undeclared (state ∷ variable ∷ []) body
operation_undeclared other = []

abbrev pub variables_undeclared : Statement → List ℕ
variables_undeclared (S.Channels at names operation) = operation_undeclared operation
variables_undeclared other = []

-- ---- references

abbrev pub undeclared_in : Resolution → List ℕ
undeclared_in (To referent) = []
undeclared_in (Undeclared at) = at ∷ []
undeclared_in Silent = []

abbrev pub references_undeclared : Scope → Statement → List ℕ
references_undeclared scope statement = flat_map (λ r. undeclared_in (resolve scope r)) (references_of statement)

-- ---- all of them

abbrev pub statement_undeclared : Scope → Statement → List ℕ
statement_undeclared scope statement = names_undeclared scope statement ++ variables_undeclared statement ++ references_undeclared scope statement

abbrev pub scope_undeclared : Scope → List ℕ
scope_undeclared scope =
    flat_map (statement_undeclared scope) scope.statements ++ flat_map (λ name. look_up name (find_service name scope.services) no_more) scope.implements

abbrev pub undeclared_places : List Bundle → List Service → List Scope → List ℕ
undeclared_places bundles services scopes = flat_map (service_undeclared bundles) services ++ flat_map scope_undeclared scopes

-- A name stands at the place that is looked up there and not declared: a bundle, a service, a service's port, a module that
-- stands before, a port of an instance, a channel, an application id, a part of a request or an instance, or a variable.
-- Where that to which a name belongs is not declared itself, it is not looked up.
abbrev pub BreaksUndeclared : List Bundle → List Service → List Scope → ℕ → Type 0
BreaksUndeclared bundles services scopes at = Contains (undeclared_places bundles services scopes) at
