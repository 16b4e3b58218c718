-- The places of the rules on references, as lists over the walks' bodies.
use Rattle.std.specs.Prelude.{ℕ, List, ◌++◌, flat_map}
use Rattle.design_tree.specs.declared.leaves.Reference.{Reference}
use Rattle.design_tree.specs.declared.statements.Binding.{Binding}
use Rattle.design_tree.specs.declared.leaves.Name.{Name}
use Rattle.design_tree.specs.declared.declarations.Bundle.{Bundle}
use Rattle.design_tree.specs.declared.declarations.ServicePort.{ServicePort}
use Rattle.design_tree.specs.declared.declarations.Service.{Service}
use Rattle.design_tree.specs.declared.declarations.ModulePort.{ModulePort}
use Rattle.design_tree.specs.declared.declarations.Module.{Module}
use Rattle.check_rules.specs.Scopes.{Scope, find_port, find_service, find_bundle}
use Rattle.check_rules.specs.References.{reference_place, resolve}
use Rattle.check_rules.specs.Directions.{is_source, unless, bound_out, statement_directions}
use Rattle.check_rules.specs.Undeclared.{undeclared_in, statement_undeclared, look_up, no_more}
use Rattle.design_scopes.specs.declared.body.Body.{Body}
use Rattle.design_scopes.specs.declared.declared.Declared.{Declared}
use Rattle.design_scopes.specs.Resolving.{scope_in}

-- ---- references that go the wrong way

abbrev pub wrong_source : Scope → Reference → List ℕ
wrong_source scope r = unless is_source (reference_place r) (resolve scope r)

abbrev pub binding_wrong : Scope → Binding → List ℕ
binding_wrong scope b = wrong_source scope b.source

abbrev pub binding_out : List ModulePort → Binding → List ℕ
binding_out ports b = bound_out (find_port b.port ports) b.source

abbrev pub body_wrong : Declared → Body → List ℕ
body_wrong d b = flat_map (λ s. statement_directions (scope_in d b) s.now) b.statements

-- ---- names that are not declared

abbrev pub reference_undeclared : Scope → Reference → List ℕ
reference_undeclared scope r = undeclared_in (resolve scope r)

abbrev pub binding_undeclared : Scope → Binding → List ℕ
binding_undeclared scope b = reference_undeclared scope b.source

-- the bundle of a service's port
abbrev pub port_bundle_undeclared : List Bundle → ServicePort → List ℕ
port_bundle_undeclared bundles p = look_up p.bundle (find_bundle p.bundle bundles) no_more

-- a port that an instance binds
abbrev pub bound_port_undeclared : Module → Binding → List ℕ
bound_port_undeclared m b = look_up b.port (find_port b.port m.ports) no_more

-- a service that the top implements
abbrev pub implement_undeclared : List Service → Name → List ℕ
implement_undeclared services name = look_up name (find_service name services) no_more

abbrev pub body_undeclared : Declared → Body → List ℕ
body_undeclared d b = flat_map (λ s. statement_undeclared (scope_in d b) s.now) b.statements ++ flat_map (λ n. implement_undeclared d.services n.now) b.implements
