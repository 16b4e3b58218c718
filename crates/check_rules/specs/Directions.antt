-- References that go the wrong way.
use Rattle.std.specs.Prelude.{ℕ, Bool, true, false, Option, Some, None, List, [], ◌∷◌, ◌++◌, flat_map, Contains, if◌then◌else◌}
use Rattle.design_tree.specs.declared.leaves.Reference.{Reference}
use Rattle.design_tree.specs.declared.statements.Binding.{Binding}
use Rattle.design_tree.specs.declared.statements.Statement.{Statement}
use Rattle.design_tree.specs.declared.statements.Statement.TheVariants as S
use Rattle.design_tree.specs.declared.declarations.PortDirection.{PortDirection}
use Rattle.design_tree.specs.declared.declarations.PortDirection.TheVariants.{In, Out}
use Rattle.design_tree.specs.declared.declarations.ModulePort.{ModulePort}
use Rattle.design_tree.specs.declared.declarations.Module.{Module}
use Rattle.check_rules.specs.declared.referent.Referent.{Referent}
use Rattle.check_rules.specs.declared.referent.Referent.TheVariants as K
use Rattle.check_rules.specs.declared.referent.Resolution.{Resolution}
use Rattle.check_rules.specs.declared.referent.Resolution.TheVariants.{To, Undeclared, Silent}
use Rattle.check_rules.specs.Scopes.{Scope, find_module, find_port}
use Rattle.check_rules.specs.References.{reference_place, sources_of, resolve}

-- what a statement may take
abbrev pub is_source : Referent → Bool
is_source K.InPort = true
is_source K.OutPort = false
is_source K.Channel = true
is_source K.ToHardware = true
is_source K.FromHardware = false
is_source K.InstanceIn = false
is_source K.InstanceOut = true

-- what a statement may drive
abbrev pub is_sink : Referent → Bool
is_sink K.InPort = false
is_sink K.OutPort = true
is_sink K.Channel = false
is_sink K.ToHardware = false
is_sink K.FromHardware = true
is_sink K.InstanceIn = false
is_sink K.InstanceOut = false

-- the place of a reference to something else
abbrev pub unless : (Referent → Bool) → ℕ → Resolution → List ℕ
unless test at (To referent) = if test referent then [] else at ∷ []
unless test at (Undeclared other) = []
unless test at Silent = []

abbrev pub wrong_sources : Scope → Statement → List ℕ
wrong_sources scope statement = flat_map (λ r. unless is_source (reference_place r) (resolve scope r)) (sources_of statement)

abbrev pub wrong_sinks : Scope → Statement → List ℕ
wrong_sinks scope (S.Drive at sink source) = unless is_sink (reference_place sink) (resolve scope sink)
wrong_sinks scope other = []

-- the place of what an `out` port is bound to
abbrev pub bound_out : Option ModulePort → Reference → List ℕ
bound_out None r = []
bound_out (Some p) r = way p.direction
  where
    way : PortDirection → List ℕ
    way In = []
    way Out = reference_place r ∷ []

abbrev pub ports_of : Option Module → List ModulePort
ports_of None = []
ports_of (Some m) = m.ports

abbrev pub bound_outs : Scope → Statement → List ℕ
bound_outs scope (S.Instance at id body bindings) =
    flat_map (λ (b : Binding). bound_out (find_port b.port (ports_of (find_module body scope.modules))) b.source) bindings
bound_outs scope other = []

abbrev pub statement_directions : Scope → Statement → List ℕ
statement_directions scope statement = wrong_sources scope statement ++ wrong_sinks scope statement ++ bound_outs scope statement

abbrev pub scope_directions : Scope → List ℕ
scope_directions scope = flat_map (statement_directions scope) scope.statements

-- At the place stands a reference to a sink where a source is taken, to something else than a sink where one is driven, or
-- one to which an `out` port of an instance is bound.
abbrev pub BreaksDirections : List Scope → ℕ → Type 0
BreaksDirections scopes at = Contains (flat_map scope_directions scopes) at
