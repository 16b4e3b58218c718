-- The places of what is not used, driven or bound, as lists over the walks' bodies.
use Rattle.std.specs.Prelude.{ℕ, Bool, ◌&&◌, not, Option, List, [], ◌∷◌, ◌++◌, map, flat_map, if◌then◌else◌}
use Rattle.std.specs.List.{list_any}
use Rattle.std.specs.Borrow.{Bor}
use Rattle.design_tree.specs.declared.leaves.ApplicationId.{ApplicationId}
use Rattle.design_tree.specs.declared.statements.Binding.{Binding}
use Rattle.design_tree.specs.declared.statements.Statement.{Statement}
use Rattle.design_tree.specs.declared.statements.Statement.TheVariants as S
use Rattle.design_tree.specs.declared.declarations.Bundle.{Bundle}
use Rattle.design_tree.specs.declared.declarations.ModulePort.{ModulePort}
use Rattle.name_tables.specs.Labels.{Label, Occurrence, label_at}
use Rattle.name_tables.specs.Lists.{stands}
use Rattle.check_rules.specs.Scopes.{Scope, bundle_of, find_module}
use Rattle.check_rules.specs.References.{named, part_label}
use Rattle.check_rules.specs.DeclaredTwice.{port_named}
use Rattle.check_rules.specs.Directions.{ports_of}
use Rattle.check_rules.specs.Uses.{is_out, is_in, members_of}
use Rattle.design_scopes.specs.declared.body.Body.{Body}
use Rattle.design_scopes.specs.declared.declared.Declared.{Declared}
use Rattle.design_scopes.specs.Tables.{port_label}
use Rattle.design_names.specs.Places.{statement_used}
use Rattle.design_scopes.specs.Resolving.{scope_in}

-- the place of a name, if it is none of the known ones
abbrev pub missing_one : List Label → Occurrence → List ℕ
missing_one known o = if stands o.label known then [] else o.at ∷ []

-- whether a member of a request is not used
abbrev pub members_unused : List Label → ApplicationId → Option Bundle → Bool
members_unused used id bundle = list_any (λ m. not (stands (part_label id m.name) used)) (members_of bundle)

-- whether an `out` port of an instance is not used
abbrev pub outs_unused : List Label → ApplicationId → List ModulePort → Bool
outs_unused used id ports = list_any (λ p. is_out p && not (stands (part_label id p.name) used)) ports

-- whether an `in` port of an instance is not bound
abbrev pub ins_unbound : List Label → List ModulePort → Bool
ins_unbound bound ports = list_any (λ p. is_in p && not (stands (port_label p) bound)) ports

abbrev pub binding_label : Binding → Label
binding_label b = (named b.port).label

abbrev pub place_where : Bool → ℕ → List ℕ
place_where b at = if b then at ∷ [] else []

-- what a statement declares that is not used
abbrev pub unused_by : Scope → List Label → Statement → List ℕ
unused_by scope used (S.Request at service port id) = place_where (members_unused used id (bundle_of scope service port)) at
unused_by scope used (S.Instance at id body bindings) = place_where (outs_unused used id (ports_of (find_module body scope.modules))) at
unused_by scope used (S.Channels at names operation) = flat_map (λ n. missing_one used (named n)) names
unused_by scope used (S.Drive at sink source) = []

-- what an instance does not bind
abbrev pub unbound_by : Scope → Statement → List ℕ
unbound_by scope (S.Instance at id body bindings) = place_where (ins_unbound (map binding_label bindings) (ports_of (find_module body scope.modules))) at
unbound_by scope (S.Request at service port id) = []
unbound_by scope (S.Channels at names operation) = []
unbound_by scope (S.Drive at sink source) = []

abbrev pub used_labels : List (Bor Statement) → List Label
used_labels statements = map label_at (flat_map (λ s. statement_used s.now) statements)

abbrev pub body_unused : Declared → Body → List ℕ
body_unused d b =
    flat_map (λ p. missing_one (used_labels b.statements) (port_named p)) b.ports.now
    ++ (flat_map (λ s. unused_by (scope_in d b) (used_labels b.statements) s.now) b.statements ++ flat_map (λ s. unbound_by (scope_in d b) s.now) b.statements)
