-- What is used twice, and what is not used.
use Rattle.std.specs.Prelude.{ℕ, Bool, true, false, not, Option, Some, None, List, [], ◌∷◌, ◌++◌, map, flat_map, filter, Contains}
use Rattle.design_tree.specs.declared.leaves.Name.{Name}
use Rattle.design_tree.specs.declared.leaves.ApplicationId.{ApplicationId}
use Rattle.design_tree.specs.declared.statements.Binding.{Binding}
use Rattle.design_tree.specs.declared.statements.Statement.{Statement}
use Rattle.design_tree.specs.declared.statements.Statement.TheVariants as S
use Rattle.design_tree.specs.declared.declarations.PortDirection.{PortDirection}
use Rattle.design_tree.specs.declared.declarations.PortDirection.TheVariants.{In, Out}
use Rattle.design_tree.specs.declared.declarations.Member.{Member}
use Rattle.design_tree.specs.declared.declarations.Bundle.{Bundle}
use Rattle.design_tree.specs.declared.declarations.ModulePort.{ModulePort}
use Rattle.name_tables.specs.Labels.{Label, Occurrence, label_at}
use Rattle.name_tables.specs.Repeats.{IsUnknown}
use Rattle.check_rules.specs.Scopes.{Scope, bundle_of, find_module}
use Rattle.check_rules.specs.References.{named, part_label, reference_named, references_of}
use Rattle.check_rules.specs.DeclaredTwice.{IsRepeatInOne, port_named}
use Rattle.check_rules.specs.Directions.{ports_of}

-- ---- used, driven or bound twice
-- Names of a body are declared once, and each reference goes the right way: so two references are to one thing exactly where
-- they are written with one name, and a thing is a source or a sink.

-- the references of a body, in the order of the text
abbrev pub used_in : Scope → List Occurrence
used_in scope = map reference_named (flat_map references_of scope.statements)

abbrev pub binding_named : Binding → Occurrence
binding_named b = named b.port

-- the ports that an instance binds
abbrev pub bound_in : Statement → List (List Occurrence)
bound_in (S.Instance at id body bindings) = map binding_named bindings ∷ []
bound_in other = []

abbrev pub scope_uses : Scope → List (List Occurrence)
scope_uses scope = used_in scope ∷ flat_map bound_in scope.statements

-- At the place stands a reference to what the body used or drove before, or a port that its instance has bound before.
abbrev pub BreaksUsedTwice : List Scope → ℕ → Type 0
BreaksUsedTwice scopes = IsRepeatInOne (flat_map scope_uses scopes)

-- ---- what has to be used

abbrev pub members_of : Option Bundle → List Member
members_of None = []
members_of (Some b) = b.members

abbrev pub is_out : ModulePort → Bool
is_out p = way p.direction
  where
    way : PortDirection → Bool
    way In = false
    way Out = true

abbrev pub is_in : ModulePort → Bool
is_in p = not (is_out p)

-- a part of a request or an instance, at the place of its statement
abbrev pub part_at : ℕ → ApplicationId → Name → Occurrence
part_at at id name = record { label = part_label id name; at = at }

-- Each with the place at which it is reported: all members of a request and the `out` ports of an instance at the statement, a
-- channel at its name.
abbrev pub declared_by : Scope → Statement → List Occurrence
declared_by scope (S.Request at service port id) = map (λ (m : Member). part_at at id m.name) (members_of (bundle_of scope service port))
declared_by scope (S.Instance at id body bindings) = map (λ (p : ModulePort). part_at at id p.name) (filter is_out (ports_of (find_module body scope.modules)))
declared_by scope (S.Channels at names operation) = map named names
declared_by scope (S.Drive at sink source) = []

-- the ports of the module and what each statement declares
abbrev pub due_in : Scope → List Occurrence
due_in scope = map port_named scope.ports ++ flat_map (declared_by scope) scope.statements

-- names that have to be among others
pub record Due : Type 0 where
  pub due : List Occurrence
  pub used : List Label

-- the `in` ports of an instance, at its statement, have to be among those that it binds
abbrev pub binds_due : Scope → Statement → List Due
binds_due scope (S.Instance at id body bindings) = record {
  due = map (λ (p : ModulePort). record { label = (named p.name).label; at = at }) (filter is_in (ports_of (find_module body scope.modules)));
  used = map (λ (b : Binding). (named b.port).label) bindings;
} ∷ []
binds_due scope other = []

abbrev pub scope_due : Scope → List Due
scope_due scope = record { due = due_in scope; used = map label_at (used_in scope) } ∷ flat_map (binds_due scope) scope.statements

-- At the place is declared what no reference of its body is to, or stands an instance that does not bind an `in` port.
pub record BreaksUnused (scopes : List Scope) (at : ℕ) : Type 0 where
  pub names : Due
  pub one : Contains (flat_map scope_due scopes) names
  pub missing : IsUnknown names.used names.due at
