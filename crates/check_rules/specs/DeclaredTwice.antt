-- Names that are declared twice.
use Rattle.std.specs.Prelude.{ℕ, List, [], ◌∷◌, ◌++◌, map, flat_map, Contains}
use Rattle.design_tree.specs.declared.statements.Operation.{Operation}
use Rattle.design_tree.specs.declared.statements.Operation.TheVariants as O
use Rattle.design_tree.specs.declared.statements.Statement.{Statement}
use Rattle.design_tree.specs.declared.statements.Statement.TheVariants as S
use Rattle.design_tree.specs.declared.declarations.Member.{Member}
use Rattle.design_tree.specs.declared.declarations.ServicePort.{ServicePort}
use Rattle.design_tree.specs.declared.declarations.ModulePort.{ModulePort}
use Rattle.design_tree.specs.declared.declarations.Declaration.{Declaration}
use Rattle.design_tree.specs.declared.declarations.Declaration.TheVariants as D
use Rattle.name_tables.specs.Labels.{Occurrence}
use Rattle.name_tables.specs.Repeats.{IsRepeat}
use Rattle.check_rules.specs.Scopes.{Scope}
use Rattle.check_rules.specs.References.{named, id_named, channels_of}

abbrev pub declaration_named : Declaration → Occurrence
declaration_named (D.Bundle b) = named b.name
declaration_named (D.Service s) = named s.name
declaration_named (D.Module m) = named m.name

abbrev pub member_named : Member → Occurrence
member_named m = named m.name

abbrev pub service_port_named : ServicePort → Occurrence
service_port_named p = named p.name

abbrev pub port_named : ModulePort → Occurrence
port_named p = named p.name

-- the members of a bundle, the ports of a service
abbrev pub declaration_spaces : Declaration → List (List Occurrence)
declaration_spaces (D.Bundle b) = map member_named b.members ∷ []
declaration_spaces (D.Service s) = map service_port_named s.ports ∷ []
declaration_spaces (D.Module m) = []

-- the application id of a request or an instance
abbrev pub ids_of : Statement → List Occurrence
ids_of (S.Request at service port id) = id_named id ∷ []
ids_of (S.Instance at id body bindings) = id_named id ∷ []
ids_of (S.Channels at names operation) = []
ids_of (S.Drive at sink source) = []

-- the two variables of a scan
abbrev pub operation_spaces : Operation → List (List Occurrence)
operation_spaces (O.Scan source state ty initial variable body) = (named state ∷ named variable ∷ []) ∷ []
operation_spaces other = []

abbrev pub statement_spaces : Statement → List (List Occurrence)
statement_spaces (S.Channels at names operation) = operation_spaces operation
statement_spaces other = []

-- the names of a body's own: its module's ports and its channels are one space, its application ids another, and the
-- services that the top implements a third
abbrev pub scope_spaces : Scope → List (List Occurrence)
scope_spaces scope =
    (map port_named scope.ports ++ map named (flat_map channels_of scope.statements))
    ∷ flat_map ids_of scope.statements
    ∷ map named scope.implements
    ∷ flat_map statement_spaces scope.statements

-- The spaces of names of a design: bundles, services and modules are one.
abbrev pub name_spaces : List Declaration → List Scope → List (List Occurrence)
name_spaces declarations scopes = map declaration_named declarations ∷ (flat_map declaration_spaces declarations ++ flat_map scope_spaces scopes)

-- In one of the lists a name stands twice, the later one at the place.
pub record IsRepeatInOne (lists : List (List Occurrence)) (at : ℕ) : Type 0 where
  pub names : List Occurrence
  pub one : Contains lists names
  pub twice : IsRepeat names at

-- A name is declared twice in one space; the second one stands at the place.
abbrev pub BreaksDeclaredTwice : List Declaration → List Scope → ℕ → Type 0
BreaksDeclaredTwice declarations scopes = IsRepeatInOne (name_spaces declarations scopes)
