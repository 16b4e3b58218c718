-- What statements refer to.
use Rattle.std.specs.Prelude.{ℕ, Bool, Option, Some, None, List, [], ◌∷◌, map, flat_map, if◌then◌else◌}
use Rattle.std.specs.List.{list_any}
use Rattle.design_tree.specs.declared.leaves.Name.{Name}
use Rattle.design_tree.specs.declared.leaves.ApplicationId.{ApplicationId}
use Rattle.design_tree.specs.declared.leaves.Reference.{Reference}
use Rattle.design_tree.specs.declared.leaves.Reference.TheVariants as R
use Rattle.design_tree.specs.declared.statements.Binding.{Binding}
use Rattle.design_tree.specs.declared.statements.Operation.{Operation}
use Rattle.design_tree.specs.declared.statements.Operation.TheVariants as O
use Rattle.design_tree.specs.declared.statements.Statement.{Statement}
use Rattle.design_tree.specs.declared.statements.Statement.TheVariants as S
use Rattle.design_tree.specs.declared.declarations.Direction.{Direction}
use Rattle.design_tree.specs.declared.declarations.Direction.TheVariants.{ToHardware, FromHardware}
use Rattle.design_tree.specs.declared.declarations.PortDirection.{PortDirection}
use Rattle.design_tree.specs.declared.declarations.PortDirection.TheVariants.{In, Out}
use Rattle.design_tree.specs.declared.declarations.Member.{Member}
use Rattle.design_tree.specs.declared.declarations.Bundle.{Bundle}
use Rattle.design_tree.specs.declared.declarations.ModulePort.{ModulePort}
use Rattle.design_tree.specs.declared.declarations.Module.{Module}
use Rattle.name_tables.specs.Labels.{Label, Occurrence}
use Rattle.check_rules.specs.declared.referent.Referent.{Referent}
use Rattle.check_rules.specs.declared.referent.Referent.TheVariants as K
use Rattle.check_rules.specs.declared.referent.Resolution.{Resolution}
use Rattle.check_rules.specs.declared.referent.Resolution.TheVariants.{To, Undeclared, Silent}
use Rattle.check_rules.specs.Scopes.{Scope, is_name, find_id, find_member, find_module, find_port, bundle_of}

-- ---- names as they are written

abbrev pub named : Name → Occurrence
named name = record { label = record { owner = None; index = None; name = name.octets }; at = name.at }

abbrev pub id_named : ApplicationId → Occurrence
id_named id = record { label = record { owner = None; index = id.index; name = id.name.octets }; at = id.name.at }

-- a part of a request or an instance, with the place where it stands
abbrev pub part_label : ApplicationId → Name → Label
part_label id part = record { owner = Some id.name.octets; index = id.index; name = part.octets }

abbrev pub reference_label : Reference → Label
reference_label (R.Channel name) = record { owner = None; index = None; name = name.octets }
reference_label (R.Member id name) = part_label id name

-- the first octet of a reference
abbrev pub reference_place : Reference → ℕ
reference_place (R.Channel name) = name.at
reference_place (R.Member id name) = id.name.at

abbrev pub reference_named : Reference → Occurrence
reference_named r = record { label = reference_label r; at = reference_place r }

-- ---- the references of a statement, in the order of the text

abbrev pub operation_sources : Operation → List Reference
operation_sources (O.Stage r) = r ∷ []
operation_sources (O.Fork r) = r ∷ []
operation_sources (O.AsFifo r) = r ∷ []
operation_sources (O.AsVr r) = r ∷ []
operation_sources (O.Buffer stages r) = r ∷ []
operation_sources (O.Fifo depth r) = r ∷ []
operation_sources (O.Join left right) = left ∷ right ∷ []
operation_sources (O.Map r variable body) = r ∷ []
operation_sources (O.Scan r state ty initial variable body) = r ∷ []

abbrev pub binding_source : Binding → Reference
binding_source b = b.source

-- those that it takes as sources
abbrev pub sources_of : Statement → List Reference
sources_of (S.Request at service port id) = []
sources_of (S.Instance at id body bindings) = map binding_source bindings
sources_of (S.Channels at names operation) = operation_sources operation
sources_of (S.Drive at sink source) = source ∷ []

-- those, and the sink that it drives
abbrev pub references_of : Statement → List Reference
references_of (S.Request at service port id) = []
references_of (S.Instance at id body bindings) = map binding_source bindings
references_of (S.Channels at names operation) = operation_sources operation
references_of (S.Drive at sink source) = sink ∷ source ∷ []

-- the names of the channels that it makes
abbrev pub channels_of : Statement → List Name
channels_of (S.Request at service port id) = []
channels_of (S.Instance at id body bindings) = []
channels_of (S.Channels at names operation) = names
channels_of (S.Drive at sink source) = []

-- its first octet
abbrev pub statement_place : Statement → ℕ
statement_place (S.Request at service port id) = at
statement_place (S.Instance at id body bindings) = at
statement_place (S.Channels at names operation) = at
statement_place (S.Drive at sink source) = at

-- ---- what a reference refers to

abbrev pub member_referent : Member → Referent
member_referent m = way m.direction
  where
    way : Direction → Referent
    way ToHardware = K.ToHardware
    way FromHardware = K.FromHardware

abbrev pub port_referent : ModulePort → Referent
port_referent p = way p.direction
  where
    way : PortDirection → Referent
    way In = K.InPort
    way Out = K.OutPort

abbrev pub instance_referent : ModulePort → Referent
instance_referent p = way p.direction
  where
    way : PortDirection → Referent
    way In = K.InstanceIn
    way Out = K.InstanceOut

-- one of the names is this one
abbrev pub is_among : Name → List Name → Bool
is_among name = list_any (is_name name)

-- a name of its own: a port of the module, or else a channel of the body
abbrev pub own_name : Scope → Name → Option ModulePort → Resolution
own_name scope name (Some p) = To (port_referent p)
own_name scope name None = if is_among name (flat_map channels_of scope.statements) then To K.Channel else Undeclared name.at

-- a member of a bundle, or nothing is said where the request's own names are not declared
abbrev pub member_of : Name → Option Bundle → Resolution
member_of name None = Silent
member_of name (Some b) = found (find_member name b.members)
  where
    found : Option Member → Resolution
    found None = Undeclared name.at
    found (Some m) = To (member_referent m)

-- a port of a module, or nothing is said where the instance's module is not declared
abbrev pub port_of : Name → Option Module → Resolution
port_of name None = Silent
port_of name (Some m) = found (find_port name m.ports)
  where
    found : Option ModulePort → Resolution
    found None = Undeclared name.at
    found (Some p) = To (instance_referent p)

-- a part of the request or the instance of an application id
abbrev pub part_of : Scope → ApplicationId → Name → Option Statement → Resolution
part_of scope id name None = Undeclared id.name.at
part_of scope id name (Some (S.Request at service port own)) = member_of name (bundle_of scope service port)
part_of scope id name (Some (S.Instance at own body bindings)) = port_of name (find_module body scope.modules)
part_of scope id name (Some (S.Channels at names operation)) = Silent
part_of scope id name (Some (S.Drive at sink source)) = Silent

-- What a reference of a body refers to, or which of its names is not declared. An application id that is not declared is
-- reported at its first octet, a part that its request or its instance does not have at the name after the dot.
abbrev pub resolve : Scope → Reference → Resolution
resolve scope (R.Channel name) = own_name scope name (find_port name scope.ports)
resolve scope (R.Member id name) = part_of scope id name (find_id id scope.statements)
