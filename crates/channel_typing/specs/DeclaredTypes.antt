-- The types that are declared: of the ports of a module, of the members of a request, of the ports of an instance.
use Rattle.std.specs.Prelude.{Option, Some, None}
use Rattle.std.specs.Option.{option_map}
use Rattle.channel_types.specs.declared.esi_type.EsiType.{EsiType}
use Rattle.design_tree.specs.declared.leaves.Name.{Name}
use Rattle.design_tree.specs.declared.leaves.Reference.{Reference}
use Rattle.design_tree.specs.declared.leaves.Reference.TheVariants as R
use Rattle.design_tree.specs.declared.statements.Statement.{Statement}
use Rattle.design_tree.specs.declared.statements.Statement.TheVariants as S
use Rattle.design_tree.specs.declared.declarations.Member.{Member}
use Rattle.design_tree.specs.declared.declarations.Bundle.{Bundle}
use Rattle.design_tree.specs.declared.declarations.ModulePort.{ModulePort}
use Rattle.design_tree.specs.declared.declarations.Module.{Module}
use Rattle.check_rules.specs.Scopes.{Scope, and_then, find_id, find_member, find_module, find_port, bundle_of}

abbrev pub type_of_port : ModulePort → EsiType
type_of_port p = p.ty

abbrev pub type_of_member : Member → EsiType
type_of_member m = m.ty

-- the type of a member of a bundle, and of a port of a module
abbrev pub member_type : Name → Option Bundle → Option EsiType
member_type name bundle = and_then bundle (λ b. option_map type_of_member (find_member name b.members))

abbrev pub port_type : Name → Option Module → Option EsiType
port_type name body = and_then body (λ m. option_map type_of_port (find_port name m.ports))

-- the type of a part of a request or of an instance
abbrev pub part_type : Scope → Name → Option Statement → Option EsiType
part_type scope name None = None
part_type scope name (Some (S.Request at service port id)) = member_type name (bundle_of scope service port)
part_type scope name (Some (S.Instance at id body bindings)) = port_type name (find_module body scope.modules)
part_type scope name (Some (S.Channels at names operation)) = None
part_type scope name (Some (S.Drive at sink source)) = None

-- The type that a reference of a body has by a declaration: a port of its module has its own, a member of a request that of
-- the bundle, a port of an instance that of the instance's module. A channel has none: its type is found.
abbrev pub declared_type : Scope → Reference → Option EsiType
declared_type scope (R.Channel name) = option_map type_of_port (find_port name scope.ports)
declared_type scope (R.Member id name) = part_type scope name (find_id id scope.statements)
