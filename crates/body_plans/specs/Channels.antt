-- The channels of a body: those that it is given, then those that its elements make, in element order.
use Rattle.std.specs.Prelude.{ℕ, ◌-◌, Bool, true, false, Option, Some, None, List, [], ◌++◌, map, flat_map, filter, replicate, length, slice_get, unwrap_or, codes}
use Rattle.design_tree.specs.declared.leaves.Name.{Name}
use Rattle.design_tree.specs.declared.leaves.ApplicationId.{ApplicationId}
use Rattle.design_tree.specs.declared.statements.Statement.{Statement}
use Rattle.design_tree.specs.declared.statements.Statement.TheVariants as S
use Rattle.design_tree.specs.declared.declarations.Direction.{Direction}
use Rattle.design_tree.specs.declared.declarations.Direction.TheVariants.{ToHardware, FromHardware}
use Rattle.design_tree.specs.declared.declarations.Member.{Member}
use Rattle.design_tree.specs.declared.declarations.Bundle.{Bundle}
use Rattle.design_tree.specs.declared.declarations.ModulePort.{ModulePort}
use Rattle.name_tables.specs.Labels.{Label}
use Rattle.name_tables.specs.Lists.{index_in}
use Rattle.check_rules.specs.Scopes.{Scope, and_then, bundle_of, find_module}
use Rattle.check_rules.specs.References.{named, part_label}
use Rattle.check_rules.specs.Directions.{ports_of}
use Rattle.check_rules.specs.Uses.{members_of, is_in, is_out}
use Rattle.body_plans.specs.declared.endpoints.Endpoints.{Endpoints}
use Rattle.body_plans.specs.declared.ordered.OrderedElement.{OrderedElement}

-- ---- channels by name

-- A channel of a body: the name by which references are to it, and for an endpoint of an instance the instance's application
-- id, with the word of its side.
pub record Channel : Type 0 where
  pub name : Label
  pub endpoint : Label

-- what no reference is to: one without an application id has no index
abbrev pub no_name : Label
no_name = record { owner = None; index = Some 0; name = [] }

abbrev pub under_name : Label → Channel
under_name label = record { name = label; endpoint = no_name }

-- an endpoint of an instance, on the side to the server or to the client
abbrev pub server_label : ApplicationId → Label
server_label id = record { owner = Some id.name.octets; index = id.index; name = codes "to_server" }

abbrev pub client_label : ApplicationId → Label
client_label id = record { owner = Some id.name.octets; index = id.index; name = codes "to_client" }

abbrev pub under_endpoint : Label → Channel
under_endpoint label = record { name = no_name; endpoint = label }

-- between two parts in a row
abbrev pub inner : Channel
inner = record { name = no_name; endpoint = no_name }

abbrev pub name_channel : Name → Channel
name_channel name = under_name (named name).label

abbrev pub port_channel : ModulePort → Channel
port_channel p = name_channel p.name

abbrev pub member_channel : ApplicationId → Member → Channel
member_channel id m = under_name (part_label id m.name)

abbrev pub instance_channel : ApplicationId → ModulePort → Channel
instance_channel id p = under_name (part_label id p.name)

-- ---- the modules that stand before

-- the names of all modules, and the endpoints of the first of them, of each with its instances
pub record Before : Type 0 where
  pub names : List Label
  pub endpoints : List Endpoints

abbrev pub no_endpoints : Endpoints
no_endpoints = record { to_server = 0; to_client = 0 }

-- the number of the first module of a name
abbrev pub module_number : Before → Name → Option ℕ
module_number before name = index_in (named name).label before.names

abbrev pub endpoints_of : Before → Name → Endpoints
endpoints_of before name = unwrap_or (and_then (module_number before name) (slice_get before.endpoints)) no_endpoints

-- ---- channels that a body is given

abbrev pub is_to_server : Member → Bool
is_to_server m = way m.direction
  where
    way : Direction → Bool
    way ToHardware = true
    way FromHardware = false

abbrev pub is_to_client : Member → Bool
is_to_client m = way m.direction
  where
    way : Direction → Bool
    way ToHardware = false
    way FromHardware = true

abbrev pub server_members : Option Bundle → List Member
server_members bundle = filter is_to_server (members_of bundle)

abbrev pub client_members : Option Bundle → List Member
client_members bundle = filter is_to_client (members_of bundle)

-- the endpoints to the server that a statement brings: the members of a request, and as many as an instance's module has
abbrev pub server_channels : Scope → Before → Statement → List Channel
server_channels scope before (S.Request at service port id) = map (member_channel id) (server_members (bundle_of scope service port))
server_channels scope before (S.Instance at id body bindings) = replicate (endpoints_of before body).to_server (under_endpoint (server_label id))
server_channels scope before (S.Channels at names operation) = []
server_channels scope before (S.Drive at sink source) = []

abbrev pub server_endpoints : Scope → Before → List Channel
server_endpoints scope before = flat_map (server_channels scope before) scope.statements

-- A body is given its `in` ports and its endpoints to the server, in the order of the text.
abbrev pub given : Scope → Before → List Channel
given scope before = map port_channel (filter is_in scope.ports) ++ server_endpoints scope before

-- ---- channels that elements make

-- An operation makes channels under their names, and before them one between any two of its parts; an instance makes its `out`
-- ports and its endpoints to the client.
abbrev pub made_by : Scope → Before → OrderedElement → Statement → List Channel
made_by scope before o (S.Request at service port id) = []
made_by scope before o (S.Instance at id body bindings) =
    map (instance_channel id) (filter is_out (ports_of (find_module body scope.modules))) ++ replicate (endpoints_of before body).to_client (under_endpoint (client_label id))
made_by scope before o (S.Channels at names operation) = replicate (o.count - 1) inner ++ map name_channel names
made_by scope before o (S.Drive at sink source) = []

abbrev pub made_if : Scope → Before → OrderedElement → Option Statement → List Channel
made_if scope before o None = []
made_if scope before o (Some statement) = made_by scope before o statement

-- what the element of a number makes
abbrev pub made_at : Scope → Before → List Statement → OrderedElement → List Channel
made_at scope before elements o = made_if scope before o (slice_get elements o.number)

-- All channels of a body, where its elements stand in an order.
abbrev pub channels : Scope → Before → List Statement → List OrderedElement → List Channel
channels scope before elements order = given scope before ++ flat_map (made_at scope before elements) order

-- ---- where a channel stands

abbrev pub name_of : Channel → Label
name_of c = c.name

abbrev pub endpoint_of : Channel → Label
endpoint_of c = c.endpoint

-- The names of a body's channels, the endpoints of instances among them, and how many channels there are.
pub record Places : Type 0 where
  pub names : List Label
  pub endpoints : List Label
  pub count : ℕ

abbrev pub places_of : List Channel → Places
places_of cs = record { names = map name_of cs; endpoints = map endpoint_of cs; count = length cs }

-- the first place of a label
abbrev pub place_in : List Label → Label → ℕ
place_in labels label = unwrap_or (index_in label labels) 0
