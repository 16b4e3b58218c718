-- The endpoints of a design with their names (docs/design-text.md).
use Rattle.std.specs.Prelude.{ℕ, Bool, true, false, List, ◌∷◌, ◌++◌, All, map, filter}
use Rattle.channel_types.specs.declared.esi_type.EsiType.{EsiType}
use Rattle.channel_types.specs.Types.{IsGoodType}
use Rattle.esi_types.specs.declared.endpoint.Endpoint.{Endpoint}
use Rattle.design_tree.specs.declared.declarations.Direction.{Direction}
use Rattle.design_tree.specs.declared.declarations.Direction.TheVariants.{ToHardware, FromHardware}
use Rattle.design_tree.specs.declared.declarations.Member.{Member}
use Rattle.design_tree.specs.declared.declarations.Bundle.{Bundle}
use Rattle.design_tree.specs.declared.declarations.Service.{Service}
use Rattle.check_rules.specs.Scopes.{and_then, find_bundle, find_service, find_service_port}
use Rattle.check_rules.specs.Uses.{members_of}
use Rattle.reached_requests.specs.Requests.{Reached}
use Rattle.design_endpoints.specs.declared.binding.Ends.{Ends}

-- an endpoint: its name, and the type of what goes through it
pub record Named : Type 0 where
  pub name : List ℕ
  pub ty : EsiType

-- the members of the bundle that a request asks for
abbrev pub members_asked : List Bundle → List Service → Reached → List Member
members_asked bundles services r =
    members_of (and_then (find_service r.service services) (λ s. and_then (find_service_port r.port s.ports) (λ p. find_bundle p.bundle bundles)))

-- the application ids from the top down, a dot, and the member's name
abbrev pub endpoint_of_member : List ℕ → Member → Named
endpoint_of_member id m = record { name = id ++ 46 ∷ m.name.octets; ty = m.ty }

abbrev pub goes : Direction → Direction → Bool
goes ToHardware ToHardware = true
goes FromHardware FromHardware = true
goes way other = false

abbrev pub ends_of_members : Direction → List ℕ → List Member → List Named
ends_of_members way id members = map (endpoint_of_member id) (filter (λ m. goes way m.direction) members)

abbrev pub ends_asked : Direction → List Bundle → List Service → Reached → List Named
ends_asked way bundles services r = ends_of_members way r.id (members_asked bundles services r)

-- ---- the code's values as those of the definition
abbrev pub named_in : Endpoint → Named
named_in e = record { name = e.name; ty = e.ty }

pub record AllEnds : Type 0 where
  pub to_server : List Named
  pub to_client : List Named

abbrev pub ends_in : Ends → AllEnds
ends_in e = record { to_server = map named_in e.to_server; to_client = map named_in e.to_client }

abbrev pub has_good_type : Member → Type 0
has_good_type m = IsGoodType m.ty

abbrev pub has_good_types : Bundle → Type 0
has_good_types b = All has_good_type b.members
