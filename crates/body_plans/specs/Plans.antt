-- The plan of a body: its elements and instances in element order, over the places of its channels.
use Rattle.std.specs.Prelude.{ℕ, zero, suc, ◌+◌, ◌-◌, Option, Some, None, List, [], ◌∷◌, ◌++◌, map, flat_map, filter, replicate, length, slice_get, unwrap_or, nat_lt, if◌then◌else◌}
use Rattle.design_tree.specs.declared.leaves.Name.{Name}
use Rattle.design_tree.specs.declared.leaves.ApplicationId.{ApplicationId}
use Rattle.design_tree.specs.declared.leaves.Reference.{Reference}
use Rattle.design_tree.specs.declared.statements.Binding.{Binding}
use Rattle.design_tree.specs.declared.statements.Statement.{Statement}
use Rattle.design_tree.specs.declared.statements.Statement.TheVariants as S
use Rattle.design_tree.specs.declared.declarations.Member.{Member}
use Rattle.design_tree.specs.declared.declarations.ModulePort.{ModulePort}
use Rattle.name_tables.specs.Labels.{Label}
use Rattle.name_tables.specs.Lists.{index_in}
use Rattle.check_rules.specs.Scopes.{Scope, and_then, bundle_of, find_module}
use Rattle.check_rules.specs.References.{named, part_label, reference_label, operation_sources}
use Rattle.check_rules.specs.Directions.{ports_of}
use Rattle.check_rules.specs.Uses.{is_in, is_out}
use Rattle.flat_design.specs.declared.plan.Step.{Step}
use Rattle.flat_design.specs.declared.plan.Step.TheVariants as T
use Rattle.flat_design.specs.Laying.{count_up}
use Rattle.body_plans.specs.declared.ordered.OrderedElement.{OrderedElement}
use Rattle.body_plans.specs.declared.body_plan.BodyPlan.{BodyPlan}
use Rattle.body_plans.specs.Channels.{Channel, Before, Places, places_of, place_in, endpoints_of, module_number, server_label, client_label, client_members, given, server_endpoints, made_at, channels}

-- ---- sources

-- A source is the place of its name among the channels of the body.
abbrev pub source_place : Places → Reference → ℕ
source_place places r = place_in places.names (reference_label r)

-- ---- the ports of an instance

abbrev pub binding_label : Binding → Label
binding_label b = (named b.port).label

-- what a port is bound to, the first of the bindings of its name
abbrev pub bound_to : List Binding → ModulePort → Option Binding
bound_to bindings p = and_then (index_in (named p.name).label (map binding_label bindings)) (slice_get bindings)

abbrev pub binding_place : Places → Option Binding → ℕ
binding_place places None = 0
binding_place places (Some b) = source_place places b.source

abbrev pub port_sources : Places → List Binding → List ModulePort → List ℕ
port_sources places bindings ports = map (λ p. binding_place places (bound_to bindings p)) (filter is_in ports)

-- so many places from the first one on, where there are as many
abbrev pub places_within : ℕ → ℕ → ℕ → List ℕ
places_within all first count = if nat_lt all (first + count) then [] else count_up first count

-- the places of so many endpoints of one side of an instance, which stand one after the other
abbrev pub endpoint_places : Places → Label → ℕ → List ℕ
endpoint_places places label count = places_within places.count (place_in places.endpoints label) count

-- ---- steps

-- a part that makes one channel
abbrev pub part_step : ℕ → ℕ → List ℕ → Step
part_step part width sources = T.Element part sources (width ∷ [])

-- Parts in a row, of which so many stand before the last one: each of these makes one channel, the first of them at a place,
-- and the last one makes channels of these widths.
abbrev pub in_row : ℕ → ℕ → List ℕ → ℕ → ℕ → List ℕ → List Step
in_row part width widths zero at sources = T.Element part sources widths ∷ []
in_row part width widths (suc more) at sources = part_step part width sources ∷ in_row part width widths more (at + 1) (at ∷ [])

-- An instance is given what its `in` ports are bound to, in the order of the ports, and its endpoints to the server.
abbrev pub instance_step : Scope → Before → Places → ApplicationId → Name → List Binding → Step
instance_step scope before places id body bindings =
    T.Instance
    (unwrap_or (module_number before body) 0)
    (port_sources places bindings (ports_of (find_module body scope.modules)) ++ endpoint_places places (server_label id) (endpoints_of before body).to_server)

-- The steps of an element whose first channel has a place.
abbrev pub steps_by : Scope → Before → Places → ℕ → OrderedElement → Statement → List Step
steps_by scope before places at o (S.Request place service port id) = []
steps_by scope before places at o (S.Instance place id body bindings) =
    instance_step scope before places id body bindings ∷ []
steps_by scope before places at o (S.Channels place names operation) =
    in_row o.part o.width (replicate (length names) o.width) (o.count - 1) at (map (source_place places) (operation_sources operation))
steps_by scope before places at o (S.Drive place sink source) = []

abbrev pub steps_if : Scope → Before → Places → ℕ → OrderedElement → Option Statement → List Step
steps_if scope before places at o None = []
steps_if scope before places at o (Some statement) = steps_by scope before places at o statement

abbrev pub steps_at : Scope → Before → List Statement → Places → ℕ → OrderedElement → List Step
steps_at scope before elements places at o = steps_if scope before places at o (slice_get elements o.number)

-- the steps of elements in their order, before which there are these channels
abbrev pub steps_along : Scope → Before → List Statement → Places → List Channel → List OrderedElement → List Step
steps_along scope before elements places so_far [] = []
steps_along scope before elements places so_far (o ∷ order) =
    steps_at scope before elements places (length so_far) o ++ steps_along scope before elements places (so_far ++ made_at scope before elements o) order

-- ---- what a body hands out

-- the sinks that the drives of a body drive, and what drives each
abbrev pub sinks_of : Statement → List Label
sinks_of (S.Request at service port id) = []
sinks_of (S.Instance at id body bindings) = []
sinks_of (S.Channels at names operation) = []
sinks_of (S.Drive at sink source) = reference_label sink ∷ []

abbrev pub drivers_of : Statement → List Reference
drivers_of (S.Request at service port id) = []
drivers_of (S.Instance at id body bindings) = []
drivers_of (S.Channels at names operation) = []
drivers_of (S.Drive at sink source) = source ∷ []

pub record Drives : Type 0 where
  pub sinks : List Label
  pub sources : List Reference

abbrev pub drives_of : List Statement → Drives
drives_of statements = record { sinks = flat_map sinks_of statements; sources = flat_map drivers_of statements }

abbrev pub place_if : Places → Option Reference → ℕ
place_if places None = 0
place_if places (Some r) = source_place places r

-- the place of what drives a sink
abbrev pub driver_place : Places → Drives → Label → ℕ
driver_place places drives sink = place_if places (and_then (index_in sink drives.sinks) (slice_get drives.sources))

-- the endpoints to the client that a statement brings, as places
abbrev pub client_places : Scope → Before → Places → Drives → Statement → List ℕ
client_places scope before places drives (S.Request at service port id) = map (λ (m : Member). driver_place places drives (part_label id m.name)) (client_members (bundle_of scope service port))
client_places scope before places drives (S.Instance at id body bindings) = endpoint_places places (client_label id) (endpoints_of before body).to_client
client_places scope before places drives (S.Channels at names operation) = []
client_places scope before places drives (S.Drive at sink source) = []

abbrev pub port_places : Places → Drives → List ModulePort → List ℕ
port_places places drives ports = map (λ (p : ModulePort). driver_place places drives (named p.name).label) (filter is_out ports)

abbrev pub client_endpoints : Scope → Before → Places → Drives → List ℕ
client_endpoints scope before places drives = flat_map (client_places scope before places drives) scope.statements

-- ---- the plan

abbrev pub plan_over : Scope → Before → List Statement → List OrderedElement → Places → Drives → BodyPlan
plan_over scope before elements order places drives = record {
  plan = record {
    steps = steps_along scope before elements places (given scope before) order;
    outs = port_places places drives scope.ports ++ client_endpoints scope before places drives;
  };
  endpoints = record {
    to_server = length (server_endpoints scope before);
    to_client = length (client_endpoints scope before places drives);
  };
}

-- The plan of a body whose elements stand in an order: it hands out what drives its `out` ports, and its endpoints to the
-- client, in the order of the text.
abbrev pub plan_of : Scope → Before → List Statement → List OrderedElement → BodyPlan
plan_of scope before elements order = plan_over scope before elements order (places_of (channels scope before elements order)) (drives_of scope.statements)
