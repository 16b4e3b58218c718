-- What the elements of a body take stands before them, and what it hands out is driven: as its names say it.
use Rattle.std.specs.Prelude.{◌≡◌, ℕ, ◌+◌, ◌<◌, false, true, Option, Some, None, List, [], ◌∷◌, ◌++◌, map, filter, replicate, length, slice_get}
use Rattle.design_tree.specs.declared.leaves.Name.{Name}
use Rattle.design_tree.specs.declared.leaves.ApplicationId.{ApplicationId}
use Rattle.design_tree.specs.declared.leaves.Reference.{Reference}
use Rattle.design_tree.specs.declared.statements.Binding.{Binding}
use Rattle.design_tree.specs.declared.statements.Statement.{Statement}
use Rattle.design_tree.specs.declared.statements.Statement.TheVariants as S
use Rattle.design_tree.specs.declared.declarations.Member.{Member}
use Rattle.design_tree.specs.declared.declarations.ModulePort.{ModulePort}
use Rattle.name_tables.specs.Labels.{Label}
use Rattle.name_tables.specs.Lists.{stands, index_in}
use Rattle.check_rules.specs.Scopes.{Scope, and_then, bundle_of, find_module}
use Rattle.check_rules.specs.References.{named, part_label, reference_label, operation_sources}
use Rattle.check_rules.specs.Directions.{ports_of}
use Rattle.check_rules.specs.Uses.{is_in, is_out}
use Rattle.flat_design.specs.declared.plan.Plan.{Plan}
use Rattle.flat_design.specs.FlatLaws.{outs_count, Below, AreSteps}
use Rattle.body_plans.specs.declared.ordered.OrderedElement.{OrderedElement}
use Rattle.body_plans.specs.Channels.{Channel, Before, name_of, endpoint_of, under_endpoint, server_label, client_label, client_members, module_number, endpoints_of, given, made_at, channels}
use Rattle.body_plans.specs.Plans.{bound_to, Drives, drives_of, plan_of}

-- ---- channels by name

-- A reference is to one of the channels.
pub record IsAmong (cs : List Channel) (r : Reference) : Type 0 where
  pub named : stands (reference_label r) (map name_of cs) ≡ true

abbrev pub AreAmong : List Channel → List Reference → Type 0
AreAmong cs [] = Unit {0}
AreAmong cs (r ∷ rs) = IsAmong cs r × AreAmong cs rs

-- So many endpoints of one side of an instance stand one after the other among the channels, before all others of their name.
pub record IsBlock (cs : List Channel) (label : Label) (count : ℕ) : Type 0 where
  pub before : List Channel
  pub after : List Channel
  pub split : cs ≡ before ++ (replicate count (under_endpoint label) ++ after)
  pub first : stands label (map endpoint_of before) ≡ false

-- ---- what an element takes

-- a port of an instance is bound to one of the channels
pub record IsBound (cs : List Channel) (bindings : List Binding) (p : ModulePort) : Type 0 where
  pub binding : Binding
  pub found : bound_to bindings p ≡ Some binding
  pub among : IsAmong cs binding.source

abbrev pub AreBound : List Channel → List Binding → List ModulePort → Type 0
AreBound cs bindings [] = Unit {0}
AreBound cs bindings (p ∷ ps) = IsBound cs bindings p × AreBound cs bindings ps

abbrev pub instance_ports : Scope → Name → List ModulePort
instance_ports scope body = ports_of (find_module body scope.modules)

-- The plan of a module stands before plan number k. It takes and hands out as many channels as the module has ports and endpoints.
pub record IsPlanned (plans : List Plan) (takes : ℕ → ℕ) (k : ℕ) (scope : Scope) (before : Before) (body : Name) : Type 0 where
  pub number : ℕ
  pub found : module_number before body ≡ Some number
  pub earlier : number < k
  pub taken : length (filter is_in (instance_ports scope body)) + (endpoints_of before body).to_server ≡ takes number
  pub handed : outs_count (slice_get plans number) ≡ length (filter is_out (instance_ports scope body)) + (endpoints_of before body).to_client

-- The `in` ports of an instance are bound to channels before it, and its endpoints to the server are among these.
pub record IsAheadInstance (plans : List Plan) (takes : ℕ → ℕ) (k : ℕ) (scope : Scope) (before : Before) (cs : List Channel) (id : ApplicationId) (body : Name) (bindings : List Binding) : Type 0 where
  pub planned : IsPlanned plans takes k scope before body
  pub bound : AreBound cs bindings (filter is_in (instance_ports scope body))
  pub served : IsBlock cs (server_label id) (endpoints_of before body).to_server

-- What a statement takes stands among these channels.
abbrev pub IsAhead : List Plan → (ℕ → ℕ) → ℕ → Scope → Before → List Channel → Statement → Type 0
IsAhead plans takes k scope before cs (S.Request at service port id) = Unit {0}
IsAhead plans takes k scope before cs (S.Instance at id body bindings) = IsAheadInstance plans takes k scope before cs id body bindings
IsAhead plans takes k scope before cs (S.Channels at names operation) = AreAmong cs (operation_sources operation)
IsAhead plans takes k scope before cs (S.Drive at sink source) = Unit {0}

abbrev pub IsAheadIf : List Plan → (ℕ → ℕ) → ℕ → Scope → Before → List Channel → Option Statement → Type 0
IsAheadIf plans takes k scope before cs None = Unit {0}
IsAheadIf plans takes k scope before cs (Some s) = IsAhead plans takes k scope before cs s

-- What each element takes, in their order, stands among the channels before it.
abbrev pub AreAhead : List Plan → (ℕ → ℕ) → ℕ → Scope → Before → List Statement → List Channel → List OrderedElement → Type 0
AreAhead plans takes k scope before elements cs [] = Unit {0}
AreAhead plans takes k scope before elements cs (o ∷ order) =
    IsAheadIf plans takes k scope before cs (slice_get elements o.number) × AreAhead plans takes k scope before elements (cs ++ made_at scope before elements o) order

-- ---- what a body hands out

-- a sink is driven by one of the channels
pub record IsDriven (cs : List Channel) (drives : Drives) (sink : Label) : Type 0 where
  pub source : Reference
  pub found : and_then (index_in sink drives.sinks) (slice_get drives.sources) ≡ Some source
  pub among : IsAmong cs source

abbrev pub AreDriven : List Channel → Drives → List Label → Type 0
AreDriven cs drives [] = Unit {0}
AreDriven cs drives (sink ∷ sinks) = IsDriven cs drives sink × AreDriven cs drives sinks

abbrev pub out_label : ModulePort → Label
out_label p = (named p.name).label

abbrev pub member_sink : ApplicationId → Member → Label
member_sink id m = part_label id m.name

-- the endpoints to the client that a statement brings are driven, or are an instance's
abbrev pub IsHanded : Scope → Before → List Channel → Drives → Statement → Type 0
IsHanded scope before cs drives (S.Request at service port id) = AreDriven cs drives (map (member_sink id) (client_members (bundle_of scope service port)))
IsHanded scope before cs drives (S.Instance at id body bindings) = IsBlock cs (client_label id) (endpoints_of before body).to_client
IsHanded scope before cs drives (S.Channels at names operation) = Unit {0}
IsHanded scope before cs drives (S.Drive at sink source) = Unit {0}

abbrev pub AreHanded : Scope → Before → List Channel → Drives → List Statement → Type 0
AreHanded scope before cs drives [] = Unit {0}
AreHanded scope before cs drives (s ∷ ss) = IsHanded scope before cs drives s × AreHanded scope before cs drives ss

-- ---- the law

-- What each element of a body takes stands before it, and all that the body hands out is driven.
pub record IsAheadBody (plans : List Plan) (takes : ℕ → ℕ) (k : ℕ) (scope : Scope) (before : Before) (elements : List Statement) (order : List OrderedElement) : Type 0 where
  pub taken : length (given scope before) ≡ takes k
  pub ahead : AreAhead plans takes k scope before elements (given scope before) order
  pub ports : AreDriven (channels scope before elements order) (drives_of scope.statements) (map out_label (filter is_out scope.ports))
  pub clients : AreHanded scope before (channels scope before elements order) (drives_of scope.statements) scope.statements

-- The steps of plan number k take earlier channels, and it hands out channels that it has.
pub record IsNumbered (plans : List Plan) (takes : ℕ → ℕ) (k : ℕ) (plan : Plan) (count : ℕ) : Type 0 where
  pub steps : AreSteps plans takes k (takes k) plan.steps count
  pub outs : Below count plan.outs

abbrev pub EachAhead : Type 0
EachAhead = (plans : List Plan) (takes : ℕ → ℕ) (k : ℕ) (scope : Scope) (before : Before) (elements : List Statement) (order : List OrderedElement)
    → IsAheadBody plans takes k scope before elements order → IsNumbered plans takes k (plan_of scope before elements order).plan (length (channels scope before elements order))
