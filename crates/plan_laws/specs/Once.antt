-- Each channel of a body is used once: as its names say it.
use Rattle.std.specs.Prelude.{◌≡◌, ℕ, ◌+◌, false, Option, Some, None, List, [], ◌∷◌, ◌++◌, map, flat_map, filter, slice_get}
use Rattle.design_tree.specs.declared.leaves.Name.{Name}
use Rattle.design_tree.specs.declared.leaves.ApplicationId.{ApplicationId}
use Rattle.design_tree.specs.declared.leaves.Reference.{Reference}
use Rattle.design_tree.specs.declared.statements.Binding.{Binding}
use Rattle.design_tree.specs.declared.statements.Statement.{Statement}
use Rattle.design_tree.specs.declared.statements.Statement.TheVariants as S
use Rattle.design_tree.specs.declared.declarations.Member.{Member}
use Rattle.design_tree.specs.declared.declarations.ModulePort.{ModulePort}
use Rattle.name_tables.specs.Labels.{Label, same_label}
use Rattle.name_tables.specs.Lists.{stands, index_in}
use Rattle.check_rules.specs.Scopes.{Scope, and_then, bundle_of}
use Rattle.check_rules.specs.References.{named, part_label, reference_label, operation_sources}
use Rattle.check_rules.specs.Uses.{is_in, is_out}
use Rattle.body_order.specs.Makers.{instance_labels}
use Rattle.body_order.specs.Cycles.{AreApart}
use Rattle.flat_design.specs.declared.plan.Plan.{Plan}
use Rattle.flat_design.specs.FlatLaws.{IsPlan}
use Rattle.body_plans.specs.declared.ordered.OrderedElement.{OrderedElement}
use Rattle.body_plans.specs.Channels.{Channel, Before, no_name, under_name, name_of, server_members, client_members, channels}
use Rattle.body_plans.specs.Plans.{bound_to, Drives, drives_of, plan_of}
use Rattle.plan_laws.specs.Ahead.{out_label, member_sink, instance_ports, IsAheadBody}
use Rattle.plan_laws.specs.Blocks.{labels_at}

-- the sum of f over a list
abbrev pub sum_of : {A : Type 0} → (A → ℕ) → List A → ℕ
sum_of f [] = 0
sum_of f (x ∷ xs) = f x + sum_of f xs

-- ---- the names of channels

abbrev pub given_by : Scope → Statement → List Label
given_by scope (S.Request at service port id) = map (member_sink id) (server_members (bundle_of scope service port))
given_by scope (S.Instance at id body bindings) = []
given_by scope (S.Channels at names operation) = []
given_by scope (S.Drive at sink source) = []

-- of those that a body is given: its `in` ports, and the members of its requests to the server
abbrev pub given_names : Scope → List Label
given_names scope = map out_label (filter is_in scope.ports) ++ flat_map (given_by scope) scope.statements

abbrev pub instance_label : ApplicationId → ModulePort → Label
instance_label id p = part_label id p.name

abbrev pub own_label : Name → Label
own_label name = (named name).label

abbrev pub made_by : Scope → Option Statement → List Label
made_by scope None = []
made_by scope (Some (S.Request at service port id)) = []
made_by scope (Some (S.Instance at id body bindings)) = map (instance_label id) (filter is_out (instance_ports scope body))
made_by scope (Some (S.Channels at names operation)) = map own_label names
made_by scope (Some (S.Drive at sink source)) = []

-- of those that elements make: channels, and `out` ports of instances
abbrev pub made_names : Scope → List Statement → List OrderedElement → List Label
made_names scope elements order = flat_map (λ (o : OrderedElement). made_by scope (slice_get elements o.number)) order

-- ---- the names that are used

abbrev pub bound_label : Option Binding → Label
bound_label None = no_name
bound_label (Some b) = reference_label b.source

abbrev pub port_label : List Binding → ModulePort → Label
port_label bindings p = bound_label (bound_to bindings p)

abbrev pub taken_by : Scope → Option Statement → List Label
taken_by scope None = []
taken_by scope (Some (S.Request at service port id)) = []
taken_by scope (Some (S.Instance at id body bindings)) = map (port_label bindings) (filter is_in (instance_ports scope body))
taken_by scope (Some (S.Channels at names operation)) = map reference_label (operation_sources operation)
taken_by scope (Some (S.Drive at sink source)) = []

-- by elements: sources of operations, and what `in` ports of instances are bound to
abbrev pub taken_names : Scope → List Statement → List OrderedElement → List Label
taken_names scope elements order = flat_map (λ (o : OrderedElement). taken_by scope (slice_get elements o.number)) order

abbrev pub label_if : Option Reference → Label
label_if None = no_name
label_if (Some r) = reference_label r

abbrev pub driver_label : Drives → Label → Label
driver_label drives sink = label_if (and_then (index_in sink drives.sinks) (slice_get drives.sources))

abbrev pub handed_by : Scope → Drives → Statement → List Label
handed_by scope drives (S.Request at service port id) = map (λ (m : Member). driver_label drives (member_sink id m)) (client_members (bundle_of scope service port))
handed_by scope drives (S.Instance at id body bindings) = []
handed_by scope drives (S.Channels at names operation) = []
handed_by scope drives (S.Drive at sink source) = []

-- by what the body hands out: what drives its `out` ports and the members of its requests to the client
abbrev pub handed_names : Scope → Drives → List Label
handed_names scope drives = map (λ (p : ModulePort). driver_label drives (out_label p)) (filter is_out scope.ports) ++ flat_map (handed_by scope drives) scope.statements

-- ---- instances

abbrev pub instance_in : Statement → List Statement
instance_in (S.Request at service port id) = []
instance_in (S.Instance at id body bindings) = S.Instance at id body bindings ∷ []
instance_in (S.Channels at names operation) = []
instance_in (S.Drive at sink source) = []

abbrev pub instance_if : Option Statement → List Statement
instance_if None = []
instance_if (Some s) = instance_in s

abbrev pub instance_at : List Statement → OrderedElement → List Statement
instance_at elements o = instance_if (slice_get elements o.number)

-- ---- the law

-- No two channels have one name.
pub record AreNamedOnce (cs : List Channel) : Type 0 where
  pub new : (before after : List Channel) (label : Label) → cs ≡ before ++ under_name label ∷ after → same_label label no_name ≡ false → stands label (map name_of before) ≡ false

-- What each element of a body takes stands before it, no two of its channels have one name, and each of these names is used
-- once. "Once" is said of sums: whatever is summed over all names is also its sum over all their uses. Along the order stand
-- the instances of the body, no two of which have one application id.
pub record IsOnceBody (plans : List Plan) (takes : ℕ → ℕ) (k : ℕ) (scope : Scope) (before : Before) (elements : List Statement) (order : List OrderedElement) : Type 0 where
  pub ahead : IsAheadBody plans takes k scope before elements order
  pub names : AreNamedOnce (channels scope before elements order)
  pub used : (f : Label → ℕ) → sum_of f (taken_names scope elements order ++ handed_names scope (drives_of scope.statements)) ≡ sum_of f (given_names scope ++ made_names scope elements order)
  pub instances : (f : Statement → ℕ) → sum_of f (flat_map (instance_at elements) order) ≡ sum_of f (flat_map instance_in scope.statements)
  pub apart : AreApart (instance_labels scope.statements)
  pub ordered_apart : AreApart (flat_map (labels_at elements) order)

-- Then its plan is good.
abbrev pub EachPlan : Type 0
EachPlan = (plans : List Plan) (takes : ℕ → ℕ) (k : ℕ) (scope : Scope) (before : Before) (elements : List Statement) (order : List OrderedElement)
    → IsOnceBody plans takes k scope before elements order → IsPlan plans takes k (plan_of scope before elements order).plan
