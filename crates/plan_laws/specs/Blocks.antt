-- The endpoints of an instance stand together among the channels of its body.
use Rattle.std.specs.Prelude.{◌≡◌, ℕ, Option, Some, None, List, [], ◌∷◌, ◌++◌, flat_map, slice_get}
use Rattle.design_tree.specs.declared.leaves.Name.{Name}
use Rattle.design_tree.specs.declared.leaves.ApplicationId.{ApplicationId}
use Rattle.design_tree.specs.declared.statements.Binding.{Binding}
use Rattle.design_tree.specs.declared.statements.Statement.{Statement}
use Rattle.design_tree.specs.declared.statements.Statement.TheVariants as S
use Rattle.check_rules.specs.Scopes.{Scope}
use Rattle.name_tables.specs.Labels.{Label}
use Rattle.body_order.specs.Makers.{instance_labels_of, instance_labels}
use Rattle.body_order.specs.Cycles.{AreApart}
use Rattle.body_plans.specs.declared.ordered.OrderedElement.{OrderedElement}
use Rattle.body_plans.specs.Channels.{Before, server_label, client_label, endpoints_of, given, channels}
use Rattle.plan_laws.specs.Ahead.{IsBlock}

-- Where no two instances of a body have one application id, the endpoints of each to the server stand together among the
-- channels that the body is given.
abbrev pub EachServed : Type 0
EachServed = (scope : Scope) (before : Before) (front back : List Statement) (at : ℕ) (id : ApplicationId) (body : Name) (bindings : List Binding)
    → scope.statements ≡ front ++ S.Instance at id body bindings ∷ back → AreApart (instance_labels scope.statements)
    → IsBlock (given scope before) (server_label id) (endpoints_of before body).to_server

-- the application id of the element of a number, where it is an instance
abbrev pub labels_if : Option Statement → List Label
labels_if None = []
labels_if (Some s) = instance_labels_of s

abbrev pub labels_at : List Statement → OrderedElement → List Label
labels_at elements o = labels_if (slice_get elements o.number)

-- Where no two of the instances along an order have one application id, the endpoints of each to the client stand together
-- among the channels of the body.
abbrev pub EachClient : Type 0
EachClient = (scope : Scope) (before : Before) (elements : List Statement) (front back : List OrderedElement) (o : OrderedElement) (at : ℕ) (id : ApplicationId) (body : Name) (bindings : List Binding)
    → slice_get elements o.number ≡ Some (S.Instance at id body bindings) → AreApart (flat_map (labels_at elements) (front ++ o ∷ back))
    → IsBlock (channels scope before elements (front ++ o ∷ back)) (client_label id) (endpoints_of before body).to_client
