-- The plans of a design that breaks no rule are good.
use Rattle.std.specs.Prelude.{◌≡◌, ℕ, Option, Some, None, List, map, length, slice_get, if◌then◌else◌}
use Rattle.design_tree.specs.declared.design.DesignTree.TheVariants as F
use Rattle.design_tree.specs.declared.declarations.Module.{Module}
use Rattle.design_tree.specs.declared.declarations.Declaration.{Declaration}
use Rattle.design_tree.specs.declared.top.Top.{Top}
use Rattle.name_tables.specs.Labels.{Label}
use Rattle.element_order.specs.Orders.{ordered}
use Rattle.check_rules.specs.Scopes.{Scope, modules_of, scopes}
use Rattle.check_rules.specs.References.{named}
use Rattle.check_rules.specs.Dependencies.{elements_of}
use Rattle.check_rules.specs.Checks.{checks, Accepts}
use Rattle.body_order.specs.Makers.{first_needs}
use Rattle.flat_design.specs.FlatLaws.{ArePlans}
use Rattle.body_plans.specs.declared.ordered.OrderedElement.{OrderedElement}
use Rattle.body_plans.specs.Channels.{given}
use Rattle.design_plans.specs.Planning.{is_within, elements_in}
use Rattle.design_plans.specs.DesignLaws.{planned, before_body, own_plan}

abbrev pub module_label : Module → Label
module_label m = (named m.name).label

-- the names of the modules, in the order of the text
abbrev pub module_names : List Declaration → List Label
module_names declarations = map module_label (modules_of declarations)

abbrev pub number_of : OrderedElement → ℕ
number_of o = o.number

-- The elements of each body stand in its element order. What stands for each of them is free.
pub record AreInOrder (bodies : List Scope) (rows : List (List OrderedElement)) : Type 0 where
  pub each : (k : ℕ) (body : Scope) → slice_get bodies k ≡ Some body → map number_of (elements_in rows k) ≡ ordered (first_needs (elements_of body.statements))

abbrev pub given_to : List Label → List (List OrderedElement) → List Scope → ℕ → Option Scope → ℕ
given_to names rows bodies k None = 0
given_to names rows bodies k (Some body) =
    if is_within (own_plan names rows (planned names rows bodies) k body).endpoints then length (given body (before_body names (planned names rows bodies) k)) else 0

-- How many channels body number k is given: none where it has more endpoints than a top may have.
abbrev pub given_count : List Label → List (List OrderedElement) → List Scope → ℕ → ℕ
given_count names rows bodies k = given_to names rows bodies k (slice_get bodies k)

-- Where a design breaks no rule, and the elements of its bodies stand in their order, all plans are good.
abbrev pub EachAccepted : Type 0
EachAccepted = (misfits : List Scope → List ℕ) (declarations : List Declaration) (top : Top) (rows : List (List OrderedElement))
    → Accepts (checks misfits (F.Modules declarations top)) → AreInOrder (scopes declarations top) rows
    → ArePlans (planned (module_names declarations) rows (scopes declarations top)).plans (given_count (module_names declarations) rows (scopes declarations top))
