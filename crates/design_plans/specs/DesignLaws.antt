-- The plans of a design are good, where each name of its bodies is used once.
use Rattle.std.specs.Prelude.{◌≡◌, ℕ, true, false, Some, List, slice_get, take}
use Rattle.name_tables.specs.Labels.{Label}
use Rattle.check_rules.specs.Scopes.{Scope}
use Rattle.check_rules.specs.Dependencies.{elements_of}
use Rattle.flat_design.specs.FlatLaws.{ArePlans}
use Rattle.body_plans.specs.declared.ordered.OrderedElement.{OrderedElement}
use Rattle.body_plans.specs.declared.body_plan.BodyPlan.{BodyPlan}
use Rattle.body_plans.specs.Channels.{Before}
use Rattle.body_plans.specs.Views.{before_of}
use Rattle.body_plans.specs.Plans.{plan_of}
use Rattle.plan_laws.specs.Once.{IsOnceBody}
use Rattle.design_plans.specs.declared.design_plans.DesignPlans.{DesignPlans}
use Rattle.design_plans.specs.Planning.{is_within, no_plans, elements_in, planned_along}

abbrev pub planned : List Label → List (List OrderedElement) → List Scope → DesignPlans
planned names ordered scopes = planned_along names ordered no_plans scopes

-- the modules before body number k
abbrev pub before_body : List Label → DesignPlans → ℕ → Before
before_body names p k = before_of names (take k p.endpoints)

-- the plan of body number k, whether it is kept or not
abbrev pub own_plan : List Label → List (List OrderedElement) → DesignPlans → ℕ → Scope → BodyPlan
own_plan names ordered p k scope = plan_of scope (before_body names p k) (elements_of scope.statements) (elements_in ordered k)

-- In body number k each name is used once; or it has more endpoints than a top may have, and is given no channels.
pub record IsGoodBody (names : List Label) (ordered : List (List OrderedElement)) (p : DesignPlans) (takes : ℕ → ℕ) (k : ℕ) (scope : Scope) : Type 0 where
  pub kept : is_within (own_plan names ordered p k scope).endpoints ≡ true → IsOnceBody p.plans takes k scope (before_body names p k) (elements_of scope.statements) (elements_in ordered k)
  pub dropped : is_within (own_plan names ordered p k scope).endpoints ≡ false → takes k ≡ 0

-- Then all plans are good.
abbrev pub EachDesign : Type 0
EachDesign = (names : List Label) (ordered : List (List OrderedElement)) (scopes : List Scope) (takes : ℕ → ℕ)
    → ((k : ℕ) (scope : Scope) → slice_get scopes k ≡ Some scope → IsGoodBody names ordered (planned names ordered scopes) takes k scope) → ArePlans (planned names ordered scopes).plans takes
