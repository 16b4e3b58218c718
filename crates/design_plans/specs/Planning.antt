-- The plans of the bodies of a design, body after body.
use Rattle.std.specs.Prelude.{ℕ, min, Bool, ◌&&◌, nat_lt, if◌then◌else◌, List, [], ◌∷◌, ◌++◌, length, slice_get, unwrap_or}
use Rattle.name_tables.specs.Labels.{Label}
use Rattle.check_rules.specs.Scopes.{Scope}
use Rattle.check_rules.specs.Dependencies.{elements_of}
use Rattle.flat_design.specs.declared.plan.Plan.{Plan}
use Rattle.body_plans.specs.declared.endpoints.Endpoints.{Endpoints}
use Rattle.body_plans.specs.declared.ordered.OrderedElement.{OrderedElement}
use Rattle.body_plans.specs.declared.body_plan.BodyPlan.{BodyPlan}
use Rattle.body_plans.specs.Views.{before_of}
use Rattle.body_plans.specs.Plans.{plan_of}
use Rattle.design_plans.specs.declared.design_plans.DesignPlans.{DesignPlans}
use Rattle.design_plans.specs.declared.kept.TheConstants.{TOO_MANY}

-- ---- plans that are kept

-- a top may have so many endpoints
abbrev pub is_within : Endpoints → Bool
is_within e = nat_lt e.to_server TOO_MANY && nat_lt e.to_client TOO_MANY

-- `TOO_MANY` stands for every greater count
abbrev pub capped : Endpoints → Endpoints
capped e = record { to_server = min TOO_MANY e.to_server; to_client = min TOO_MANY e.to_client }

-- A body with more endpoints than a top may have does nothing: no top that is accepted reaches it.
abbrev pub kept_plan : BodyPlan → Plan
kept_plan p = if is_within p.endpoints then p.plan else record { steps = []; outs = [] }

-- ---- body after body

abbrev pub no_plans : DesignPlans
no_plans = record { plans = []; endpoints = [] }

abbrev pub with_plan : DesignPlans → BodyPlan → DesignPlans
with_plan before p = record { plans = before.plans ++ kept_plan p ∷ []; endpoints = before.endpoints ++ capped p.endpoints ∷ [] }

-- the elements of the body of a number, in their order
abbrev pub elements_in : List (List OrderedElement) → ℕ → List OrderedElement
elements_in ordered k = unwrap_or (slice_get ordered k) []

-- with the plan of the next body, which is over the endpoints of those before it
abbrev pub with_body : List Label → List (List OrderedElement) → DesignPlans → Scope → DesignPlans
with_body names ordered before scope =
    with_plan before (plan_of scope (before_of names before.endpoints) (elements_of scope.statements) (elements_in ordered (length before.plans)))

-- The plans of bodies, behind those before them, where the modules have these names, and each body's elements are ordered.
abbrev pub planned_along : List Label → List (List OrderedElement) → DesignPlans → List Scope → DesignPlans
planned_along names ordered before [] = before
planned_along names ordered before (scope ∷ more) = planned_along names ordered (with_body names ordered before scope) more
