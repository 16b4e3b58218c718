use Rattle.std.proofs.Common.{◌≡◌, map, drop}
use Rattle.design_scopes.specs.Resolving.{scope_in}
use Rattle.design_plans.specs.Planning.{planned_along, no_plans}
use Rattle.design_plans.proofs.bodies.plan_bodies.Given as goal

abbrev pub invariant-loop-body : goal.invariant-loop-body
invariant-loop-body l =
    planned_along l.modules l.ordered l.plans (map (scope_in l.declared) (drop l.body-index l.bodies)) ≡ planned_along l.modules l.ordered no_plans (map (scope_in l.declared) l.bodies)
