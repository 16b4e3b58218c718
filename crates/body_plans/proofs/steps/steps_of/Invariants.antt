use Rattle.std.proofs.Common.{◌≡◌, ◌++◌, map, drop}
use Rattle.body_plans.specs.Plans.{steps_along}
use Rattle.body_plans.specs.Views.{channel_of}
use Rattle.body_plans.proofs.steps.steps_of.Given as goal

abbrev pub invariant-loop-element : goal.invariant-loop-element
invariant-loop-element l =
    l.steps ++ steps_along l.scope l.before l.elements l.places (map channel_of l.channels) (drop l.element-index l.order) ≡ steps_along l.scope l.before l.elements l.places (map channel_of l.fn.given) l.order
