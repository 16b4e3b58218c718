use Rattle.std.proofs.Common.{◌≡◌, [], drop}
use Rattle.design_totals.specs.Capped.{capped_bodies}
use Rattle.design_totals.proofs.bodies.totals_of_each.Given as goal

abbrev pub invariant-loop-body : goal.invariant-loop-body
invariant-loop-body l = capped_bodies l.declared l.modules l.known (drop l.body-index l.bodies) ≡ capped_bodies l.declared l.modules [] l.bodies
