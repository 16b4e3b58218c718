use Rattle.std.proofs.Common.{◌≡◌, map, drop}
use Rattle.design_scopes.specs.Resolving.{scope_in}
use Rattle.element_parts.specs.Listing.{no_parts}
use Rattle.element_parts.specs.Walk.{bodies_added}
use Rattle.element_parts.proofs.bodies.listed_bodies.Given as goal

abbrev pub invariant-loop-body : goal.invariant-loop-body
invariant-loop-body l = bodies_added l.found (map (scope_in l.declared) (drop l.body-index l.bodies)) ≡ bodies_added no_parts (map (scope_in l.declared) l.bodies)
