use Rattle.std.proofs.Common.{◌≡◌, ◌++◌, take}
use Rattle.std.specs.Prelude.{flat_map}
use Rattle.design_scopes.specs.Bodies.{referred}
use Rattle.body_plans.specs.Plans.{client_places}
use Rattle.body_plans.proofs.outs.add_clients.Given as goal

abbrev pub invariant-loop-statement : goal.invariant-loop-statement
invariant-loop-statement l = l.outs ≡ l.fn.outs ++ flat_map (client_places l.scope l.before l.places l.drives) (referred (take l.statement-index l.statements))
