use Rattle.std.proofs.Common.{◌≡◌, take}
use Rattle.std.specs.List.{flat_map}
use Rattle.check_rules.specs.Scopes.{statement_in, implement_in}
use Rattle.design_scopes.specs.Bodies.{referred}
use Rattle.design_scopes.proofs.bodies.top_body.Given as goal

abbrev pub invariant-loop-item : goal.invariant-loop-item
invariant-loop-item l =
    (referred l.statements ≡ flat_map statement_in (take l.item-index l.top.body))
    × (referred l.implements ≡ flat_map implement_in (take l.item-index l.top.body))
