use Rattle.std.proofs.Common.{◌≡◌, take}
use Rattle.check_rules.specs.Scopes.{modules_of}
use Rattle.design_scopes.specs.Bodies.{referred}
use Rattle.design_scopes.proofs.bodies.modules_among.Given as goal

abbrev pub invariant-loop-declaration : goal.invariant-loop-declaration
invariant-loop-declaration l = referred l.modules ≡ modules_of (take l.declaration-index l.declarations)
