use Rattle.std.proofs.Common.{take}
use Rattle.design_scopes.specs.Bodies.{referred, AreModuleBodies}
use Rattle.design_scopes.proofs.bodies.add_modules.Given as goal

abbrev pub invariant-loop-before : goal.invariant-loop-before
invariant-loop-before l = AreModuleBodies 0 (take l.before (referred l.modules)) l.bodies
