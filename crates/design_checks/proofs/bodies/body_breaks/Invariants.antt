use Rattle.std.proofs.Common.{map, take}
use Rattle.channel_typing.specs.Misfits.{misfits}
use Rattle.design_scopes.specs.Resolving.{scope_in}
use Rattle.design_checks.specs.BodyBreaks.{AreBreaksOf}
use Rattle.design_checks.proofs.bodies.body_breaks.Given as goal

abbrev pub invariant-loop-body : goal.invariant-loop-body
invariant-loop-body l = AreBreaksOf misfits (map (scope_in l.declared) (take l.body-index l.bodies)) l.breaks
