use Rattle.std.proofs.Common.{take}
use Rattle.flat_design.specs.FlatLaws.{AreNumbered}
use Rattle.flat_checks.proofs.flat.are_numbered.Given as goal

abbrev pub invariant-loop-element : goal.invariant-loop-element
invariant-loop-element l = AreNumbered l.servers (take l.element-index l.elements) l.made
