use Rattle.std.proofs.Common.{take}
use Rattle.std.specs.Prelude.{flat_map}
use Rattle.flat_design.specs.FlatLaws.{sources_in}
use Rattle.flat_checks.specs.Marks.{IsMarked}
use Rattle.flat_checks.proofs.marks.mark_sources.Given as goal

abbrev pub invariant-loop-element : goal.invariant-loop-element
invariant-loop-element l = IsMarked l.fn.marks (flat_map sources_in (take l.element-index l.elements)) l.marks
