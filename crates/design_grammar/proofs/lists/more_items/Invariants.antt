-- To read on from here, with the items that were read, is to read all.
use Rattle.std.proofs.Common.{length}
use Rattle.ll1_grammar.specs.Loops.{Turning}
use Rattle.design_grammar.specs.Rules.{designs}
use Rattle.design_grammar.specs.Lists as spec
use Rattle.design_grammar.proofs.lists.more_items.Given as goal

abbrev pub invariant-loop-alloc : goal.invariant-loop-alloc
invariant-loop-alloc g l = Turning designs g.L.Listed.starts (spec.one_more g.L.Listed.reader) l.initial.items l.initial.cursor l.items l.cursor

abbrev pub decreases-loop-alloc : goal.decreases-loop-alloc
decreases-loop-alloc g l = length l.cursor
