-- What is taken from here on, and what was taken, is what the cycle takes.
use Rattle.std.proofs.Common.{List, Bool, length}
use Rattle.pipe_cells.specs.PipeRings.{PipeRings, TakesAll}
use Rattle.pipe_cells.proofs.pipe.take_values.Given as goal

abbrev pub invariant-loop-word : goal.invariant-loop-word
invariant-loop-word l = (waiting : List (List Bool)) (ports : PipeRings) → TakesAll l.waiting.items l.ports waiting ports → TakesAll l.initial.waiting.items l.initial.ports waiting ports

abbrev pub decreases-loop-word : goal.decreases-loop-word
decreases-loop-word l = length l.waiting.items
