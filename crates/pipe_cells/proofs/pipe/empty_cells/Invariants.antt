-- So many cells were made, all empty.
use Rattle.std.proofs.Common.{◌≡◌, replicate, []}
use Rattle.pipe_cells.proofs.pipe.empty_cells.Given as goal

abbrev pub invariant-loop-made : goal.invariant-loop-made
invariant-loop-made l = l.cells.items ≡ replicate l.made []
