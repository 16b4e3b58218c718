-- The cells that were passed, and the rest after the cycle, are the row after the cycle.
use Rattle.std.proofs.Common.{◌≡◌, ◌++◌, take, drop}
use Rattle.pipe_cells.specs.Cells.{row_after}
use Rattle.pipe_cells.proofs.row.pass.Given as goal

abbrev pub invariant-loop-at : goal.invariant-loop-at
invariant-loop-at l = take l.at l.cells ++ row_after l.carried (drop l.at l.cells) l.room ≡ row_after l.fn.offered l.initial.cells l.room
