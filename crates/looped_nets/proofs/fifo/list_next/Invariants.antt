use Rattle.std.proofs.Common.{◌≡◌, ◌++◌}
use Rattle.looped_nets.specs.Loops.{nets_upto}
use Rattle.looped_nets.specs.Fifos.{fifo_of, count_nets, early_nets}
use Rattle.looped_nets.proofs.fifo.list_next.Given as goal

abbrev pub invariant-loop-place : goal.invariant-loop-place
invariant-loop-place l = l.nets ≡ count_nets (fifo_of l.fifo l.at) ++ nets_upto (early_nets (fifo_of l.fifo l.at)) l.place
