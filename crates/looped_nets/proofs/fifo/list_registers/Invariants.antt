use Rattle.std.proofs.Common.{◌≡◌, ◌∷◌, [], ◌++◌, replicate, false}
use Rattle.netlist.specs.declared.net.Net.TheVariants.{Register}
use Rattle.looped_nets.specs.Loops.{nets_upto}
use Rattle.looped_nets.specs.Fifos.{count_bits}
use Rattle.looped_nets.proofs.fifo.list_registers.Given as goal

abbrev pub invariant-loop-place : goal.invariant-loop-place
invariant-loop-place l = l.nets ≡ Register (replicate (count_bits l.depth) false) ∷ [] ++ nets_upto (λ i. Register (replicate l.width false) ∷ []) l._place
