use Rattle.std.proofs.Common.{◌≡◌}
use Rattle.looped_nets.specs.Loops.{linked}
use Rattle.looped_nets.specs.Fifos.{place_register, early_next}
use Rattle.looped_nets.proofs.fifo.link_places.Given as goal

abbrev pub invariant-loop-place : goal.invariant-loop-place
invariant-loop-place l = l.netlist ≡ linked l.initial.netlist (place_register l.fifo) (early_next l.at) l.place
