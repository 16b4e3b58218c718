use Rattle.std.proofs.Common.{◌≡◌, map, take}
use Rattle.netlist.specs.Nets.{word_at}
use Rattle.netlist.specs.Runs.{registers_after}
use Rattle.cosim_core.proofs.places.held_by.Given as goal

abbrev pub invariant-loop-register : goal.invariant-loop-register
invariant-loop-register l = l.words ≡ map (word_at (registers_after l.sim.plan l.sim.last)) (take l.register-index l.registers)
