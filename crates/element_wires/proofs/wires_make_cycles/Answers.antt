use Rattle.element_wires.specs.WireLemmas.{wires_make_cycles}
use Rattle.element_wires.proofs.wires_make_cycles.Goals as goal

pub returns : goal.returns
returns c = wires_make_cycles
