use Rattle.element_wires.specs.WireLemmas.{wires_make_runs}
use Rattle.element_wires.proofs.wires_make_runs.Goals as goal

pub returns : goal.returns
returns g c = wires_make_runs
