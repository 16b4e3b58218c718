use Rattle.element_wires.specs.FifoLemmas.{fifos_run}
use Rattle.element_wires.proofs.fifo.fifos_store.Goals as goal

pub returns : goal.returns
returns g c = fifos_run
