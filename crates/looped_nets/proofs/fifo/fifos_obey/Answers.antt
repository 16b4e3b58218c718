use Rattle.looped_nets.specs.FifoLemmas.{fifos_do_obey}
use Rattle.looped_nets.proofs.fifo.fifos_obey.Goals as goal

pub returns : goal.returns
returns c = fifos_do_obey
