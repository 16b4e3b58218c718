use Rattle.element_rows.specs.SignallingLemmas.{fifos_are_read_well}
use Rattle.element_rows.proofs.signalling.fifos_are_read_well.Goals as goal

pub returns : goal.returns
returns g c = fifos_are_read_well
