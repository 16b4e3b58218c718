use Rattle.element_load.specs.RingLemmas.{rings_are_lines}
use Rattle.element_load.proofs.rings.rings_are_lines.Goals as goal

pub returns : goal.returns
returns g c = rings_are_lines
