use Rattle.element_load.specs.LineLemmas.{loads_fall}
use Rattle.element_load.proofs.load.load_falls.Goals as goal

pub returns : goal.returns
returns g c = loads_fall
