use Rattle.element_load.specs.DrainLemmas.{all_arrive}
use Rattle.element_load.proofs.load.all_arrives.Goals as goal

pub returns : goal.returns
returns g c = all_arrive
