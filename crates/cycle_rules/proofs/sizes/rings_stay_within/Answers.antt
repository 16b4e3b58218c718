use Rattle.cycle_rules.specs.SizesLemmas.{stays_within}
use Rattle.cycle_rules.proofs.sizes.rings_stay_within.Goals as goal

pub returns : goal.returns
returns g c = λ circuit actions sim within. stays_within circuit actions sim within
