use Rattle.cycle_rules.specs.OrderLemmas.{stays_in_order}
use Rattle.cycle_rules.proofs.values_stay_in_order.Goals as goal

pub returns : goal.returns
returns g c = λ circuit held law. stays_in_order circuit held law
