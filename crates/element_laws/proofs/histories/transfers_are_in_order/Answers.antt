use Rattle.element_laws.specs.SignalLemmas.{transfers_in_order}
use Rattle.element_laws.proofs.histories.transfers_are_in_order.Goals as goal

pub returns : goal.returns
returns g c = transfers_in_order
