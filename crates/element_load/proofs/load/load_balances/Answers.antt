use Rattle.element_load.specs.RowFalls.{balances}
use Rattle.element_load.proofs.load.load_balances.Goals as goal

pub returns : goal.returns
returns g c = λ weight channels servers row clients cycle earlier. balances weight channels clients cycle servers row earlier
