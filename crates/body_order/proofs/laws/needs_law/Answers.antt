use Rattle.body_order.proofs.CycleLaws.{each_needs}
use Rattle.body_order.proofs.laws.needs_law.Goals as goal

pub returns : goal.returns
returns c = each_needs
