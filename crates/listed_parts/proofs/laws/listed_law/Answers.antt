use Rattle.listed_parts.proofs.Placed.{each_listed}
use Rattle.listed_parts.proofs.laws.listed_law.Goals as goal

pub returns : goal.returns
returns c = each_listed c.order_law.ensures.orders
