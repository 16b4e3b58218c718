use Rattle.once_laws.proofs.Accepting.{each_accepted}
use Rattle.once_laws.proofs.laws.accepted_law.Goals as goal

pub returns : goal.returns
returns c = each_accepted c.order_law.ensures.orders c.needs_law.ensures c.bodies_law.ensures.once c.blocks_law.ensures.served c.blocks_law.ensures.client c.design_law.ensures
