use Rattle.element_order.proofs.OrderLaws.{order_holds, one_order}
use Rattle.element_order.proofs.laws.order_law.Goals as goal

pub returns-clause-orders : goal.returns-clause-orders
returns-clause-orders c = order_holds

pub returns-clause-one : goal.returns-clause-one
returns-clause-one c = one_order
