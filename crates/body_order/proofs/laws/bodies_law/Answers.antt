use Rattle.body_order.proofs.BodyLaws.{each_once, each_cycle, each_signal}
use Rattle.body_order.proofs.laws.bodies_law.Goals as goal

pub returns-clause-once : goal.returns-clause-once
returns-clause-once c = each_once

pub returns-clause-cycles : goal.returns-clause-cycles
returns-clause-cycles c = each_cycle

pub returns-clause-signals : goal.returns-clause-signals
returns-clause-signals c = each_signal
