use Rattle.plan_laws.proofs.Blocks.{each_served, each_client}
use Rattle.plan_laws.proofs.laws.blocks_law.Goals as goal

pub returns-clause-served : goal.returns-clause-served
returns-clause-served c = each_served

pub returns-clause-client : goal.returns-clause-client
returns-clause-client c = each_client
