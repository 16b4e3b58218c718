use Rattle.plan_laws.proofs.AheadLaws.{each_ahead}
use Rattle.plan_laws.proofs.laws.ahead_law.Goals as goal

pub returns : goal.returns
returns c = each_ahead
