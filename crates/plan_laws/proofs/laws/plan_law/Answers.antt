use Rattle.plan_laws.proofs.OnceLaws.{each_plan}
use Rattle.plan_laws.proofs.laws.plan_law.Goals as goal

pub returns : goal.returns
returns c = each_plan
