use Rattle.design_plans.proofs.Goodness.{each_design}
use Rattle.design_plans.proofs.laws.design_law.Goals as goal

pub returns : goal.returns
returns c = each_design c.plan_law.ensures
