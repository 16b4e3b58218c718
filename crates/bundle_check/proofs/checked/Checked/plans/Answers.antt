use Rattle.bundle_check.proofs.Planned.{plans_exact, plans_good}
use Rattle.bundle_check.proofs.checked.Checked.plans.Goals as goal

pub returns-clause-exact : goal.returns-clause-exact
returns-clause-exact c = plans_exact c.args.self.now.design.tree c.args.self.now.planned c.args.self.now.plans_are c.as_slice.result.now c.as_slice.ensures

pub returns-clause-good : goal.returns-clause-good
returns-clause-good c =
    plans_good c.args.self.now.design.tree c.args.self.now.planned c.args.self.now.plans_are c.planned_law.ensures.plans c.args.self.now.accepted c.as_slice.result.now c.as_slice.ensures
