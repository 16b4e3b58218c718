use Rattle.bundle_check.proofs.Planned.{parts_exact, parts_stand}
use Rattle.bundle_check.proofs.checked.Checked.parts.Goals as goal

pub returns-clause-exact : goal.returns-clause-exact
returns-clause-exact c = parts_exact c.args.self.now.design.tree c.args.self.now.planned c.args.self.now.plans_are c.as_slice.result.now c.as_slice.ensures

pub returns-clause-stand : goal.returns-clause-stand
returns-clause-stand c =
    parts_stand c.args.self.now.design.tree c.args.self.now.planned c.args.self.now.plans_are c.planned_law.ensures.parts c.args.self.now.accepted c.as_slice.result.now c.as_slice.ensures
