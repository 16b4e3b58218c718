use Rattle.first_breaks.proofs.Depending.{each_depends}
use Rattle.first_breaks.proofs.laws.dependence_law.Goals as goal

pub returns : goal.returns
returns c = each_depends
