use Rattle.first_breaks.proofs.Reported.{each_break}
use Rattle.first_breaks.proofs.laws.first_breaks_law.Goals as goal

pub returns : goal.returns
returns c = each_break
