use Rattle.lowered_designs.specs.Whole.{lowered_lists_do_stand}
use Rattle.lowered_designs.proofs.laws.lowered_lists_stand.Goals as goal

pub returns : goal.returns
returns c = lowered_lists_do_stand
