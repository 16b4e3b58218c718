use Rattle.lowered_designs.specs.Whole.{lowered_designs_follow}
use Rattle.lowered_designs.proofs.laws.lowered_designs_follow_flow.Goals as goal

pub returns : goal.returns
returns c = lowered_designs_follow
