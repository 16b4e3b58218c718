use Rattle.lowered_nets.specs.Ended.{lowering_does_end, lowered_are_complete}
use Rattle.lowered_nets.proofs.laws.lowering_comes_to_its_end.Goals as goal

pub returns-clause-ended : goal.returns-clause-ended
returns-clause-ended c = lowering_does_end

pub returns-clause-complete : goal.returns-clause-complete
returns-clause-complete c = lowered_are_complete
