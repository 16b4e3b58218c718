use Rattle.lowered_nets.specs.Elements.{lowered_elements_have_all}
use Rattle.lowered_nets.proofs.laws.lowered_elements_have_their_nets.Goals as goal

pub returns : goal.returns
returns c = lowered_elements_have_all
