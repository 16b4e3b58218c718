use Rattle.lowered_designs.specs.FifoPipe.{fifos_do_meet}
use Rattle.lowered_designs.proofs.laws.fifos_are_ready.Goals as goal

pub returns : goal.returns
returns c = fifos_do_meet
