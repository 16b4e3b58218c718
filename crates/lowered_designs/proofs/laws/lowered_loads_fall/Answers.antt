use Rattle.lowered_designs.specs.Whole.{loads_do_fall}
use Rattle.lowered_designs.proofs.laws.lowered_loads_fall.Goals as goal

pub returns : goal.returns
returns c = loads_do_fall
