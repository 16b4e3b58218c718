use Rattle.element_nets.specs.Joins.{joins_do_obey}
use Rattle.element_nets.proofs.laws.joins_obey.Goals as goal

pub returns : goal.returns
returns c = joins_do_obey
