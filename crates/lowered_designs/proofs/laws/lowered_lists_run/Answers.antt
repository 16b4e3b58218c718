use Rattle.lowered_designs.specs.Cycles.{lowered_lists_do_run}
use Rattle.lowered_designs.proofs.laws.lowered_lists_run.Goals as goal

pub returns : goal.returns
returns g c = lowered_lists_do_run
