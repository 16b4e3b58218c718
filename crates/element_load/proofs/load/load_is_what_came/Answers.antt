use Rattle.element_load.specs.RunLoadLemmas.{loads_of_runs}
use Rattle.element_load.proofs.load.load_is_what_came.Goals as goal

pub returns : goal.returns
returns g c = loads_of_runs
