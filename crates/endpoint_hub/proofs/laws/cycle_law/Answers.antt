use Rattle.endpoint_hub.specs.CycleLemmas.{cycle_of_calls}
use Rattle.endpoint_hub.proofs.laws.cycle_law.Goals as goal

pub returns : goal.returns
returns g c = λ circuit arrivals hands state old new has arrived handing run. cycle_of_calls circuit arrivals hands state old new has arrived handing run
