use Rattle.endpoint_hub.proofs.RunLemmas.{accounted}
use Rattle.endpoint_hub.proofs.laws.rings_law.Goals as goal

pub returns : goal.returns
returns c = λ old new calls channel run. accounted channel calls old new run
