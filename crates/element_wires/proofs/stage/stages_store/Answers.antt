use Rattle.element_wires.specs.WireLemmas.{stages_run}
use Rattle.element_wires.proofs.stage.stages_store.Goals as goal

pub returns : goal.returns
returns g c = stages_run
