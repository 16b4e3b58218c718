use Rattle.stage_nets.specs.StageLemmas.{stages_do_obey}
use Rattle.stage_nets.proofs.stage.stages_obey.Goals as goal

pub returns : goal.returns
returns c = stages_do_obey
