use Rattle.once_laws.proofs.StageBody.{each_stage_body}
use Rattle.once_laws.proofs.laws.stage_body_law.Goals as goal

pub returns : goal.returns
returns c = each_stage_body
