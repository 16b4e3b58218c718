use Rattle.h2_frames.specs.CallLaws.{any_cutting}
use Rattle.h2_frames.proofs.laws.any_cutting_law.Goals as goal

pub returns : goal.returns
returns c = any_cutting
