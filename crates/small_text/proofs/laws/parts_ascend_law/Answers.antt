use Rattle.small_text.specs.LineLaws.{each_ascends}
use Rattle.small_text.proofs.laws.parts_ascend_law.Goals as goal

pub returns : goal.returns
returns c = each_ascends
