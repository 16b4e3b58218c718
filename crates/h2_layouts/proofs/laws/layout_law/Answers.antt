use Rattle.h2_layouts.specs.WrittenLaws.{one_frame}
use Rattle.h2_layouts.proofs.laws.layout_law.Goals as goal

pub returns-clause-once : goal.returns-clause-once
returns-clause-once c = one_frame
