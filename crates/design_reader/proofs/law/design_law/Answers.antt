use Rattle.design_reader.specs.DesignTexts.{designs_only}
use Rattle.design_reader.proofs.law.design_law.Goals as goal

pub returns-clause-only : goal.returns-clause-only
returns-clause-only c = designs_only
