use Rattle.small_text.proofs.PartRuns.{parts_are_runs}
use Rattle.small_text.proofs.laws.parts_are_runs_law.Goals as goal

pub returns : goal.returns
returns c = parts_are_runs
