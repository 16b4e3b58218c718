use Rattle.lowered_laws.specs.RowLemmas.{standing_rows_run, standing_loads_fall}
use Rattle.lowered_laws.proofs.laws.standing_loads_fall.Goals as goal

pub returns-clause-rows : goal.returns-clause-rows
returns-clause-rows c = standing_rows_run

pub returns-clause-falls : goal.returns-clause-falls
returns-clause-falls c = standing_loads_fall
