use Rattle.element_rows.specs.RowLemmas.{rows_follow}
use Rattle.element_rows.proofs.flow.rows_follow_flow.Goals as goal

pub returns : goal.returns
returns g c = rows_follow
