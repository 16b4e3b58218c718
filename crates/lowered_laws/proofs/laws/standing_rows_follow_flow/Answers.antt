use Rattle.lowered_laws.specs.RowLemmas.{standing_rows_follow}
use Rattle.lowered_laws.proofs.laws.standing_rows_follow_flow.Goals as goal

pub returns : goal.returns
returns c = standing_rows_follow
