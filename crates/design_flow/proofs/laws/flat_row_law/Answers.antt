use Rattle.design_flow.specs.RowLaws.{flat_lists_are_rows}
use Rattle.design_flow.proofs.laws.flat_row_law.Goals as goal

pub returns : goal.returns
returns c = flat_lists_are_rows
