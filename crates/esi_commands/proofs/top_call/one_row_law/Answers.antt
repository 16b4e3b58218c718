use Rattle.esi_commands.specs.Table.{table}
use Rattle.esi_commands.proofs.TableLemmas.{one_row, table_apart}
use Rattle.esi_commands.proofs.top_call.one_row_law.Goals as goal

pub returns : goal.returns
returns c = one_row table table_apart
