use Rattle.expression_types.specs.TableLaws.{each_follows_table}
use Rattle.expression_types.proofs.laws.table_law.Goals as goal

pub returns : goal.returns
returns c = each_follows_table
