use Rattle.design_statements.specs.StatementSteps.{no_index}
use Rattle.design_statements.proofs.references.optional_index.Goals as goal

pub returns-else-is_same-clause-reads : goal.returns-else-is_same-clause-reads
returns-else-is_same-clause-reads c = no_index c.args.cursor.now (cc)
