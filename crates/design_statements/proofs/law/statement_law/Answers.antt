use Rattle.design_statements.specs.StatementTexts.{statements_read}
use Rattle.design_statements.proofs.law.statement_law.Goals as goal

pub returns-clause-only : goal.returns-clause-only
returns-clause-only c = statements_read
