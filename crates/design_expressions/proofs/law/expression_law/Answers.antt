use Rattle.design_expressions.specs.ExpressionTexts.{expressions_read}
use Rattle.design_expressions.proofs.law.expression_law.Goals as goal

pub returns-clause-only : goal.returns-clause-only
returns-clause-only c = expressions_read
