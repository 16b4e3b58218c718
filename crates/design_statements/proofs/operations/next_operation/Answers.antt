use Rattle.std.proofs.Common.{sym, subst}
use Rattle.design_grammar.specs.Grammar.{AnswersAt}
use Rattle.channel_types.specs.declared.limits.TheConstants.{OPEN_TYPES}
use Rattle.design_expressions.specs.declared.limits.TheConstants.{OPEN_EXPRESSIONS}
use Rattle.design_types.specs.TypeReading.{type_at}
use Rattle.design_expressions.specs.ExpressionReading.{expression_at}
use Rattle.design_statements.specs.StatementSteps.{sized_read}
use Rattle.design_statements.proofs.operations.next_operation.Goals as goal

pub returns-else-is_same-4-clause-reads : goal.returns-else-is_same-4-clause-reads
returns-else-is_same-4-clause-reads c =
    subst (λ z. AnswersAt z c.sized_operation.result c.sized_operation.new.cursor) (sym (sized_read (type_at OPEN_TYPES) (expression_at OPEN_EXPRESSIONS) c.args.cursor.now (cc) (cc) (cc) (cc))) c.sized_operation.ensures.reads
