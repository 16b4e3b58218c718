use Rattle.std.proofs.Common.{sym, subst}
use Rattle.design_grammar.specs.Grammar.{AnswersAt}
use Rattle.design_expressions.specs.declared.limits.TheConstants.{OPEN_EXPRESSIONS}
use Rattle.channel_types.specs.declared.limits.TheConstants.{OPEN_TYPES}
use Rattle.design_statements.specs.StatementReading.{statement_at}
use Rattle.design_reader.specs.DesignReading as spec
use Rattle.design_reader.specs.DesignSteps.{implement_read}
use Rattle.design_reader.proofs.design.top_item.Goals as goal

pub returns-else-begins_statement-clause-reads : goal.returns-else-begins_statement-clause-reads
returns-else-begins_statement-clause-reads c = subst (λ z. AnswersAt z c.implement.result c.implement.new.cursor) (sym (implement_read (statement_at OPEN_TYPES OPEN_EXPRESSIONS) c.args.cursor.now (cc))) c.implement.ensures.reads
