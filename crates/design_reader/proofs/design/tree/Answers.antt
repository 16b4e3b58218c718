use Rattle.std.proofs.Common.{sym, subst}
use Rattle.design_grammar.specs.Grammar.{AnswersAt}
use Rattle.design_types.specs.TypeReading.{type_at}
use Rattle.design_expressions.specs.declared.limits.TheConstants.{OPEN_EXPRESSIONS}
use Rattle.channel_types.specs.declared.limits.TheConstants.{OPEN_TYPES}
use Rattle.design_statements.specs.StatementReading.{statement_at}
use Rattle.design_reader.specs.DesignReading as spec
use Rattle.design_reader.specs.DesignSteps.{declarations_read}
use Rattle.design_reader.proofs.design.tree.Goals as goal

pub returns-else-is_same-clause-reads : goal.returns-else-is_same-clause-reads
returns-else-is_same-clause-reads c = subst (λ z. AnswersAt z c.declarations_and_top.result c.declarations_and_top.new.cursor) (sym (declarations_read (type_at OPEN_TYPES) (statement_at OPEN_TYPES OPEN_EXPRESSIONS) c.args.cursor.now (cc))) c.declarations_and_top.ensures.reads
