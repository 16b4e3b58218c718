use Rattle.std.proofs.Common.{sym, subst}
use Rattle.design_grammar.specs.Grammar.{AnswersAt}
use Rattle.design_statements.specs.StatementSteps.{some_bindings, no_bindings}
use Rattle.design_statements.proofs.statements.bindings.Goals as goal

pub returns-then-is_name-clause-reads : goal.returns-then-is_name-clause-reads
returns-then-is_name-clause-reads c = subst (λ z. AnswersAt z c.listed_bindings.result c.listed_bindings.new.cursor) (sym (some_bindings c.args.cursor.now (cc))) c.listed_bindings.ensures.reads

pub returns-else-is_name-clause-reads : goal.returns-else-is_name-clause-reads
returns-else-is_name-clause-reads c = no_bindings c.args.cursor.now c.new.result (cc) c.new.ensures
