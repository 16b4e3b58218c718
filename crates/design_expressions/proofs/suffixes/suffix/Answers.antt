use Rattle.std.proofs.Common.{sym, subst}
use Rattle.design_grammar.specs.Grammar.{AnswersAt}
use Rattle.design_expressions.specs.ExpressionSteps.{suffix_element}
use Rattle.design_expressions.proofs.suffixes.suffix.Goals as goal

pub returns-else-is_same-clause-reads : goal.returns-else-is_same-clause-reads
returns-else-is_same-clause-reads c = subst (λ z. AnswersAt z c.element.result c.element.new.cursor) (sym (suffix_element c.args.cursor.now (cc))) c.element.ensures.reads
