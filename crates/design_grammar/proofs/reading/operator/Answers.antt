use Rattle.design_grammar.specs.TokenSteps.{took_gives, took_refused, fails_with}
use Rattle.design_grammar.specs.Grammar.{named_in}
use Rattle.design_grammar.proofs.reading.operator.Goals as goal

pub returns-then-not-is_same-clause-reads : goal.returns-then-not-is_same-clause-reads
returns-then-not-is_same-clause-reads c = fails_with _ _ _ (took_refused _ _ _ c.args.cursor.now (cc)) c.refuse.ensures

pub returns-clause-reads : goal.returns-clause-reads
returns-clause-reads c = took_gives _ _ named_in c.args.cursor.now _ _ (cc) c.next_word-word.ensures c.advance.ensures
