use Rattle.design_grammar.specs.TokenSteps.{any_gives, any_refused, fails_with}
use Rattle.design_grammar.specs.Grammar.{named_in}
use Rattle.design_grammar.proofs.reading.name.Goals as goal

pub returns-then-not-is_name-clause-reads : goal.returns-then-not-is_name-clause-reads
returns-then-not-is_name-clause-reads c = fails_with _ _ _ (any_refused _ _ _ c.args.cursor.now (cc)) c.refuse.ensures

pub returns-clause-reads : goal.returns-clause-reads
returns-clause-reads c = any_gives _ _ named_in c.args.cursor.now _ _ (cc) c.in_ok-name.ensures c.advance.ensures
