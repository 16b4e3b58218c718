use Rattle.std.proofs.Common.{◌∙◌}
use Rattle.design_grammar.specs.TokenSteps.{any_made, any_refused, fails_with, worth_is}
use Rattle.design_grammar.specs.Grammar.{number_in}
use Rattle.design_grammar.proofs.reading.count.Goals as goal

pub returns-then-not-is_count-clause-reads : goal.returns-then-not-is_count-clause-reads
returns-then-not-is_count-clause-reads c = fails_with _ _ _ (any_refused _ _ _ c.args.cursor.now (cc)) c.refuse.ensures

pub returns-clause-reads : goal.returns-clause-reads
returns-clause-reads c = any_made _ _ (λ x. number_in x.1) c.args.cursor.now (cc) ∙ (let e = worth_is number_in c.args.cursor.now in cc)
