use Rattle.std.proofs.Common.{◌∙◌}
use Rattle.design_grammar.specs.TokenSteps.{took_made, took_refused, fails_with, worth_is}
use Rattle.design_grammar.specs.Grammar.{width_in}
use Rattle.design_grammar.proofs.reading.type_word.Goals as goal

pub returns-then-not-is_same-clause-reads : goal.returns-then-not-is_same-clause-reads
returns-then-not-is_same-clause-reads c = fails_with _ _ _ (took_refused _ _ _ c.args.cursor.now (cc)) c.refuse.ensures

pub returns-clause-reads : goal.returns-clause-reads
returns-clause-reads c = took_made _ _ (λ x. (width_in x.1, x.0.1)) c.args.cursor.now (cc) ∙ (let e = worth_is width_in c.args.cursor.now in cc)
