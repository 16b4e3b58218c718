use Rattle.std.proofs.Common.{◌∙◌}
use Rattle.design_grammar.specs.TokenSteps.{took_made, took_refused, fails_with}
use Rattle.design_grammar.proofs.reading.expect.Goals as goal

pub returns-then-not-is_same-clause-reads : goal.returns-then-not-is_same-clause-reads
returns-then-not-is_same-clause-reads c = fails_with _ _ _ (took_refused _ _ _ c.args.cursor.now (cc)) c.refuse.ensures

pub returns-clause-reads : goal.returns-clause-reads
returns-clause-reads c = took_made _ _ (λ x. x.0.1) c.args.cursor.now (cc) ∙ cc
