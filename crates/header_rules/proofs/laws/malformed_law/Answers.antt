-- The three clauses are the lemmas of `RuleLaws`.
use Rattle.header_rules.proofs.RuleLaws.{broken, malformed, well_formed}
use Rattle.header_rules.proofs.laws.malformed_law.Goals as goal

pub returns-clause-broken : goal.returns-clause-broken
returns-clause-broken c = broken

pub returns-clause-malformed : goal.returns-clause-malformed
returns-clause-malformed c = malformed

pub returns-clause-well_formed : goal.returns-clause-well_formed
returns-clause-well_formed c = well_formed
