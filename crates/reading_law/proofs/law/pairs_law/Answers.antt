use Rattle.reading_law.specs.Example.{pairs_found, pairs_only, pairs_refused}
use Rattle.reading_law.proofs.law.pairs_law.Goals as goal

pub returns-clause-found : goal.returns-clause-found
returns-clause-found c = pairs_found

pub returns-clause-only : goal.returns-clause-only
returns-clause-only c = pairs_only

pub returns-clause-refused : goal.returns-clause-refused
returns-clause-refused c = pairs_refused
