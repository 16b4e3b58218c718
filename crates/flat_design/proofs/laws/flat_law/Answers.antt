use Rattle.flat_design.specs.OnceLemmas.{once_from_places}
use Rattle.flat_design.proofs.Balances.{each_laid_out}
use Rattle.flat_design.proofs.Fittings.{each_fits}
use Rattle.flat_design.proofs.laws.flat_law.Goals as goal

pub returns-clause-laid_out : goal.returns-clause-laid_out
returns-clause-laid_out c = each_laid_out

pub returns-clause-once : goal.returns-clause-once
returns-clause-once c = once_from_places

pub returns-clause-fits : goal.returns-clause-fits
returns-clause-fits c = each_fits
