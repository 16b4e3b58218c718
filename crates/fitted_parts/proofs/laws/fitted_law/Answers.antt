use Rattle.fitted_parts.proofs.Fitting.{each_type_is_good, each_fits}
use Rattle.fitted_parts.proofs.laws.fitted_law.Goals as goal

pub returns : goal.returns
returns c = record { types = each_type_is_good; parts = each_fits }
