use Rattle.expression_types.specs.GoodTypes.{good_types_stay_good}
use Rattle.expression_types.proofs.laws.good_types_law.Goals as goal

pub returns : goal.returns
returns c = good_types_stay_good
