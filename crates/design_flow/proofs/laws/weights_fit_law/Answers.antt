use Rattle.design_flow.specs.WeightLaws.{weights_fit}
use Rattle.design_flow.proofs.laws.weights_fit_law.Goals as goal

pub returns : goal.returns
returns c = weights_fit
