use Rattle.element_load.specs.WeightLemmas.{are_weights, weights_are_only}
use Rattle.element_load.proofs.load.weights_agree.Goals as goal

pub returns-clause-exact : goal.returns-clause-exact
returns-clause-exact c = are_weights

pub returns-clause-only : goal.returns-clause-only
returns-clause-only c = weights_are_only
