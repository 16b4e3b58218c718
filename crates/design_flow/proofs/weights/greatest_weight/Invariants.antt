use Rattle.std.proofs.Common.{◌≡◌, take}
use Rattle.design_flow.specs.Weights.{greatest}
use Rattle.design_flow.proofs.weights.greatest_weight.Given as goal

abbrev pub invariant-loop-weight : goal.invariant-loop-weight
invariant-loop-weight l = l.greatest ≡ greatest (take l.weight-index l.weights)
