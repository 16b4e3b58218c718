use Rattle.std.proofs.Common.{◌≡◌, ◌+◌, get_or}
use Rattle.element_rows.specs.Flat.{sum_below}
use Rattle.design_flow.specs.Weights.{capped}
use Rattle.design_flow.proofs.weights.branches_weight.Given as goal

abbrev pub invariant-loop-branch : goal.invariant-loop-branch
invariant-loop-branch l = l.sum ≡ capped (sum_below (λ k. 1 + get_or l.weights (l.made + k) 0) l.branch)
