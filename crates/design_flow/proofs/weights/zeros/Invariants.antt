use Rattle.std.specs.Prelude.{◌≡◌, replicate}
use Rattle.design_flow.proofs.weights.zeros.Given as goal

abbrev pub invariant-loop-number : goal.invariant-loop-number
invariant-loop-number l = l.zeros ≡ replicate l._number 0
