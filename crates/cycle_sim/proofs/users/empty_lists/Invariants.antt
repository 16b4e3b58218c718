use Rattle.std.proofs.Common.{◌≡◌, ◌-◌, []}
use Rattle.cycle_sim.proofs.users.empty_lists.Given as goal
use Rattle.std.specs.Prelude.{replicate}

abbrev pub invariant-loop-place : goal.invariant-loop-place
invariant-loop-place l = l.lists.items ≡ replicate l._place []
