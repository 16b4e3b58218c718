use Rattle.std.proofs.Common.{◌-◌}
use Rattle.cycle_sim.proofs.start.words_at_rest.Given as goal
use Rattle.cycle_sim.specs.Starts.{RestBelow}

abbrev pub invariant-loop-place : goal.invariant-loop-place
invariant-loop-place l = RestBelow l.net l.words l.place
