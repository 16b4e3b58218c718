use Rattle.std.proofs.Common.{◌-◌}
use Rattle.cycle_sim.proofs.start.input_places.Given as goal
use Rattle.cycle_sim.specs.Starts.{PlacesBelow}

abbrev pub invariant-loop-place : goal.invariant-loop-place
invariant-loop-place l = PlacesBelow l.nets l.places l.place
