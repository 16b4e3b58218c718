use Rattle.std.proofs.Common.{◌≡◌, ◌++◌, drop}
use Rattle.session_rules.specs.Registers.{register_places}
use Rattle.cosim_core.proofs.places.places_in.Given as goal

abbrev pub invariant-loop-place : goal.invariant-loop-place
invariant-loop-place l = l.places ++ register_places l.place (drop l.place l.nets) ≡ register_places 0 l.nets
