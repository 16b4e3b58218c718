-- How much the rings hold and a session takes at most.
use Rattle.std.specs.Prelude.{◌≤◌, List, length}
use Rattle.std.specs.List.{AllByRecursion}
use Rattle.cycle_rules.specs.Circuit.{Bits}
use Rattle.cycle_rules.specs.Simulation.{Simulation}
use Rattle.cycle_rules.specs.declared.limits.TheConstants.{RING_VALUES, SESSION_VALUES}

-- none of the rings holds more than a ring holds at most
abbrev pub AreWithinLimit : List (List Bits) → Type 0
AreWithinLimit rings = AllByRecursion (λ ring. length ring ≤ RING_VALUES) rings

-- nor does the session take more than it takes at most
pub record IsWithinLimits {S : Type 0} (sim : Simulation S) : Type 0 where
  pub to_server : AreWithinLimit sim.machine.to_server
  pub to_client : AreWithinLimit sim.machine.to_client
  pub session : length sim.taken ≤ SESSION_VALUES
