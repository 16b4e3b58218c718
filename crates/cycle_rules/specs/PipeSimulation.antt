-- A simulation of one to-server and one to-client channel, as of a pipe.
use Rattle.std.specs.Prelude.{ℕ, Bool, true, List, [], ◌∷◌}
use Rattle.cycle_rules.specs.Circuit.{Bits}
use Rattle.cycle_rules.specs.declared.transfer.Transfer.{Transfer}
use Rattle.cycle_rules.specs.Simulation.{Simulation}

-- its parts, without the lists over channels
pub record PipeSimulation (S : Type 0) : Type 0 where
  pub waiting : List Bits
  pub entering : List Bits
  pub state : S
  pub leaving : List Bits
  pub switch : Bool
  pub cycles : ℕ
  pub taken : List Transfer
  pub handed : List Transfer

abbrev pub simulation_of : {S : Type 0} → PipeSimulation S → Simulation S
simulation_of one = record {
  waiting = one.waiting ∷ [];
  machine = record { to_server = one.entering ∷ []; state = one.state; to_client = one.leaving ∷ [] };
  switches = one.switch ∷ [];
  cycles = one.cycles;
  taken = one.taken;
  handed = one.handed;
}

-- before the first action: nothing waits, the rings are empty and the switch is on
abbrev pub at_start : {S : Type 0} → S → PipeSimulation S
at_start state = record { waiting = []; entering = []; state = state; leaving = []; switch = true; cycles = 0; taken = []; handed = [] }
