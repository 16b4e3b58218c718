-- A simulation: which values are taken and which channels hand in each cycle, and the run of a list of actions. Only this is
-- the simulator's own; the cycle itself is that of `Cycle`.
use Rattle.std.specs.Prelude.{◌≡◌, ℕ, zero, suc, ◌+◌, ◌-◌, min, Bool, List, [], ◌∷◌, ◌++◌, length, take, drop, slice_set, slice_index_or}
use Rattle.cycle_rules.specs.Circuit.{Bits, Circuit}
use Rattle.cycle_rules.specs.Cycle.{Machine, HasRings, machine_after, values_handed, transfers_from}
use Rattle.cycle_rules.specs.Lists.{zip_with}
use Rattle.cycle_rules.specs.declared.action.Action.{Action}
use Rattle.cycle_rules.specs.declared.action.Action.TheVariants.{Put, Ready, Run}
use Rattle.cycle_rules.specs.declared.limits.TheConstants.{RING_VALUES, SESSION_VALUES}
use Rattle.cycle_rules.specs.declared.transfer.Transfer.{Transfer}

-- a simulation between two cycles: the values put and not yet taken, the circuit in its rings, whether each to-client
-- channel's switch is on, how many cycles were run, and the journal
pub record Simulation (S : Type 0) : Type 0 where
  pub waiting : List (List Bits)
  pub machine : Machine S
  pub switches : List Bool
  pub cycles : ℕ
  pub taken : List Transfer
  pub handed : List Transfer

-- the simulation has all channels of the circuit
pub record HasChannels {S : Type 0} (circuit : Circuit S) (sim : Simulation S) : Type 0 where
  pub waiting : length sim.waiting ≡ circuit.to_server_count
  pub rings : HasRings circuit sim.machine
  pub switches : length sim.switches ≡ circuit.to_client_count

-- Which values are taken: of each channel's waiting values, first come first, as many as its ring has room for and the session
-- still takes.
abbrev pub takes : ℕ → List (List Bits) → List (List Bits) → List (List Bits)
takes left [] rings = []
takes left (values ∷ others) [] = []
takes left (values ∷ others) (ring ∷ rings) =
    let taken = take (min left (RING_VALUES - length ring)) values in
    taken ∷ takes (left - length taken) others rings

-- what is taken in the next cycle
abbrev pub entering_of : {S : Type 0} → Simulation S → List (List Bits)
entering_of sim = takes (SESSION_VALUES - length sim.taken) sim.waiting sim.machine.to_server

-- one cycle: a value is handed exactly where the ring is not empty and the channel's switch is on
abbrev pub after_cycle : {S : Type 0} → Circuit S → Simulation S → Simulation S
after_cycle circuit sim = record {
  waiting = zip_with (λ values taken. drop (length taken) values) sim.waiting (entering_of sim);
  machine = machine_after circuit (entering_of sim) sim.switches sim.machine;
  switches = sim.switches;
  cycles = sim.cycles + 1;
  taken = sim.taken ++ transfers_from sim.cycles 0 (entering_of sim);
  handed = sim.handed ++ transfers_from sim.cycles 0 (values_handed circuit (entering_of sim) sim.switches sim.machine);
}

-- that many cycles
unfoldable pub after_cycles : {S : Type 0} → Circuit S → ℕ → Simulation S → Simulation S
after_cycles circuit zero sim = sim
after_cycles circuit (suc count) sim = after_cycles circuit count (after_cycle circuit sim)

-- one action: a value put waits after those of its channel, a switch is set, and a run is that many cycles
abbrev pub after_action : {S : Type 0} → Circuit S → Action → Simulation S → Simulation S
after_action circuit (Put channel word) sim =
    record sim { waiting = slice_set sim.waiting channel (slice_index_or sim.waiting channel [] ++ word ∷ []) }
after_action circuit (Ready channel on) sim = record sim { switches = slice_set sim.switches channel on }
after_action circuit (Run cycles) sim = after_cycles circuit cycles sim

-- all the actions, in order
unfoldable pub after_actions : {S : Type 0} → Circuit S → List Action → Simulation S → Simulation S
after_actions circuit [] sim = sim
after_actions circuit (action ∷ actions) sim = after_actions circuit actions (after_action circuit action sim)

-- the cycles that the actions run in all
abbrev pub cycles_of_action : Action → ℕ
cycles_of_action (Put channel word) = 0
cycles_of_action (Ready channel on) = 0
cycles_of_action (Run cycles) = cycles

abbrev pub cycles_in : List Action → ℕ
cycles_in [] = 0
cycles_in (action ∷ actions) = cycles_of_action action + cycles_in actions
