-- Values come out in the order in which they were taken, and none is lost or made.
use Rattle.std.specs.Prelude.{◌≡◌, Bool, if◌then◌else◌, List, [], ◌∷◌, ◌++◌, map, Option, option_to_list}
use Rattle.cycle_rules.specs.Circuit.{Bits, Circuit}
use Rattle.cycle_rules.specs.declared.transfer.Transfer.{Transfer}
use Rattle.cycle_rules.specs.PipeSimulation.{PipeSimulation, simulation_of, at_start}
use Rattle.cycle_rules.specs.Simulation.{Simulation, after_actions}
use Rattle.cycle_rules.specs.declared.action.Action.{Action}

-- the words of a journal's entries, in order
abbrev pub words_of : List Transfer → List Bits
words_of transfers = map (λ t. t.word) transfers

-- A circuit of one to-server and one to-client channel keeps its values in order: what it holds, followed by what it takes,
-- is what it gives, followed by what it holds then. `held` are the values in it, the oldest first.
pub record KeepsOrder {S : Type 0} (circuit : Circuit S) (held : S → List Bits) : Type 0 where
  pub ready : S → Option Bits → Bool → Bool
  pub word : S → Option Bits → Bool → Option Bits
  pub one_ready : (state : S) (offer : Option Bits) (room : Bool) → circuit.readies state (offer ∷ []) (room ∷ []) ≡ ready state offer room ∷ []
  pub one_word : (state : S) (offer : Option Bits) (room : Bool) → circuit.words state (offer ∷ []) (room ∷ []) ≡ word state offer room ∷ []
  pub keeps : (state : S) (offer : Option Bits) (room : Bool) →
      held state ++ (if ready state offer room then option_to_list offer else [])
      ≡ (if room then option_to_list (word state offer room) else []) ++ held (circuit.next state (offer ∷ []) (room ∷ []))

-- The words taken are the words handed, followed by what is still in the rings and the circuit.
abbrev pub InOrder : {S : Type 0} → (S → List Bits) → PipeSimulation S → Type 0
InOrder held one = words_of one.taken ≡ words_of one.handed ++ (one.leaving ++ (held one.state ++ one.entering))

-- After any actions the simulation is again one of one channel each way, and in order.
pub record EndsInOrder {S : Type 0} (circuit : Circuit S) (held : S → List Bits) (actions : List Action) (old : PipeSimulation S) : Type 0 where
  pub end : PipeSimulation S
  pub reached : after_actions circuit actions (simulation_of old) ≡ simulation_of end
  pub in_order : InOrder held end

-- From an empty circuit every list of actions ends in order.
abbrev pub StaysInOrder : {S : Type 0} → Circuit S → (S → List Bits) → Type 0
StaysInOrder {S} circuit held = (state : S) (actions : List Action) → held state ≡ [] → EndsInOrder circuit held actions (at_start state)

-- The words handed are a prefix of the words taken.
pub record HandsInOrder {S : Type 0} (sim : Simulation S) : Type 0 where
  pub others : List Bits
  pub prefix : words_of sim.taken ≡ words_of sim.handed ++ others
