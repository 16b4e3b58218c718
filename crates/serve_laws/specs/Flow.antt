-- What a lowered design makes of its inputs: the facts of lowering on which the law of prefixes rests.
use Rattle.std.specs.Prelude.{◌≡◌, ℕ, ◌<◌, if◌then◌else◌, Bool, true, false, Option, Some, None, option_to_list, List, [], ◌∷◌, ◌++◌, slice_index_or}
use Rattle.cycle_rules.specs.Circuit.{Bits, Circuit}
use Rattle.cycle_rules.specs.Cycle.{offers, rooms}
use Rattle.serve_acts.specs.Acts.{Act}
use Rattle.serve_acts.specs.Acts.Act.{Settles}
use Rattle.serve_acts.specs.Machines.{machine}
use Rattle.serve_acts.specs.Prefixes.{Begins}
use Rattle.serve_acts.specs.Served.{Served}

-- a cycle's inputs: the word that each to-server channel offers, and whether each to-client channel has room
pub record Input : Type 0 where
  pub offers : List (Option Bits)
  pub rooms : List Bool

-- the inputs of a session, the newest first
abbrev pub inputs : {S : Type 0} → Served S → List Act → List Input
inputs served [] = []
inputs served (Settles ∷ t) = let old = machine served t in record { offers = offers old.to_server; rooms = rooms old.to_client } ∷ inputs served t
inputs served (act ∷ t) = inputs served t

module _ {S : Type 0} (circuit : Circuit S) (start : S) where
  abbrev pub state_after : List Input → S
  state_after [] = start
  state_after (input ∷ earlier) = circuit.next (state_after earlier) input.offers input.rooms

  abbrev pub offered_at : ℕ → Input → Option Bits
  offered_at i input = slice_index_or input.offers i None

  abbrev pub is_ready : ℕ → Input → List Input → Bool
  is_ready i input earlier = slice_index_or (circuit.readies (state_after earlier) input.offers input.rooms) i false

  -- the words that were transferred at a to-server channel, and the word that it offered last without a transfer
  abbrev pub passed_in : ℕ → List Input → List Bits
  passed_in i [] = []
  passed_in i (input ∷ earlier) = passed_in i earlier ++ (if is_ready i input earlier then option_to_list (offered_at i input) else [])

  abbrev pub refused_in : ℕ → List Input → Option Bits
  refused_in i [] = None
  refused_in i (input ∷ earlier) = if is_ready i input earlier then None else offered_at i input

  -- both: what the circuit has been shown
  abbrev pub shown : ℕ → List Input → List Bits
  shown i ins = passed_in i ins ++ option_to_list (refused_in i ins)

  -- the words that were transferred at a to-client channel
  abbrev pub passed_out : ℕ → List Input → List Bits
  passed_out k [] = []
  passed_out k (input ∷ earlier) =
      passed_out k earlier ++ (if slice_index_or input.rooms k false then option_to_list (slice_index_or (circuit.words (state_after earlier) input.offers input.rooms) k None) else [])

  -- each channel offers again what was not transferred
  abbrev pub AllKeep : List Input → Type 0
  AllKeep [] = Unit {0}
  AllKeep (input ∷ earlier) = ((i : ℕ) (word : Bits) → i < circuit.to_server_count → refused_in i earlier ≡ Some word → offered_at i input ≡ Some word) × AllKeep earlier

-- `flow` gives each to-client channel a list of words from those of the to-server channels. After any inputs that keep refused
-- offers the words that were transferred out are a prefix of it, of what was shown; and it grows with what it is given.
pub record KeepsFlow {S : Type 0} (circuit : Circuit S) (start : S) (flow : (ℕ → List Bits) → ℕ → List Bits) : Type 0 where
  pub law : (ins : List Input) (k : ℕ) → AllKeep circuit start ins → k < circuit.to_client_count → Begins (passed_out circuit start k ins) (flow (λ i. shown circuit start i ins) k)
  pub grows : (words more : ℕ → List Bits) (k : ℕ) → ((i : ℕ) → i < circuit.to_server_count → Begins (words i) (more i)) → k < circuit.to_client_count → Begins (flow words k) (flow more k)

-- the words that the circuit offers on a to-client channel are words of it
pub record OffersWords {S : Type 0} (circuit : Circuit S) (IsWord : ℕ → Bits → Bool) : Type 0 where
  pub word : (state : S) (ins : List (Option Bits)) (outs : List Bool) (k : ℕ) (word : Bits) → slice_index_or (circuit.words state ins outs) k None ≡ Some word → IsWord k word ≡ true
