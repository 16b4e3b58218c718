-- The use lists of a netlist and the places of its inputs.
use Rattle.std.specs.Prelude.{◌≡◌, ℕ, ◌<◌, Bool, true, not, if◌then◌else◌, All, List, [], Option, length, count_by}
use Rattle.std.specs.List.{slice_index_or}
use Rattle.std.specs.Option.{option_to_list}
use Rattle.netlist.specs.declared.net.Net.{Net}
use Rattle.netlist.specs.Nets.{is_input, sources}
use Rattle.netlist.specs.Plans.{Plan, net_at, is_register_at, next_of, IsComplete}
use Rattle.netlist.specs.Settled.{input_place}
use Rattle.cycle_sim.specs.Changes.{is_among}

-- the nets that use a net
abbrev pub users_at : List (List ℕ) → ℕ → List ℕ
users_at users place = slice_index_or users place []

-- whether a net is no register
abbrev pub is_other_at : List Net → ℕ → Bool
is_other_at nets place = not (is_register_at nets place)

-- the nets from which a net has its word: its sources, and of a register its next net
abbrev pub reads : Plan → ℕ → List ℕ
reads plan place = if is_register_at plan.nets place then option_to_list (next_of plan place) else sources (net_at plan.nets place)

-- each net's list has exactly the nets that have their word from it
pub record AreUsers (plan : Plan) (users : List (List ℕ)) : Type 0 where
  pub count : length users ≡ length plan.nets
  pub exact : (place user : ℕ) → user < length plan.nets → is_among (users_at users place) user ≡ is_among (reads plan user) place
  pub within : (place : ℕ) → All (λ user. user < length plan.nets) (users_at users place)

-- an input stands at a place, and as many inputs before it
pub record IsInputPlace (nets : List Net) (number place : ℕ) : Type 0 where
  pub within : place < length nets
  pub is_one : is_input (net_at nets place) ≡ true
  pub numbered : input_place nets place ≡ number

-- the places of the inputs, in order
pub record AreInputPlaces (nets : List Net) (places : List ℕ) : Type 0 where
  pub count : length places ≡ count_by is_input nets
  pub each : (number : ℕ) → number < length places → IsInputPlace nets number (slice_index_or places number 0)
  pub all : (place : ℕ) → place < length nets → is_input (net_at nets place) ≡ true → slice_index_or places (input_place nets place) 0 ≡ place

-- what is made of a netlist once
pub record IsWired (plan : Plan) (users : List (List ℕ)) (places : List ℕ) : Type 0 where
  pub complete : IsComplete plan
  pub used : AreUsers plan users
  pub inputs : AreInputPlaces plan.nets places
