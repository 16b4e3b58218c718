-- The load of a row: how far the values under way still have to go. For rows without a join.
use Rattle.std.specs.Prelude.{◌≡◌, ℕ, ◌+◌, ◌-◌, ◌*◌, ◌<◌, ◌&&◌, not, true, List, [], ◌∷◌, length, if◌then◌else◌}
use Rattle.element_laws.specs.Signals.{Signals, is_transfer}
use Rattle.element_laws.specs.Elements.{Element, output_count, Contents, flag}
use Rattle.element_laws.specs.Elements.Element.{stage, fifo, fork, join}
use Rattle.element_rows.specs.Flat.{Placed, source, among, sum_below}

-- one where a word is transferred, one where a word is offered
abbrev pub moves : Signals → ℕ
moves s = if is_transfer s then 1 else 0

abbrev pub waits : Signals → ℕ
waits s = if s.valid then 1 else 0

abbrev pub refusals : Signals → ℕ
refusals s = if s.valid && not s.ready then 1 else 0

-- Not a join, and of a size that can take a word in.
abbrev pub CanTake : Element → Type 0
CanTake (fifo depth) = 0 < depth
CanTake (fork branches) = 0 < branches
CanTake join = ⊥
CanTake element = Unit {0}

abbrev pub AllCanTake : List Placed → Type 0
AllCanTake [] = Unit {0}
AllCanTake (placed ∷ others) = CanTake placed.element × AllCanTake others

-- The weight of the channel that an element takes, of the weights of those that it makes: a storage element counts one
-- more, a fork the sum of one more for each branch. (A join has none.)
abbrev pub input_weight : Element → (ℕ → ℕ) → ℕ
input_weight stage outputs = 1 + outputs 0
input_weight (fifo depth) outputs = 1 + outputs 0
input_weight (fork branches) outputs = sum_below (λ k. 1 + outputs k) branches
input_weight join outputs = 0
input_weight element outputs = outputs 0

-- The weight of a channel: 2 at a to-client endpoint, else that which its element gives to its input.
abbrev pub weight : ℕ → List Placed → List ℕ → ℕ → ℕ
weight made [] clients channel = if among channel clients then 2 else 0
weight made (placed ∷ others) clients channel =
    let later = weight (made + output_count placed.element) others clients in
    if among channel placed.sources then input_weight placed.element (λ k. later (made + k)) else later channel

-- the same as a relation between the weights of an element's channels ..
abbrev pub WeighElements : (ℕ → ℕ) → ℕ → List Placed → Type 0
WeighElements weight made [] = Unit {0}
WeighElements weight made (placed ∷ others) =
    (weight (source placed 0) ≡ input_weight placed.element (λ k. weight (made + k))) × WeighElements weight (made + output_count placed.element) others

-- .. and of those at to-client endpoints
pub record AreWeights (weight : ℕ → ℕ) (servers : ℕ) (placed : List Placed) (clients : List ℕ) : Type 0 where
  pub elements : WeighElements weight servers placed
  pub clients_weigh : (channel : ℕ) → among channel clients ≡ true → weight channel ≡ 2

-- What an element holds, of the weights of the channels that it makes: each stored word counts the weight of the output ..
abbrev pub stored : Element → (ℕ → ℕ) → Contents → ℕ
stored stage outputs now = outputs 0 * length now.held
stored (fifo depth) outputs now = outputs 0 * length now.held
stored element outputs now = 0

-- .. and for each branch of a fork that has had the word at its input, which still counts in full, one more than the
-- weight of the branch is taken off.
abbrev pub owed : Element → (ℕ → ℕ) → Contents → ℕ
owed (fork branches) outputs now = sum_below (λ k. if flag now k then 1 + outputs k else 0) branches
owed element outputs now = 0

-- over all elements, each with what it holds
abbrev pub all_stored : (ℕ → ℕ) → ℕ → List Placed → List Contents → ℕ
all_stored weight made [] contents = 0
all_stored weight made (placed ∷ others) [] = 0
all_stored weight made (placed ∷ others) (now ∷ contents) =
    stored placed.element (λ k. weight (made + k)) now + all_stored weight (made + output_count placed.element) others contents

abbrev pub all_owed : (ℕ → ℕ) → ℕ → List Placed → List Contents → ℕ
all_owed weight made [] contents = 0
all_owed weight made (placed ∷ others) [] = 0
all_owed weight made (placed ∷ others) (now ∷ contents) =
    owed placed.element (λ k. weight (made + k)) now + all_owed weight (made + output_count placed.element) others contents

-- The load of a row whose to-server channels have so many values in line: each of these counts the weight of its channel.
abbrev pub load : (ℕ → ℕ) → ℕ → List Placed → (ℕ → ℕ) → List Contents → ℕ
load weight servers placed in_line contents =
    (sum_below (λ c. weight c * in_line c) servers + all_stored weight servers placed contents) - all_owed weight servers placed contents

-- what the load loses in an element in one cycle: one where storage takes a word, and one for each branch of a fork that does
abbrev pub spent : Element → Signals → (ℕ → Signals) → ℕ
spent stage input outputs = moves input
spent (fifo depth) input outputs = moves input
spent (fork branches) input outputs = sum_below (λ k. moves (outputs k)) branches
spent element input outputs = 0

abbrev pub all_spent : (ℕ → Signals) → ℕ → List Placed → ℕ
all_spent signals made [] = 0
all_spent signals made (placed ∷ others) =
    spent placed.element (signals (source placed 0)) (λ k. signals (made + k)) + all_spent signals (made + output_count placed.element) others
