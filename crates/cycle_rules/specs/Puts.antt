-- No value that is put on a channel is lost before it is taken.
use Rattle.std.specs.Prelude.{◌≡◌, ℕ, ◌==◌, if◌then◌else◌, List, [], ◌∷◌, ◌++◌, map, filter, slice_index_or}
use Rattle.cycle_rules.specs.Circuit.{Bits}
use Rattle.cycle_rules.specs.Simulation.{Simulation}
use Rattle.cycle_rules.specs.declared.action.Action.{Action}
use Rattle.cycle_rules.specs.declared.action.Action.TheVariants.{Put, Ready, Run}
use Rattle.cycle_rules.specs.declared.transfer.Transfer.{Transfer}

-- the words of a channel's entries in a journal, in order
abbrev pub words_on : ℕ → List Transfer → List Bits
words_on channel transfers = map (λ t. t.word) (filter (λ t. t.channel == channel) transfers)

-- the words that wait on a channel, the one that was put first at the front
abbrev pub waiting_on : {S : Type 0} → ℕ → Simulation S → List Bits
waiting_on channel sim = slice_index_or sim.waiting channel []

-- the words that the actions put on a channel, in order
abbrev pub words_put : ℕ → List Action → List Bits
words_put channel [] = []
words_put channel (Put at word ∷ actions) = (if at == channel then word ∷ [] else []) ++ words_put channel actions
words_put channel (Ready at on ∷ actions) = words_put channel actions
words_put channel (Run cycles ∷ actions) = words_put channel actions

-- What was taken on a channel, followed by what waits there, is what was before, followed by what the actions put on it.
pub record LosesNone {S : Type 0} (channel : ℕ) (actions : List Action) (old new : Simulation S) : Type 0 where
  pub values : words_on channel new.taken ++ waiting_on channel new ≡ words_on channel old.taken ++ (waiting_on channel old ++ words_put channel actions)

-- The words taken on a channel are a prefix of the words that the actions put there.
pub record TakesInOrder {S : Type 0} (channel : ℕ) (actions : List Action) (sim : Simulation S) : Type 0 where
  pub others : List Bits
  pub prefix : words_put channel actions ≡ words_on channel sim.taken ++ others
