-- That a simulation loses no value that was put, cycle by cycle and action by action.
use Rattle.std.specs.Prelude.{◌≡◌, ℕ, zero, suc, ◌+◌, ◌-◌, ◌==◌, ◌<◌, min, Bool, true, false, if◌then◌else◌, cond, List, [], ◌∷◌, ◌++◌, length, map, filter, take, drop, slice_set, slice_index_or, refl}
use Rattle.std.proofs.Common.{sym, ◌∙◌, ap, append_assoc, arith}
use Rattle.std.proofs.lemmas.List.Elements.{filter-append}
use Rattle.std.proofs.lemmas.Bool.Decides.{nat_tests}
use Rattle.cycle_rules.specs.Circuit.{Bits, Circuit}
use Rattle.cycle_rules.specs.ChannelsLemmas.{length_takes, cycle_channels, cycles_channels, action_channels}
use Rattle.cycle_rules.specs.Cycle.{transfers_from}
use Rattle.cycle_rules.specs.Lists.{zip_with}
use Rattle.cycle_rules.specs.OrderLemmas.{append_nil, map-append'}
use Rattle.cycle_rules.specs.declared.limits.TheConstants.{RING_VALUES, SESSION_VALUES}
use Rattle.cycle_rules.specs.Simulation.{Simulation, HasChannels, takes, entering_of, after_cycle, after_cycles, after_action, after_actions}
use Rattle.cycle_rules.specs.Puts.{words_on, waiting_on, words_put, LosesNone}
use Rattle.cycle_rules.specs.declared.action.Action.{Action}
use Rattle.cycle_rules.specs.declared.action.Action.TheVariants.{Put, Ready, Run}
use Rattle.cycle_rules.specs.declared.transfer.Transfer.{Transfer}

take_drop : (k : ℕ) (xs : List Bits) → take k xs ++ drop (length (take k xs)) xs ≡ xs
take_drop zero xs = refl
take_drop (suc k) [] = refl
take_drop (suc k) (x ∷ xs) = ap (λ ys. x ∷ ys) (take_drop k xs)

-- on each channel what is taken and what is left are what waited
taken_and_left : (left : ℕ) (waiting rings : List (List Bits)) (k : ℕ) → k < length waiting → length waiting ≡ length rings
    → slice_index_or (takes left waiting rings) k [] ++ slice_index_or (zip_with (λ values taken. drop (length taken) values) waiting (takes left waiting rings)) k []
    ≡ slice_index_or waiting k []
taken_and_left left [] rings k h e = absurd (omega arith)
taken_and_left left (values ∷ others) [] k h e = absurd (omega arith)
taken_and_left left (values ∷ others) (ring ∷ rings) zero h e = take_drop (min left (RING_VALUES - length ring)) values
taken_and_left left (values ∷ others) (ring ∷ rings) (suc k) h e =
    taken_and_left (left - length (take (min left (RING_VALUES - length ring)) values)) others rings k (omega arith) (omega arith)

pub words_on-append : (channel : ℕ) (old new : List Transfer) → words_on channel (old ++ new) ≡ words_on channel old ++ words_on channel new
words_on-append channel old new =
    ap (λ ms. map (λ m. m.word) ms) (filter-append (λ m. m.channel == channel) old new)
    ∙ map-append' (λ m. m.word) (filter (λ m. m.channel == channel) old) (filter (λ m. m.channel == channel) new)

-- the entries of one channel, asked for by another or by itself
words_of_one : (cycle from channel : ℕ) (values : List Bits) (same : Bool) → (from == channel) ≡ same
    → words_on channel (map (λ word. record { cycle = cycle; channel = from; word = word }) values) ≡ (if same then values else [])
words_of_one cycle from channel [] true e = refl
words_of_one cycle from channel [] false e = refl
words_of_one cycle from channel (v ∷ vs) true e =
    let entry : Bits → Transfer = λ word. record { cycle = cycle; channel = from; word = word } in
    ap (λ b. map (λ m. m.word) (cond b (entry v ∷ filter (λ m. m.channel == channel) (map entry vs)) (filter (λ m. m.channel == channel) (map entry vs)))) e
    ∙ ap (λ ws. v ∷ ws) (words_of_one cycle from channel vs true e)
words_of_one cycle from channel (v ∷ vs) false e =
    let entry : Bits → Transfer = λ word. record { cycle = cycle; channel = from; word = word } in
    ap (λ b. map (λ m. m.word) (cond b (entry v ∷ filter (λ m. m.channel == channel) (map entry vs)) (filter (λ m. m.channel == channel) (map entry vs)))) e
    ∙ words_of_one cycle from channel vs false e

other : (n k : ℕ) → n < k → (k == n) ≡ false
other n k h = grind (arith, nat_tests)

another : (n k : ℕ) → n < k → (n == k) ≡ false
another n k h = grind (arith, nat_tests)

same : (n k : ℕ) → n ≡ k → (n == k) ≡ true
same n k h = grind (arith, nat_tests)

alike : (n k : ℕ) → (suc n == suc k) ≡ (n == k)
alike n k = grind (arith, nat_tests)

none_before : (cycle from channel : ℕ) (lists : List (List Bits)) → channel < from → words_on channel (transfers_from cycle from lists) ≡ []
none_before cycle from channel [] h = refl
none_before cycle from channel (values ∷ others) h =
    words_on-append channel (map (λ word. record { cycle = cycle; channel = from; word = word }) values) (transfers_from cycle (from + 1) others)
    ∙ ap (λ ws. ws ++ words_on channel (transfers_from cycle (from + 1) others)) (words_of_one cycle from channel values false (other channel from h))
    ∙ none_before cycle (from + 1) channel others (omega arith)

-- the journal of a cycle has for each channel what was taken there
words_of_channel : (cycle from k channel : ℕ) (lists : List (List Bits)) → channel ≡ from + k → k < length lists
    → words_on channel (transfers_from cycle from lists) ≡ slice_index_or lists k []
words_of_channel cycle from k channel [] e h = absurd (omega arith)
words_of_channel cycle from zero channel (values ∷ others) e h =
    words_on-append channel (map (λ word. record { cycle = cycle; channel = from; word = word }) values) (transfers_from cycle (from + 1) others)
    ∙ ap (λ ws. ws ++ words_on channel (transfers_from cycle (from + 1) others)) (words_of_one cycle from channel values true (same from channel (omega arith)))
    ∙ ap (λ ws. values ++ ws) (none_before cycle (from + 1) channel others (omega arith))
    ∙ append_nil values
words_of_channel cycle from (suc k) channel (values ∷ others) e h =
    words_on-append channel (map (λ word. record { cycle = cycle; channel = from; word = word }) values) (transfers_from cycle (from + 1) others)
    ∙ ap (λ ws. ws ++ words_on channel (transfers_from cycle (from + 1) others)) (words_of_one cycle from channel values false (another from channel (omega arith)))
    ∙ words_of_channel cycle (from + 1) k channel others (omega arith) (omega arith)

put_at : (lists : List (List Bits)) (at k : ℕ) (word : Bits) → k < length lists
    → slice_index_or (slice_set lists at (slice_index_or lists at [] ++ word ∷ [])) k [] ≡ slice_index_or lists k [] ++ (if at == k then word ∷ [] else [])
put_at [] at k word h = absurd (omega arith)
put_at (x ∷ xs) zero zero word h = refl
put_at (x ∷ xs) zero (suc k) word h =
    sym (append_nil (slice_index_or xs k [])) ∙ sym (ap (λ b. slice_index_or xs k [] ++ (if b then word ∷ [] else [])) (another zero (suc k) (omega arith)))
put_at (x ∷ xs) (suc at) zero word h = sym (append_nil x) ∙ sym (ap (λ b. x ++ (if b then word ∷ [] else [])) (other zero (suc at) (omega arith)))
put_at (x ∷ xs) (suc at) (suc k) word h =
    put_at xs at k word (omega arith) ∙ sym (ap (λ b. slice_index_or xs k [] ++ (if b then word ∷ [] else [])) (alike at k))

module _ {S : Type 0} (circuit : Circuit S) (channel : ℕ) (here : channel < circuit.to_server_count) where
  abbrev all_on : Simulation S → List Bits
  all_on sim = words_on channel sim.taken ++ waiting_on channel sim

  cycle_keeps : (sim : Simulation S) → HasChannels circuit sim → all_on (after_cycle circuit sim) ≡ all_on sim
  cycle_keeps sim h =
      let left : ℕ = SESSION_VALUES - length sim.taken in
      let equal : length sim.waiting ≡ length sim.machine.to_server = h.waiting ∙ sym h.rings.to_server in
      let within : channel < length sim.waiting = omega (arith, h.waiting) in
      let among : channel < length (entering_of sim) = omega (arith, within, length_takes left sim.waiting sim.machine.to_server equal) in
      ap (λ ws. ws ++ waiting_on channel (after_cycle circuit sim))
      (words_on-append channel sim.taken (transfers_from sim.cycles 0 (entering_of sim))
      ∙ ap (λ ws. words_on channel sim.taken ++ ws) (words_of_channel sim.cycles 0 channel channel (entering_of sim) (omega arith) among))
      ∙ append_assoc (words_on channel sim.taken) (slice_index_or (entering_of sim) channel []) (waiting_on channel (after_cycle circuit sim))
      ∙ ap (λ ws. words_on channel sim.taken ++ ws) (taken_and_left left sim.waiting sim.machine.to_server channel within equal)

  cycles_keep : (cycles : ℕ) (sim : Simulation S) → HasChannels circuit sim → all_on (after_cycles circuit cycles sim) ≡ all_on sim
  unfolding after_cycles
  cycles_keep zero sim h = refl
  cycles_keep (suc cycles) sim h = cycles_keep cycles (after_cycle circuit sim) (cycle_channels circuit sim h) ∙ cycle_keeps sim h

  actions_keep : (actions : List Action) (sim : Simulation S) → HasChannels circuit sim
      → all_on (after_actions circuit actions sim) ≡ words_on channel sim.taken ++ (waiting_on channel sim ++ words_put channel actions)
  unfolding after_actions
  actions_keep [] sim h = ap (λ ws. words_on channel sim.taken ++ ws) (sym (append_nil (waiting_on channel sim)))
  actions_keep (Put at word ∷ actions) sim h =
      actions_keep actions (after_action circuit (Put at word) sim)
      (action_channels circuit (Put at word) sim h)
      ∙ ap (λ ws. words_on channel sim.taken ++ (ws ++ words_put channel actions)) (put_at sim.waiting at channel word (omega (arith, h.waiting)))
      ∙ ap (λ ws. words_on channel sim.taken ++ ws) (append_assoc (waiting_on channel sim) (if at == channel then word ∷ [] else []) (words_put channel actions))
  actions_keep (Ready at on ∷ actions) sim h = actions_keep actions (after_action circuit (Ready at on) sim) (action_channels circuit (Ready at on) sim h)
  actions_keep (Run cycles ∷ actions) sim h =
      let after : Simulation S = after_cycles circuit cycles sim in
      actions_keep actions after (cycles_channels circuit cycles sim h)
      ∙ sym (append_assoc (words_on channel after.taken) (waiting_on channel after) (words_put channel actions))
      ∙ ap (λ ws. ws ++ words_put channel actions) (cycles_keep cycles sim h)
      ∙ append_assoc (words_on channel sim.taken) (waiting_on channel sim) (words_put channel actions)

  pub loses_none : (actions : List Action) (sim : Simulation S) → HasChannels circuit sim → LosesNone channel actions sim (after_actions circuit actions sim)
  loses_none actions sim h = record { values = actions_keep actions sim h }
