-- That rings and session stay within their sizes, cycle by cycle and action by action, for any circuit and any number of channels.
use Rattle.std.specs.Prelude.{◌≡◌, ℕ, zero, suc, ◌+◌, ◌-◌, ◌<◌, ◌≤◌, min, nat_lt, Bool, true, false, if◌then◌else◌, List, [], ◌∷◌, ◌++◌, length, map, take, drop, Option, Some, None, option_to_list, refl}
use Rattle.std.proofs.Common.{length-append, arith}
use Rattle.std.proofs.lemmas.Bool.Decides.{nat_tests}
use Rattle.cycle_rules.specs.Circuit.{Bits, Circuit}
use Rattle.cycle_rules.specs.Cycle.{transfers_from}
use Rattle.cycle_rules.specs.Rings.{after_pop, after_push}
use Rattle.cycle_rules.specs.declared.limits.TheConstants.{RING_VALUES, SESSION_VALUES}
use Rattle.cycle_rules.specs.Lists.{zip_with}
use Rattle.cycle_rules.specs.Simulation.{Simulation, takes, entering_of, after_cycle, after_cycles, after_action, after_actions}
use Rattle.cycle_rules.specs.Sizes.{AreWithinLimit, IsWithinLimits}
use Rattle.cycle_rules.specs.declared.action.Action.{Action}
use Rattle.cycle_rules.specs.declared.action.Action.TheVariants.{Put, Ready, Run}
use Rattle.cycle_rules.specs.declared.transfer.Transfer.{Transfer}

at_most : {A : Type 0} (k : ℕ) (xs : List A) → length (take k xs) ≤ k
at_most zero xs = omega arith
at_most (suc k) [] = omega arith
at_most (suc k) (x ∷ xs) = omega (arith, at_most k xs)

joined : (left : ℕ) (ring values : List Bits) → length ring ≤ RING_VALUES → length (ring ++ take (min left (RING_VALUES - length ring)) values) ≤ RING_VALUES
joined left ring values h =
    omega (arith, length-append ring (take (min left (RING_VALUES - length ring)) values), at_most (min left (RING_VALUES - length ring)) values)

entered_within : (left : ℕ) (waiting rings : List (List Bits)) → AreWithinLimit rings → AreWithinLimit (zip_with (λ ring values. ring ++ values) rings (takes left waiting rings))
entered_within left waiting [] h = tt
entered_within left [] (ring ∷ rings) h = tt
entered_within left (values ∷ others) (ring ∷ rings) h =
    (joined left ring values h.0, entered_within (left - length (take (min left (RING_VALUES - length ring)) values)) others rings h.1)

one_off : (goes : Bool) (ring : List Bits) → length ring ≤ RING_VALUES → length (if goes then drop 1 ring else ring) ≤ RING_VALUES
one_off false ring h = h
one_off true [] h = h
one_off true (x ∷ xs) h = omega (arith, h)

fronts_off : (rings : List (List Bits)) (gone : List Bool) → AreWithinLimit rings → AreWithinLimit (zip_with after_pop rings gone)
fronts_off [] gone h = tt
fronts_off (ring ∷ rings) [] h = tt
fronts_off (ring ∷ rings) (goes ∷ gone) h = (one_off goes ring h.0, fronts_off rings gone h.1)

count_of : {A : Type 0} (word : Option A) → length (option_to_list word) ≤ 1
count_of None = omega arith
count_of (Some word) = omega arith

one_more : (room : Bool) (ring : List Bits) (word : Option Bits) → room ≡ nat_lt (length ring) RING_VALUES → length ring ≤ RING_VALUES
    → length (if room then ring ++ option_to_list word else ring) ≤ RING_VALUES
one_more false ring word e h = h
one_more true ring word e h =
    let below : length ring < RING_VALUES = grind (arith, nat_tests) in
    omega (arith, below, length-append ring (option_to_list word), count_of word)

words_within : (rings : List (List Bits)) (words : List (Option Bits)) → AreWithinLimit rings → AreWithinLimit (zip_with after_push rings words)
words_within [] words h = tt
words_within (ring ∷ rings) [] h = tt
words_within (ring ∷ rings) (word ∷ words) h = (one_more (nat_lt (length ring) RING_VALUES) ring word refl h.0, words_within rings words h.1)

length-map' : {A B : Type 0} (f : A → B) (xs : List A) → length (map f xs) ≡ length xs
length-map' f [] = refl
length-map' f (x ∷ xs) = omega (arith, length-map' f xs)

-- a cycle takes no more than the session still takes
taken_within : (cycle channel left : ℕ) (waiting rings : List (List Bits)) → length (transfers_from cycle channel (takes left waiting rings)) ≤ left
taken_within cycle channel left [] rings = omega arith
taken_within cycle channel left (values ∷ others) [] = omega arith
taken_within cycle channel left (values ∷ others) (ring ∷ rings) =
    let taken : List Bits = take (min left (RING_VALUES - length ring)) values in
    let entry : Bits → Transfer = λ word. record { cycle = cycle; channel = channel; word = word } in
    omega (
      arith,
      length-append (map entry taken) (transfers_from cycle (channel + 1) (takes (left - length taken) others rings)),
      length-map' entry taken,
      at_most (min left (RING_VALUES - length ring)) values,
      taken_within cycle (channel + 1) (left - length taken) others rings,
    )

module _ {S : Type 0} (circuit : Circuit S) where
  cycle_within : (sim : Simulation S) → IsWithinLimits sim → IsWithinLimits (after_cycle circuit sim)
  cycle_within sim h =
      let left : ℕ = SESSION_VALUES - length sim.taken in
      record {
        to_server = fronts_off _ _ (entered_within left sim.waiting sim.machine.to_server h.to_server);
        to_client = fronts_off _ _ (words_within _ _ h.to_client);
        session = omega (arith, h.session, length-append sim.taken (transfers_from sim.cycles 0 (entering_of sim)), taken_within sim.cycles 0 left sim.waiting sim.machine.to_server);
      }

  cycles_within : (count : ℕ) (sim : Simulation S) → IsWithinLimits sim → IsWithinLimits (after_cycles circuit count sim)
  unfolding after_cycles
  cycles_within zero sim h = h
  cycles_within (suc count) sim h = cycles_within count (after_cycle circuit sim) (cycle_within sim h)

  action_within : (action : Action) (sim : Simulation S) → IsWithinLimits sim → IsWithinLimits (after_action circuit action sim)
  action_within (Put channel word) sim h = record { to_server = h.to_server; to_client = h.to_client; session = h.session }
  action_within (Ready channel on) sim h = record { to_server = h.to_server; to_client = h.to_client; session = h.session }
  action_within (Run cycles) sim h = cycles_within cycles sim h

  pub stays_within : (actions : List Action) (sim : Simulation S) → IsWithinLimits sim → IsWithinLimits (after_actions circuit actions sim)
  unfolding after_actions
  stays_within [] sim h = h
  stays_within (action ∷ actions) sim h = stays_within actions (after_action circuit action sim) (action_within action sim h)
