-- That a simulation which has all channels of its circuit has them after any actions: no ring is lost or made.
use Rattle.std.specs.Prelude.{◌≡◌, ℕ, zero, suc, ◌-◌, min, Bool, List, [], ◌∷◌, ◌++◌, length, take, slice_set, slice_index_or, refl}
use Rattle.std.proofs.Common.{sym, ◌∙◌, ap, arith}
use Rattle.cycle_rules.specs.Circuit.{Bits, Circuit}
use Rattle.cycle_rules.specs.Cycle.{Machine, HasRings, offers, rooms, after_takes, after_transfers, machine_after}
use Rattle.cycle_rules.specs.Lists.{zip_with}
use Rattle.cycle_rules.specs.Rings.{after_pop, after_push}
use Rattle.cycle_rules.specs.Simulation.{Simulation, HasChannels, takes, entering_of, after_cycle, after_cycles, after_action, after_actions}
use Rattle.cycle_rules.specs.declared.action.Action.{Action}
use Rattle.cycle_rules.specs.declared.action.Action.TheVariants.{Put, Ready, Run}
use Rattle.cycle_rules.specs.declared.limits.TheConstants.{RING_VALUES, SESSION_VALUES}

pub length_zip : {A B C : Type 0} (f : A → B → C) (xs : List A) (ys : List B) → length xs ≡ length ys → length (zip_with f xs ys) ≡ length xs
length_zip f [] ys e = refl
length_zip f (x ∷ xs) [] e = absurd (omega arith)
length_zip f (x ∷ xs) (y ∷ ys) e = ap suc (length_zip f xs ys (omega arith))

pub length_offers : (rings : List (List Bits)) → length (offers rings) ≡ length rings
length_offers [] = refl
length_offers (ring ∷ rings) = ap suc (length_offers rings)

pub length_rooms : (rings : List (List Bits)) → length (rooms rings) ≡ length rings
length_rooms [] = refl
length_rooms (ring ∷ rings) = ap suc (length_rooms rings)

pub length_takes : (left : ℕ) (waiting rings : List (List Bits)) → length waiting ≡ length rings → length (takes left waiting rings) ≡ length waiting
length_takes left [] rings e = refl
length_takes left (values ∷ others) [] e = absurd (omega arith)
length_takes left (values ∷ others) (ring ∷ rings) e =
    ap suc (length_takes (left - length (take (min left (RING_VALUES - length ring)) values)) others rings (omega arith))

length_set : {A : Type 0} (xs : List A) (at : ℕ) (x : A) → length (slice_set xs at x) ≡ length xs
length_set [] at x = refl
length_set (y ∷ ys) zero x = refl
length_set (y ∷ ys) (suc at) x = ap suc (length_set ys at x)

module _ {S : Type 0} (circuit : Circuit S) where
  pub rings_after_takes : (entering : List (List Bits)) (machine : Machine S) → length entering ≡ circuit.to_server_count → HasRings circuit machine
      → HasRings circuit (after_takes entering machine)
  rings_after_takes entering machine e h =
      record { to_server = length_zip _ machine.to_server entering (h.to_server ∙ sym e) ∙ h.to_server; to_client = h.to_client }

  pub readies_count : (machine : Machine S) → HasRings circuit machine
      → length (circuit.readies machine.state (offers machine.to_server) (rooms machine.to_client)) ≡ circuit.to_server_count
  readies_count machine h =
      circuit.all_readies machine.state (offers machine.to_server) (rooms machine.to_client) (length_offers machine.to_server ∙ h.to_server)
      (length_rooms machine.to_client ∙ h.to_client)

  pub words_count : (machine : Machine S) → HasRings circuit machine
      → length (circuit.words machine.state (offers machine.to_server) (rooms machine.to_client)) ≡ circuit.to_client_count
  words_count machine h =
      circuit.all_words machine.state (offers machine.to_server) (rooms machine.to_client) (length_offers machine.to_server ∙ h.to_server)
      (length_rooms machine.to_client ∙ h.to_client)

  pub rings_after_transfers : (machine : Machine S) → HasRings circuit machine → HasRings circuit (after_transfers circuit machine)
  rings_after_transfers machine h = record {
    to_server = length_zip after_pop machine.to_server (circuit.readies machine.state (offers machine.to_server) (rooms machine.to_client)) (h.to_server ∙ sym (readies_count machine h)) ∙ h.to_server;
    to_client = length_zip after_push machine.to_client (circuit.words machine.state (offers machine.to_server) (rooms machine.to_client)) (h.to_client ∙ sym (words_count machine h)) ∙ h.to_client;
  }

  pub rings_after : (entering : List (List Bits)) (hands : List Bool) (machine : Machine S) → length entering ≡ circuit.to_server_count → length hands ≡ circuit.to_client_count
      → HasRings circuit machine → HasRings circuit (machine_after circuit entering hands machine)
  rings_after entering hands machine e f h =
      let moved : Machine S = after_transfers circuit (after_takes entering machine) in
      let has : HasRings circuit moved = rings_after_transfers (after_takes entering machine) (rings_after_takes entering machine e h) in
      record { to_server = has.to_server; to_client = length_zip after_pop moved.to_client hands (has.to_client ∙ sym f) ∙ has.to_client }

  pub entering_count : (sim : Simulation S) → HasChannels circuit sim → length (entering_of sim) ≡ circuit.to_server_count
  entering_count sim h =
      length_takes (SESSION_VALUES - length sim.taken) sim.waiting sim.machine.to_server (h.waiting ∙ sym h.rings.to_server) ∙ h.waiting

  pub cycle_channels : (sim : Simulation S) → HasChannels circuit sim → HasChannels circuit (after_cycle circuit sim)
  cycle_channels sim h = record {
    waiting = length_zip _ sim.waiting (entering_of sim) (h.waiting ∙ sym (entering_count sim h)) ∙ h.waiting;
    rings = rings_after (entering_of sim) sim.switches sim.machine (entering_count sim h) h.switches h.rings;
    switches = h.switches;
  }

  pub cycles_channels : (cycles : ℕ) (sim : Simulation S) → HasChannels circuit sim → HasChannels circuit (after_cycles circuit cycles sim)
  unfolding after_cycles
  cycles_channels zero sim h = h
  cycles_channels (suc cycles) sim h = cycles_channels cycles (after_cycle circuit sim) (cycle_channels sim h)

  pub action_channels : (action : Action) (sim : Simulation S) → HasChannels circuit sim → HasChannels circuit (after_action circuit action sim)
  action_channels (Put at word) sim h =
      record { waiting = length_set sim.waiting at (slice_index_or sim.waiting at [] ++ word ∷ []) ∙ h.waiting; rings = h.rings; switches = h.switches }
  action_channels (Ready at on) sim h = record { waiting = h.waiting; rings = h.rings; switches = length_set sim.switches at on ∙ h.switches }
  action_channels (Run cycles) sim h = cycles_channels cycles sim h

  pub channels_after : (actions : List Action) (sim : Simulation S) → HasChannels circuit sim → HasChannels circuit (after_actions circuit actions sim)
  unfolding after_actions
  channels_after [] sim h = h
  channels_after (action ∷ actions) sim h = channels_after actions (after_action circuit action sim) (action_channels action sim h)
