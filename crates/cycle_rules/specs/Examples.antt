-- Worked examples of the rules of a cycle. Each of them holds by computing.
use Rattle.std.specs.Prelude.{◌≡◌, ℕ, nat_lt, Bool, true, false, List, [], ◌∷◌, ◌++◌, length, map, replicate, Option, None, option_to_list, if◌then◌else◌, refl}
use Rattle.esi_base.specs.Bits.{bits_of, number_of}
use Rattle.cycle_rules.specs.Circuit.{Bits, Circuit}
use Rattle.cycle_rules.specs.Lists.{first}
use Rattle.cycle_rules.specs.PipeSimulation.{simulation_of, at_start}
use Rattle.cycle_rules.specs.Simulation.{Simulation, takes, after_cycles, after_actions}
use Rattle.cycle_rules.specs.declared.action.Action.{Action}
use Rattle.cycle_rules.specs.declared.action.Action.TheVariants.{Put, Ready, Run}
use Rattle.cycle_rules.specs.declared.transfer.Transfer.{Transfer}

-- the word of an octet
abbrev octet : ℕ → Bits
octet n = bits_of 8 n

-- puts on one channel, and then a run
abbrev puts : ℕ → List ℕ → ℕ → List Action
puts channel [] cycles = Run cycles ∷ []
puts channel (n ∷ ns) cycles = Put channel (octet n) ∷ puts channel ns cycles

-- the cycle, the channel and the number of a value taken or handed
record Entry : Type 0 where
  cycle : ℕ
  channel : ℕ
  number : ℕ

abbrev entry : ℕ → ℕ → ℕ → Entry
entry cycle channel number = record { cycle = cycle; channel = channel; number = number }

abbrev entries_of : List Transfer → List Entry
entries_of transfers = map (λ t. entry t.cycle t.channel (number_of t.word)) transfers

-- a circuit of so many channels each way that passes each offer straight on, channel by channel, and holds nothing
abbrev straight : ℕ → Circuit (Unit {0})
straight count = record {
  to_server_count = count;
  to_client_count = count;
  readies = λ state offers rooms. rooms;
  words = λ state offers rooms. offers;
  next = λ state offers rooms. state;
  all_readies = λ state offers rooms offered roomy. roomy;
  all_words = λ state offers rooms offered roomy. offered;
}

-- a circuit that takes nothing and offers nothing on its one channel each way
abbrev closed : Circuit (Unit {0})
closed = record {
  to_server_count = 1;
  to_client_count = 1;
  readies = λ state offers rooms. false ∷ [];
  words = λ state offers rooms. None ∷ [];
  next = λ state offers rooms. state;
  all_readies = λ state offers rooms offered roomy. refl;
  all_words = λ state offers rooms offered roomy. refl;
}

-- one register: it takes a word where it is empty, and offers the word that it holds
abbrev only_offer : List (Option Bits) → List Bits
only_offer [] = []
only_offer (offer ∷ offers) = option_to_list offer

abbrev register_after : List Bits → List (Option Bits) → List Bool → List Bits
register_after [] offers rooms = only_offer offers
register_after (word ∷ words) offers [] = word ∷ words
register_after (word ∷ words) offers (room ∷ rooms) = if room then words else word ∷ words

abbrev register : Circuit (List Bits)
register = record {
  to_server_count = 1;
  to_client_count = 1;
  readies = λ state offers rooms. nat_lt (length state) 1 ∷ [];
  words = λ state offers rooms. first state ∷ [];
  next = register_after;
  all_readies = λ state offers rooms offered roomy. refl;
  all_words = λ state offers rooms offered roomy. refl;
}

-- two channels each way, with nothing in their rings, the switch of the second one given
abbrev two_channels : Bool → Simulation (Unit {0})
two_channels switch = record {
  waiting = [] ∷ [] ∷ [];
  machine = record { to_server = [] ∷ [] ∷ []; state = tt; to_client = [] ∷ [] ∷ [] };
  switches = true ∷ switch ∷ [];
  cycles = 0;
  taken = [];
  handed = [];
}

abbrev run_one : {S : Type 0} → Circuit S → S → List Action → Simulation S
run_one circuit state actions = after_actions circuit actions (simulation_of (at_start state))

-- Three values that are put before the first cycle are all taken in cycle 0 ..
three_taken : entries_of (run_one (straight 1) tt (puts 0 (1 ∷ 2 ∷ 3 ∷ []) 5)).taken ≡ entry 0 0 1 ∷ entry 0 0 2 ∷ entry 0 0 3 ∷ []
unfolding after_actions after_cycles
three_taken = refl

-- .. and one is handed in each cycle, from cycle 0 on where nothing stands between the rings.
three_straight : entries_of (run_one (straight 1) tt (puts 0 (1 ∷ 2 ∷ 3 ∷ []) 5)).handed ≡ entry 0 0 1 ∷ entry 1 0 2 ∷ entry 2 0 3 ∷ []
unfolding after_actions after_cycles
three_straight = refl

-- PipeSimulation register hands a value in every other cycle, since it takes none while it holds one.
three_by_register : entries_of (run_one register [] (puts 0 (1 ∷ 2 ∷ 3 ∷ []) 7)).handed ≡ entry 1 0 1 ∷ entry 3 0 2 ∷ entry 5 0 3 ∷ []
unfolding after_actions after_cycles
three_by_register = refl

-- A full ring of 16 takes no 17th value, however many cycles run ..
sixteen_taken : length (run_one closed tt (puts 0 (replicate 17 7) 3)).taken ≡ 16
unfolding after_actions after_cycles
sixteen_taken = refl

-- .. and that value waits.
seventeenth_waits : (run_one closed tt (puts 0 (replicate 16 7 ++ 9 ∷ []) 3)).waiting ≡ (octet 9 ∷ []) ∷ []
unfolding after_actions after_cycles
seventeenth_waits = refl

-- A put on a channel that is not there changes nothing.
no_such_channel : run_one (straight 1) tt (puts 1 (1 ∷ []) 0) ≡ run_one (straight 1) tt []
unfolding after_actions after_cycles
no_such_channel = refl

-- Values on two channels do not mix, and in one cycle the channels hand in their order.
two_apart : entries_of (after_actions (straight 2) (Put 1 (octet 4) ∷ puts 0 (1 ∷ 2 ∷ []) 3) (two_channels true)).handed ≡ entry 0 0 1 ∷ entry 0 1 4 ∷ entry 1 0 2 ∷ []
unfolding after_actions after_cycles
two_apart = refl

-- A channel whose switch is off hands nothing, while the other one does ..
switched_off : entries_of (after_actions (straight 2) (Put 1 (octet 4) ∷ puts 0 (1 ∷ []) 3) (two_channels false)).handed ≡ entry 0 0 1 ∷ []
unfolding after_actions after_cycles
switched_off = refl

-- .. and its value stays in its ring.
stays_in_ring : (after_actions (straight 2) (Put 1 (octet 4) ∷ puts 0 (1 ∷ []) 3) (two_channels false)).machine.to_client ≡ [] ∷ (octet 4 ∷ []) ∷ []
unfolding after_actions after_cycles
stays_in_ring = refl

-- A switch that is set counts from the next cycle on, until it is set again.
set_off_and_on : entries_of (run_one (straight 1) tt (Put 0 (octet 5) ∷ Ready 0 false ∷ Run 2 ∷ Ready 0 true ∷ Run 2 ∷ [])).handed ≡ entry 2 0 5 ∷ []
unfolding after_actions after_cycles
set_off_and_on = refl

-- Where the session takes only three more values, the first channel's come first.
three_left : takes 3 ((octet 1 ∷ octet 2 ∷ []) ∷ (octet 3 ∷ octet 4 ∷ []) ∷ []) ([] ∷ [] ∷ []) ≡ (octet 1 ∷ octet 2 ∷ []) ∷ (octet 3 ∷ []) ∷ []
three_left = refl
