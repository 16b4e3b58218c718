-- That the calls of a cycle do to a hub what the rules of a cycle say, part by part and channel by channel.
use Rattle.std.specs.Prelude.{◌≡◌, ℕ, ◌+◌, Bool, true, false, if◌then◌else◌, List, [], ◌∷◌, ◌++◌, length, map, drop, Option, Some, None, slice_set, refl}
use Rattle.std.proofs.Common.{sym, ◌∙◌, ap, append_assoc, length-append, subst, arith}
use Rattle.cycle_rules.specs.ChannelsLemmas.{rings_after_takes, rings_after_transfers, rings_after, readies_count, words_count}
use Rattle.cycle_rules.specs.Circuit.{Bits, Circuit}
use Rattle.cycle_rules.specs.Cycle.{Machine, HasRings, offers, rooms, after_takes, after_transfers, machine_after, word_handed, transfers_from}
use Rattle.cycle_rules.specs.Lists.{zip_with}
use Rattle.cycle_rules.specs.OrderLemmas.{append_nil, map-append'}
use Rattle.cycle_rules.specs.Rings.{has_room, after_pop, after_push, ring_at, rings_with, rings_without_front}
use Rattle.cycle_rules.specs.declared.transfer.Transfer.{Transfer}
use Rattle.endpoint_hub.specs.Entries.{transfer_of, hand_of}
use Rattle.endpoint_hub.specs.Holdings.{Holdings}
use Rattle.endpoint_hub.specs.HubCycle.{Arrival, IsCycle, words_of_arrivals, machine_of, entry_of, entries_from, takes_of, takes_from, pop_of, pops_from, push_of, pushes_from, hands_of, hands_from, calls_after_takes, calls_of_cycle}
use Rattle.endpoint_hub.specs.Runs.{Call, IsRun}
use Rattle.endpoint_hub.specs.Runs.Call.{Push, NextCycle}
use Rattle.endpoint_hub.specs.declared.journal.Handed.{Handed}
use Rattle.endpoint_hub.specs.declared.journal.Journal.{Journal}
use Rattle.endpoint_hub.specs.declared.journal.Taken.{Taken}

-- what a hub holds, part by part
record Holds (hub : Holdings) (to_server to_client : List (List Bits)) (journal : Journal) : Type 0 where
  server : hub.to_server ≡ to_server
  client : hub.to_client ≡ to_client
  noted : hub.journal ≡ journal

-- calls that are made one list after another
split_run : (first_calls then_calls : List Call) (old new : Holdings) → IsRun old (first_calls ++ then_calls) new
    → (between : Holdings) × IsRun old first_calls between × IsRun between then_calls new
split_run [] then_calls old new run = (old, refl, run)
split_run (call ∷ calls) then_calls old new (between, (step, run)) =
    let rest = split_run calls then_calls between new run in
    (rest.0, (between, (step, rest.1)), rest.2)

set_after : {A : Type 0} (front : List A) (x y : A) (rest : List A) → slice_set (front ++ x ∷ rest) (length front) y ≡ front ++ y ∷ rest
set_after [] x y rest = refl
set_after (z ∷ front) x y rest = ap (λ l. z ∷ l) (set_after front x y rest)

at_after : (front : List (List Bits)) (ring : List Bits) (rest : List (List Bits)) → ring_at (front ++ ring ∷ rest) (length front) ≡ ring
at_after [] ring rest = refl
at_after (z ∷ front) ring rest = at_after front ring rest

with_after : (front : List (List Bits)) (ring : List Bits) (rest : List (List Bits)) (word : Bits)
    → rings_with (front ++ ring ∷ rest) (length front) word ≡ front ++ (ring ++ word ∷ []) ∷ rest
with_after front ring rest word =
    ap (λ r. slice_set (front ++ ring ∷ rest) (length front) (r ++ word ∷ [])) (at_after front ring rest) ∙ set_after front ring (ring ++ word ∷ []) rest

without_after : (front : List (List Bits)) (ring : List Bits) (rest : List (List Bits))
    → rings_without_front (front ++ ring ∷ rest) (length front) ≡ front ++ drop 1 ring ∷ rest
without_after front ring rest =
    ap (λ r. slice_set (front ++ ring ∷ rest) (length front) (drop 1 r)) (at_after front ring rest) ∙ set_after front ring (drop 1 ring) rest

-- the journal after the takes of one channel, and of all channels from one on
abbrev with_takes : Journal → ℕ → List Arrival → Journal
with_takes journal channel arrivals = record journal { taken = journal.taken ++ map (entry_of journal.cycles channel) arrivals }

abbrev with_all_takes : Journal → ℕ → List (List Arrival) → Journal
with_all_takes journal channel arrivals = record journal { taken = journal.taken ++ entries_from journal.cycles channel arrivals }

-- the journal after the hands of one channel, and of all channels from one on
abbrev transfers_of : ℕ → ℕ → List Bits → List Transfer
transfers_of cycle channel words = map (λ word. record { cycle = cycle; channel = channel; word = word }) words

abbrev with_hands : Journal → ℕ → List Bits → Journal
with_hands journal channel words = record journal { handed = journal.handed ++ map hand_of (transfers_of journal.cycles channel words) }

abbrev with_all_hands : Journal → ℕ → List (List Bits) → Journal
with_all_hands journal channel words = record journal { handed = journal.handed ++ map hand_of (transfers_from journal.cycles channel words) }

abbrev with_taken_list : Journal → List Taken → Journal
with_taken_list journal taken = record journal { taken = taken }

abbrev with_handed_list : Journal → List Handed → Journal
with_handed_list journal handed = record journal { handed = handed }

-- no call changes nothing
no_call : (old new : Holdings) → old ≡ new → Holds new old.to_server old.to_client old.journal
no_call old new run = record { server = ap (λ h. h.to_server) (sym run); client = ap (λ h. h.to_client) (sym run); noted = ap (λ h. h.journal) (sym run) }

-- takes
takes_one : (front : List (List Bits)) (ring : List Bits) (rest : List (List Bits)) (arrivals : List Arrival) (old new : Holdings) → old.to_server ≡ front ++ ring ∷ rest
    → IsRun old (takes_of (length front) arrivals) new
    → Holds new (front ++ (ring ++ words_of_arrivals arrivals) ∷ rest) old.to_client (with_takes old.journal (length front) arrivals)
takes_one front ring rest [] old new e run =
    let same = no_call old new run in
    record {
      server = same.server ∙ e ∙ ap (λ r. front ++ r ∷ rest) (sym (append_nil ring));
      client = same.client;
      noted = same.noted ∙ ap (with_taken_list old.journal) (sym (append_nil old.journal.taken));
    }
takes_one front ring rest (a ∷ arrivals) old new e (between, (step, run)) =
    let taken = step.1 in
    let others = takes_one front (ring ++ a.word ∷ []) rest arrivals between new
    (taken.to_server ∙ ap (λ rings. rings_with rings (length front) a.word) e ∙ with_after front ring rest a.word) run in
    record {
      server = others.server ∙ ap (λ r. front ++ r ∷ rest) (append_assoc ring (a.word ∷ []) (words_of_arrivals arrivals));
      client = others.client ∙ taken.to_client;
      noted = others.noted ∙ ap (λ j. with_takes j (length front) arrivals) taken.journal
          ∙ ap (with_taken_list old.journal) (append_assoc old.journal.taken (entry_of old.journal.cycles (length front) a ∷ []) (map (entry_of old.journal.cycles (length front)) arrivals));
    }

takes_all : (front rest : List (List Bits)) (arrivals : List (List Arrival)) (old new : Holdings) → length rest ≡ length arrivals → old.to_server ≡ front ++ rest
    → IsRun old (takes_from (length front) arrivals) new
    → Holds new (front ++ zip_with (λ ring values. ring ++ values) rest (map words_of_arrivals arrivals)) old.to_client (with_all_takes old.journal (length front) arrivals)
takes_all front [] [] old new n e run =
    let same = no_call old new run in
    record { server = same.server ∙ e; client = same.client; noted = same.noted ∙ ap (with_taken_list old.journal) (sym (append_nil old.journal.taken)) }
takes_all front [] (arrivals ∷ others) old new n e run = absurd (omega arith)
takes_all front (ring ∷ rest) [] old new n e run = absurd (omega arith)
takes_all front (ring ∷ rest) (arrivals ∷ more) old new n e run =
    let k : ℕ = length front in
    let here : List Bits = ring ++ words_of_arrivals arrivals in
    let parts = split_run (takes_of k arrivals) (takes_from (k + 1) more) old new run in
    let between : Holdings = parts.0 in
    let one = takes_one front ring rest arrivals old between e parts.1 in
    let count : length (front ++ here ∷ []) ≡ k + 1 = length-append front (here ∷ []) in
    let others = takes_all (front ++ here ∷ []) rest more between new (omega (arith, n)) (one.server ∙ sym (append_assoc front (here ∷ []) rest))
    (subst (λ at. IsRun between (takes_from at more) new) (sym count) parts.2) in
    record {
      server = others.server ∙ append_assoc front (here ∷ []) (zip_with (λ ring values. ring ++ values) rest (map words_of_arrivals more));
      client = others.client ∙ one.client;
      noted = others.noted ∙ ap (λ j. with_all_takes j (length (front ++ here ∷ [])) more) one.noted
          ∙ ap (λ at. with_all_takes (with_takes old.journal k arrivals) at more) count
          ∙ ap (with_taken_list old.journal) (append_assoc old.journal.taken (map (entry_of old.journal.cycles k) arrivals) (entries_from old.journal.cycles (k + 1) more));
    }

-- transfers into the circuit
pop_one : (front : List (List Bits)) (ring : List Bits) (rest : List (List Bits)) (ready : Bool) (old new : Holdings) → old.to_server ≡ front ++ ring ∷ rest
    → IsRun old (pop_of (length front) ring ready) new → Holds new (front ++ after_pop ring ready ∷ rest) old.to_client old.journal
pop_one front [] rest true old new e run = let same = no_call old new run in record { server = same.server ∙ e; client = same.client; noted = same.noted }
pop_one front [] rest false old new e run = let same = no_call old new run in record { server = same.server ∙ e; client = same.client; noted = same.noted }
pop_one front (word ∷ ring) rest false old new e run = let same = no_call old new run in record { server = same.server ∙ e; client = same.client; noted = same.noted }
pop_one front (word ∷ ring) rest true old new e (between, (step, run)) =
    let same = no_call between new run in
    let popped = step.1 in
    record {
      server = same.server ∙ popped.to_server ∙ ap (λ rings. rings_without_front rings (length front)) e ∙ without_after front (word ∷ ring) rest;
      client = same.client ∙ popped.to_client;
      noted = same.noted ∙ popped.journal;
    }

pops_all : (front rest : List (List Bits)) (readies : List Bool) (old new : Holdings) → length rest ≡ length readies → old.to_server ≡ front ++ rest
    → IsRun old (pops_from (length front) rest readies) new → Holds new (front ++ zip_with after_pop rest readies) old.to_client old.journal
pops_all front [] readies old new n e run = let same = no_call old new run in record { server = same.server ∙ e; client = same.client; noted = same.noted }
pops_all front (ring ∷ rest) [] old new n e run = absurd (omega arith)
pops_all front (ring ∷ rest) (ready ∷ readies) old new n e run =
    let k : ℕ = length front in
    let here : List Bits = after_pop ring ready in
    let parts = split_run (pop_of k ring ready) (pops_from (k + 1) rest readies) old new run in
    let between : Holdings = parts.0 in
    let one = pop_one front ring rest ready old between e parts.1 in
    let others = pops_all (front ++ here ∷ []) rest readies between new (omega (arith, n)) (one.server ∙ sym (append_assoc front (here ∷ []) rest))
    (subst (λ at. IsRun between (pops_from at rest readies) new) (sym (length-append front (here ∷ []))) parts.2) in
    record {
      server = others.server ∙ append_assoc front (here ∷ []) (zip_with after_pop rest readies);
      client = others.client ∙ one.client;
      noted = others.noted ∙ one.noted;
    }

-- transfers out of the circuit
push_none : (room : Bool) (ring : List Bits) → ring ≡ (if room then ring ++ [] else ring)
push_none true ring = sym (append_nil ring)
push_none false ring = refl

push_some : (room : Bool) (front : List (List Bits)) (ring : List Bits) (rest : List (List Bits)) (word : Bits) (old new : Holdings) → old.to_client ≡ front ++ ring ∷ rest
    → IsRun old (if room then Push (length front) word ∷ [] else []) new
    → Holds new old.to_server (front ++ (if room then ring ++ word ∷ [] else ring) ∷ rest) old.journal
push_some false front ring rest word old new e run = let same = no_call old new run in record { server = same.server; client = same.client ∙ e; noted = same.noted }
push_some true front ring rest word old new e (between, (step, run)) =
    let same = no_call between new run in
    let pushed = step.1 in
    record {
      server = same.server ∙ pushed.to_server;
      client = same.client ∙ pushed.to_client ∙ ap (λ rings. rings_with rings (length front) word) e ∙ with_after front ring rest word;
      noted = same.noted ∙ pushed.journal;
    }

push_one : (front : List (List Bits)) (ring : List Bits) (rest : List (List Bits)) (word : Option Bits) (old new : Holdings) → old.to_client ≡ front ++ ring ∷ rest
    → IsRun old (push_of (length front) ring word) new → Holds new old.to_server (front ++ after_push ring word ∷ rest) old.journal
push_one front ring rest None old new e run =
    let same = no_call old new run in
    record { server = same.server; client = same.client ∙ e ∙ ap (λ r. front ++ r ∷ rest) (push_none (has_room ring) ring); noted = same.noted }
push_one front ring rest (Some word) old new e run = push_some (has_room ring) front ring rest word old new e run

pushes_all : (front rest : List (List Bits)) (words : List (Option Bits)) (old new : Holdings) → length rest ≡ length words → old.to_client ≡ front ++ rest
    → IsRun old (pushes_from (length front) rest words) new → Holds new old.to_server (front ++ zip_with after_push rest words) old.journal
pushes_all front [] words old new n e run = let same = no_call old new run in record { server = same.server; client = same.client ∙ e; noted = same.noted }
pushes_all front (ring ∷ rest) [] old new n e run = absurd (omega arith)
pushes_all front (ring ∷ rest) (word ∷ words) old new n e run =
    let k : ℕ = length front in
    let here : List Bits = after_push ring word in
    let parts = split_run (push_of k ring word) (pushes_from (k + 1) rest words) old new run in
    let between : Holdings = parts.0 in
    let one = push_one front ring rest word old between e parts.1 in
    let others = pushes_all (front ++ here ∷ []) rest words between new (omega (arith, n)) (one.client ∙ sym (append_assoc front (here ∷ []) rest))
    (subst (λ at. IsRun between (pushes_from at rest words) new) (sym (length-append front (here ∷ []))) parts.2) in
    record {
      server = others.server ∙ one.server;
      client = others.client ∙ append_assoc front (here ∷ []) (zip_with after_push rest words);
      noted = others.noted ∙ one.noted;
    }

-- hands
no_hand : (front : List (List Bits)) (ring : List Bits) (rest : List (List Bits)) (old new : Holdings) → old.to_client ≡ front ++ ring ∷ rest → old ≡ new
    → Holds new old.to_server (front ++ ring ∷ rest) (with_hands old.journal (length front) [])
no_hand front ring rest old new e run =
    let same = no_call old new run in
    record { server = same.server; client = same.client ∙ e; noted = same.noted ∙ ap (with_handed_list old.journal) (sym (append_nil old.journal.handed)) }

hand_one : (front : List (List Bits)) (ring : List Bits) (rest : List (List Bits)) (hand : Bool) (old new : Holdings) → old.to_client ≡ front ++ ring ∷ rest
    → IsRun old (hands_of (length front) ring hand) new
    → Holds new old.to_server (front ++ after_pop ring hand ∷ rest) (with_hands old.journal (length front) (word_handed ring hand))
hand_one front [] rest true old new e run = no_hand front [] rest old new e run
hand_one front [] rest false old new e run = no_hand front [] rest old new e run
hand_one front (word ∷ ring) rest false old new e run = no_hand front (word ∷ ring) rest old new e run
hand_one front (word ∷ ring) rest true old new e (between, (step, run)) =
    let same = no_call between new run in
    let handed = step.1 in
    record {
      server = same.server ∙ handed.to_server;
      client = same.client ∙ handed.to_client ∙ ap (λ rings. rings_without_front rings (length front)) e ∙ without_after front (word ∷ ring) rest;
      noted = same.noted ∙ handed.journal;
    }

hands_all : (front rest : List (List Bits)) (hands : List Bool) (old new : Holdings) → length rest ≡ length hands → old.to_client ≡ front ++ rest
    → IsRun old (hands_from (length front) rest hands) new
    → Holds new old.to_server (front ++ zip_with after_pop rest hands) (with_all_hands old.journal (length front) (zip_with word_handed rest hands))
hands_all front [] hands old new n e run =
    let same = no_call old new run in
    record { server = same.server; client = same.client ∙ e; noted = same.noted ∙ ap (with_handed_list old.journal) (sym (append_nil old.journal.handed)) }
hands_all front (ring ∷ rest) [] old new n e run = absurd (omega arith)
hands_all front (ring ∷ rest) (hand ∷ hands) old new n e run =
    let k : ℕ = length front in
    let here : List Bits = after_pop ring hand in
    let parts = split_run (hands_of k ring hand) (hands_from (k + 1) rest hands) old new run in
    let between : Holdings = parts.0 in
    let one = hand_one front ring rest hand old between e parts.1 in
    let count : length (front ++ here ∷ []) ≡ k + 1 = length-append front (here ∷ []) in
    let others = hands_all (front ++ here ∷ []) rest hands between new (omega (arith, n)) (one.client ∙ sym (append_assoc front (here ∷ []) rest))
    (subst (λ at. IsRun between (hands_from at rest hands) new) (sym count) parts.2) in
    let more : List (List Bits) = zip_with word_handed rest hands in
    let here_handed : List Transfer = transfers_of old.journal.cycles k (word_handed ring hand) in
    record {
      server = others.server ∙ one.server;
      client = others.client ∙ append_assoc front (here ∷ []) (zip_with after_pop rest hands);
      noted = others.noted ∙ ap (λ j. with_all_hands j (length (front ++ here ∷ [])) more) one.noted
          ∙ ap (λ at. with_all_hands (with_hands old.journal k (word_handed ring hand)) at more) count
          ∙ ap (with_handed_list old.journal) (append_assoc old.journal.handed (map hand_of here_handed) (map hand_of (transfers_from old.journal.cycles (k + 1) more))
          ∙ ap (λ hs. old.journal.handed ++ hs) (sym (map-append' hand_of here_handed (transfers_from old.journal.cycles (k + 1) more))));
    }

-- the end of the cycle
next_one : (old new : Holdings) → IsRun old (NextCycle ∷ []) new → Holds new old.to_server old.to_client (record old.journal { cycles = old.journal.cycles + 1 })
next_one old new (between, (step, run)) =
    let same = no_call between new run in
    record { server = same.server ∙ step.to_server; client = same.client ∙ step.to_client; noted = same.noted ∙ step.journal }

-- the entries of a cycle's takes are those of the rules of a cycle
entries_one : (cycle channel : ℕ) (arrivals : List Arrival) → map transfer_of (map (entry_of cycle channel) arrivals) ≡ transfers_of cycle channel (words_of_arrivals arrivals)
entries_one cycle channel [] = refl
entries_one cycle channel (a ∷ arrivals) = ap (λ (ts : List Transfer). transfer_of (entry_of cycle channel a) ∷ ts) (entries_one cycle channel arrivals)

pub entries_are_transfers : (cycle channel : ℕ) (arrivals : List (List Arrival)) → map transfer_of (entries_from cycle channel arrivals) ≡ transfers_from cycle channel (map words_of_arrivals arrivals)
entries_are_transfers cycle channel [] = refl
entries_are_transfers cycle channel (arrivals ∷ others) =
    map-append' transfer_of (map (entry_of cycle channel) arrivals) (entries_from cycle (channel + 1) others)
    ∙ ap (λ ts. ts ++ map transfer_of (entries_from cycle (channel + 1) others)) (entries_one cycle channel arrivals)
    ∙ ap (λ ts. transfers_of cycle channel (words_of_arrivals arrivals) ++ ts) (entries_are_transfers cycle (channel + 1) others)

length-map' : {A B : Type 0} (f : A → B) (xs : List A) → length (map f xs) ≡ length xs
length-map' f [] = refl
length-map' f (x ∷ xs) = omega (arith, length-map' f xs)

-- The calls of a cycle do what the rules of a cycle say.
pub cycle_of_calls : {S : Type 0} (circuit : Circuit S) (arrivals : List (List Arrival)) (hands : List Bool) (state : S) (old new : Holdings)
    → HasRings circuit (machine_of old state) → length arrivals ≡ circuit.to_server_count → length hands ≡ circuit.to_client_count
    → IsRun old (calls_of_cycle circuit arrivals hands (machine_of old state)) new → IsCycle circuit arrivals hands state old new
cycle_of_calls {S} circuit arrivals hands state old new has arrived handing run =
    let values : List (List Bits) = map words_of_arrivals arrivals in
    let entering : length values ≡ circuit.to_server_count = length-map' words_of_arrivals arrivals ∙ arrived in
    let full : Machine S = after_takes values (machine_of old state) in
    let full_has : HasRings circuit full = rings_after_takes circuit values (machine_of old state) entering has in
    let moved : Machine S = after_transfers circuit full in
    let moved_has : HasRings circuit moved = rings_after_transfers circuit full full_has in
    let readies : List Bool = circuit.readies full.state (offers full.to_server) (rooms full.to_client) in
    let words : List (Option Bits) = circuit.words full.state (offers full.to_server) (rooms full.to_client) in
    let one = split_run (takes_from 0 arrivals) (calls_after_takes circuit hands full) old new run in
    let took = takes_all [] old.to_server arrivals old one.0 (has.to_server ∙ sym arrived) refl one.1 in
    let two = split_run (pops_from 0 full.to_server readies) (pushes_from 0 full.to_client words ++ (hands_from 0 moved.to_client hands ++ NextCycle ∷ [])) one.0 new one.2 in
    let popped = pops_all [] full.to_server readies one.0 two.0 (full_has.to_server ∙ sym (readies_count circuit full full_has)) took.server two.1 in
    let three = split_run (pushes_from 0 full.to_client words) (hands_from 0 moved.to_client hands ++ NextCycle ∷ []) two.0 new two.2 in
    let pushed = pushes_all [] full.to_client words two.0 three.0 (full_has.to_client ∙ sym (words_count circuit full full_has)) (popped.client ∙ took.client) three.1 in
    let four = split_run (hands_from 0 moved.to_client hands) (NextCycle ∷ []) three.0 new three.2 in
    let handed = hands_all [] moved.to_client hands three.0 four.0 (moved_has.to_client ∙ sym handing) pushed.client four.1 in
    let ended = next_one four.0 new four.2 in
    let after : HasRings circuit (machine_after circuit values hands (machine_of old state)) = rings_after circuit values hands (machine_of old state) entering handing has in
    let to_server : new.to_server ≡ moved.to_server = ended.server ∙ handed.server ∙ pushed.server ∙ popped.server in
    let to_client : new.to_client ≡ zip_with after_pop moved.to_client hands = ended.client ∙ handed.client in
    let before : (three.0).journal ≡ with_all_takes old.journal 0 arrivals = pushed.noted ∙ popped.noted ∙ took.noted in
    let noted = ended.noted ∙ ap (λ (j : Journal). let made : Journal = record j { cycles = j.cycles + 1 } in made)
    (handed.noted ∙ ap (λ j. with_all_hands j 0 (zip_with word_handed moved.to_client hands)) before) in
    record {
      to_server = to_server;
      to_client = to_client;
      channels = record { to_server = ap length to_server ∙ after.to_server; to_client = ap length to_client ∙ after.to_client };
      taken = ap (λ j. j.taken) noted;
      transfers = entries_are_transfers old.journal.cycles 0 arrivals;
      handed = ap (λ j. j.handed) noted;
      cycles = ap (λ j. j.cycles) noted;
      attached = ap (λ j. j.attached) noted;
    }
