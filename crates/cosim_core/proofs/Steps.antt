-- One channel's step of each loop.
use Rattle.std.proofs.Common.{◌≡◌, ℕ, suc, ◌+◌, ◌<◌, Bool, true, false, Option, Some, None, List, [], ◌∷◌, ◌++◌, length, map, drop, get_or, slice_get, slice_set, option_to_list, refl, sym, ◌∙◌, ap, subst, append_assoc, append-nil, arith}
use Rattle.std.proofs.lemmas.List.{length-set}
use Rattle.std.specs.Prelude.{if◌then◌else◌}
use Rattle.cycle_rules.specs.Circuit.{Bits}
use Rattle.cycle_rules.specs.Cycle.{offers, rooms, word_handed, transfers_from}
use Rattle.cycle_rules.specs.Lists.{first}
use Rattle.cycle_rules.specs.OrderLemmas.{map-append'}
use Rattle.cycle_rules.specs.Rings.{has_room, after_pop, after_push, ring_at, front_of, rings_without_front}
use Rattle.cycle_rules.specs.declared.transfer.Transfer.{Transfer}
use Rattle.channel_lower.specs.declared.lowered.Port.{Port}
use Rattle.endpoint_hub.specs.Entries.{hand_of}
use Rattle.endpoint_hub.specs.Holdings.{Holdings, Hands}
use Rattle.endpoint_hub.specs.declared.journal.Handed.{Handed}
use Rattle.session_rules.specs.Hands.{word_out}
use Rattle.session_rules.specs.Ports.{bit_of, offer_words, room_word, joined, no_port, port_at}
use Rattle.cosim_core.specs.HandSteps.{HandsAt}
use Rattle.cosim_core.proofs.Walks.{zip_from, zip_rest, from_step, from_end, rest_step, rest_read, rest_end, drop_read, drop_end, map_read, set_same}

pub bit_is : (word : Bits) (bit : Bool) → slice_get word 0 ≡ Some bit → bit ≡ bit_of word
bit_is [] bit e = absurd (cc e)
bit_is (b ∷ word) bit e = cc

empty_front : (ring : List Bits) → first ring ≡ None → ring ≡ []
empty_front [] e = refl
empty_front (word ∷ ring) e = absurd (cc e)

-- ---- the inputs

offer_count : (rings : List (List Bits)) → length (offers rings) ≡ length rings
offer_count [] = refl
offer_count (ring ∷ others) = ap suc (offer_count others)

pub offers_more : (inputs inputs' blanks : List Bits) (rings : List (List Bits)) (k : ℕ) (blank : Bits) (offer : Option Bits) (whole : List Bits) → k < length blanks → length blanks ≡ length rings
    → blank ≡ get_or blanks k blank → offer ≡ front_of rings k → inputs' ≡ inputs ++ offer_words blank offer
    → inputs ++ joined (zip_rest offer_words k blanks (offers rings)) ≡ whole → inputs' ++ joined (zip_rest offer_words (k + 1) blanks (offers rings)) ≡ whole
offers_more inputs inputs' blanks rings k blank offer whole lt same read front is rest =
    let counted : length blanks ≡ length (offers rings) = same ∙ sym (offer_count rings) in
    let offered : get_or (offers rings) k None ≡ offer = map_read first rings k [] None (omega (arith, lt, same)) ∙ sym front in
    let blanked : get_or blanks k blank ≡ blank = sym read in
    let left : List Bits = joined (zip_rest offer_words (k + 1) blanks (offers rings)) in
    ap (λ (l : List Bits). l ++ left) is
    ∙ (append_assoc inputs (offer_words blank offer) left
    ∙ (ap (λ (l : List Bits). inputs ++ l)
    (sym (ap joined (rest_read offer_words blanks (offers rings) k blank None lt counted)
    ∙ (ap (λ (b : Bits). offer_words b (get_or (offers rings) k None) ++ left) blanked ∙ ap (λ (o : Option Bits). offer_words blank o ++ left) offered)))
    ∙ rest))

pub rooms_more : (inputs inputs' : List Bits) (rings : List (List Bits)) (k : ℕ) (room : Bool) (whole : List Bits) → k < length rings → room ≡ has_room (ring_at rings k) → inputs' ≡ inputs ++ room_word room ∷ []
    → inputs ++ map room_word (rooms (drop k rings)) ≡ whole → inputs' ++ map room_word (rooms (drop (k + 1) rings)) ≡ whole
rooms_more inputs inputs' rings k room whole lt has is rest =
    let left : List Bits = map room_word (rooms (drop (k + 1) rings)) in
    ap (λ (l : List Bits). l ++ left) is
    ∙ (append_assoc inputs (room_word room ∷ []) left
    ∙ (ap (λ (b : Bool). inputs ++ (room_word b ∷ left)) has
    ∙ (ap (λ (l : List (List Bits)). inputs ++ map room_word (rooms l)) (sym (drop_read rings k [] lt)) ∙ rest)))

pub offers_done : (inputs blanks : List Bits) (rings : List (List Bits)) (k : ℕ) (whole : List Bits) → k ≡ length blanks → length blanks ≡ length rings
    → inputs ++ joined (zip_rest offer_words k blanks (offers rings)) ≡ whole → inputs ≡ whole
offers_done inputs blanks rings k whole all same rest =
    sym (append-nil inputs) ∙ (ap (λ (l : List (List Bits)). inputs ++ joined l) (sym (rest_end offer_words blanks (offers rings) k all (same ∙ sym (offer_count rings)))) ∙ rest)

pub rooms_done : (inputs : List Bits) (rings : List (List Bits)) (k : ℕ) (whole : List Bits) → k ≡ length rings → inputs ++ map room_word (rooms (drop k rings)) ≡ whole → inputs ≡ whole
rooms_done inputs rings k whole all rest =
    sym (append-nil inputs) ∙ (ap (λ (l : List (List Bits)). inputs ++ map room_word (rooms l)) (sym (drop_end rings k all)) ∙ rest)

-- ---- the transfers

pub leaves_not : (rings : List (List Bits)) (channel : ℕ) (goes : Bool) → goes ≡ false → rings ≡ slice_set rings channel (after_pop (ring_at rings channel) goes)
leaves_not rings channel goes e = sym (set_same rings channel []) ∙ ap (λ b. slice_set rings channel (after_pop (ring_at rings channel) b)) (sym e)

drop_none : (ring : List Bits) → first ring ≡ None → ring ≡ drop 1 ring
drop_none [] e = refl
drop_none (word ∷ ring) e = absurd (cc e)

pub leaves_none : (rings : List (List Bits)) (channel : ℕ) (goes : Bool) → goes ≡ true → front_of rings channel ≡ None → rings ≡ slice_set rings channel (after_pop (ring_at rings channel) goes)
leaves_none rings channel goes e none =
    sym (set_same rings channel []) ∙ (ap (λ (r : List Bits). slice_set rings channel r) (drop_none (ring_at rings channel) none) ∙ ap (λ b. slice_set rings channel (after_pop (ring_at rings channel) b)) (sym e))

pub leaves_one : (rings new : List (List Bits)) (channel : ℕ) (goes : Bool) → goes ≡ true → new ≡ rings_without_front rings channel → new ≡ slice_set rings channel (after_pop (ring_at rings channel) goes)
leaves_one rings new channel goes e is = is ∙ ap (λ b. slice_set rings channel (after_pop (ring_at rings channel) b)) (sym e)

pub enters_none : (rings : List (List Bits)) (channel : ℕ) → rings ≡ slice_set rings channel (after_push (ring_at rings channel) None)
enters_none rings channel = sym (set_same rings channel []) ∙ ap (λ (r : List Bits). slice_set rings channel r) (by (has_room (ring_at rings channel)) (ring_at rings channel))
  where
    by : (room : Bool) (ring : List Bits) → ring ≡ (if room then ring ++ [] else ring)
    by true ring = sym (append-nil ring)
    by false ring = refl

pub enters_full : (rings : List (List Bits)) (channel : ℕ) (word : Bits) → has_room (ring_at rings channel) ≡ false → rings ≡ slice_set rings channel (after_push (ring_at rings channel) (Some word))
enters_full rings channel word full =
    sym (set_same rings channel []) ∙ ap (λ b. slice_set rings channel (if b then ring_at rings channel ++ word ∷ [] else ring_at rings channel)) (sym full)

pub enters_one : (rings new : List (List Bits)) (channel : ℕ) (word : Bits) → has_room (ring_at rings channel) ≡ true → new ≡ slice_set rings channel (ring_at rings channel ++ word ∷ []) → new ≡ slice_set rings channel (after_push (ring_at rings channel) (Some word))
enters_one rings new channel word room is = is ∙ ap (λ b. slice_set rings channel (if b then ring_at rings channel ++ word ∷ [] else ring_at rings channel)) (sym room)

-- a step of a loop over ports
module _ {B : Type 0} (f : List Bits → B → List Bits) (g : Port → B) (none : B) where
  pub ports_more : (rings rings' whole : List (List Bits)) (ports : List Port) (k : ℕ) (b : B) → k < length ports → length rings ≡ length ports → b ≡ g (port_at ports k)
      → rings' ≡ slice_set rings k (f (ring_at rings k) b) → zip_from f k rings (map g ports) ≡ whole → zip_from f (k + 1) rings' (map g ports) ≡ whole
  ports_more rings rings' whole ports k b lt same is set rest =
      from_step f rings rings' (map g ports) k [] none whole (omega (arith, lt, same)) (same ∙ sym (length_map ports))
      (set ∙ ap (λ (x : B). slice_set rings k (f (ring_at rings k) x)) (is ∙ sym (map_read g ports k no_port none lt))) rest
    where
      length_map : (ports : List Port) → length (map g ports) ≡ length ports
      length_map [] = refl
      length_map (port ∷ others) = ap suc (length_map others)

  pub ports_done : (rings whole : List (List Bits)) (ports : List Port) (k : ℕ) → k ≡ length ports → length rings ≡ length ports → zip_from f k rings (map g ports) ≡ whole → rings ≡ whole
  ports_done rings whole ports k all same rest = from_end f rings (map g ports) k whole (all ∙ sym same) (same ∙ sym (count ports)) rest
    where
      count : (ports : List Port) → length (map g ports) ≡ length ports
      count [] = refl
      count (port ∷ others) = ap suc (count others)

-- ---- the hands

pub hands_not : (hub : Holdings) (channel : ℕ) (hands : Bool) (word : Option Bits) → hands ≡ false → word ≡ None → HandsAt hub hub channel hands word
hands_not hub channel hands word e is =
    subst (λ b. HandsAt hub hub channel b word) (sym e)
    (record {
      word_is = is;
      to_client = sym (set_same hub.to_client channel []);
      to_server = refl;
      has_stream = refl;
      noted = sym (append-nil hub.journal.handed);
      taken = refl;
      attached = refl;
      cycles = refl;
    })

handed_none : (hub : Holdings) (channel : ℕ) → front_of hub.to_client channel ≡ None → hub.journal.handed ≡ hub.journal.handed ++ map hand_of (transfers_from hub.journal.cycles channel (word_handed (ring_at hub.to_client channel) true ∷ []))
handed_none hub channel none = sym (append-nil hub.journal.handed) ∙ ap (λ (o : Option Bits). hub.journal.handed ++ map hand_of (transfers_from hub.journal.cycles channel (option_to_list o ∷ []))) (sym none)

pub hands_none : (old new : Holdings) (channel : ℕ) (hands : Bool) (word : Option Bits) → hands ≡ true → word ≡ None → word ≡ front_of old.to_client channel → new ≡ old → HandsAt old new channel hands word
hands_none old new channel hands word on e front same =
    subst (λ b. HandsAt old new channel b word) (sym on)
    (subst (λ (h : Holdings). HandsAt old h channel true word) (sym same)
    (record {
      word_is = front;
      to_client = sym (set_same old.to_client channel []) ∙ ap (λ (r : List Bits). slice_set old.to_client channel r) (drop_none (ring_at old.to_client channel) (sym front ∙ e));
      to_server = refl;
      has_stream = refl;
      noted = handed_none old channel (sym front ∙ e);
      taken = refl;
      attached = refl;
      cycles = refl;
    }))

pub hands_some : (old new : Holdings) (channel : ℕ) (hands : Bool) (word : Bits) → hands ≡ true → Some word ≡ front_of old.to_client channel → Hands old new channel → HandsAt old new channel hands (Some word)
hands_some old new channel hands word on front handed =
    subst (λ b. HandsAt old new channel b (Some word)) (sym on)
    (record {
      word_is = front;
      to_client = handed.to_client;
      to_server = handed.to_server;
      has_stream = handed.has_stream;
      noted = ap (λ j. j.handed) handed.journal ∙ ap (λ (o : Option Bits). old.journal.handed ++ map hand_of (transfers_from old.journal.cycles channel (option_to_list o ∷ []))) front;
      taken = ap (λ j. j.taken) handed.journal;
      attached = ap (λ j. j.attached) handed.journal;
      cycles = ap (λ j. j.cycles) handed.journal;
    })

abbrev pub notes_left : ℕ → ℕ → List (List Bits) → List Bool → List Handed
notes_left cycle k rings hands = map hand_of (transfers_from cycle k (zip_rest word_handed k rings hands))

-- a step of the loop over hands
pub notes_more : (old new : Holdings) (hands : List Bool) (k : ℕ) (hand : Bool) (word : Option Bits) (whole : List Handed) → k < length hands → length old.to_client ≡ length hands → hand ≡ get_or hands k false
    → HandsAt old new k hand word → old.journal.handed ++ notes_left old.journal.cycles k old.to_client hands ≡ whole → new.journal.handed ++ notes_left new.journal.cycles (k + 1) new.to_client hands ≡ whole
notes_more old new hands k hand word whole lt same is step rest =
    let cycle : ℕ = old.journal.cycles in
    let here : List Bits = word_handed (ring_at old.to_client k) hand in
    let entry : Bits → Transfer = λ w. record { cycle = cycle; channel = k; word = w } in
    let left : List Handed = notes_left cycle (k + 1) new.to_client hands in
    let one : map hand_of (transfers_from cycle k (here ∷ [])) ≡ map hand_of (map entry here) = ap (λ (l : List Transfer). map hand_of l) (append-nil (map entry here)) in
    let next : zip_rest word_handed k old.to_client hands ≡ here ∷ zip_rest word_handed (k + 1) new.to_client hands =
    rest_step word_handed old.to_client new.to_client hands k (after_pop (ring_at old.to_client k) hand) [] false (omega (arith, lt, same)) same step.to_client
    ∙ ap (λ b. word_handed (ring_at old.to_client k) b ∷ zip_rest word_handed (k + 1) new.to_client hands) (sym is) in
    let split : notes_left cycle k old.to_client hands ≡ map hand_of (map entry here) ++ left =
    ap (λ (l : List (List Bits)). map hand_of (transfers_from cycle k l)) next ∙ map-append' hand_of (map entry here) (transfers_from cycle (k + 1) (zip_rest word_handed (k + 1) new.to_client hands)) in
    ap (λ n. new.journal.handed ++ notes_left n (k + 1) new.to_client hands) step.cycles
    ∙ (ap (λ (l : List Handed). l ++ left) (step.noted ∙ ap (λ (l : List Handed). old.journal.handed ++ l) one)
    ∙ (append_assoc old.journal.handed (map hand_of (map entry here)) left
    ∙ (ap (λ (l : List Handed). old.journal.handed ++ l) (sym split) ∙ rest)))

pub words_more : (rings rings' : List (List Bits)) (hands : List Bool) (k : ℕ) (hand : Bool) (word : Option Bits) (handed handed' whole : List (Option Bits)) → k < length hands → length rings ≡ length hands → hand ≡ get_or hands k false
    → rings' ≡ slice_set rings k (after_pop (ring_at rings k) hand) → word ≡ word_out (ring_at rings k) hand → handed' ≡ handed ++ word ∷ []
    → handed ++ zip_rest word_out k rings hands ≡ whole → handed' ++ zip_rest word_out (k + 1) rings' hands ≡ whole
words_more rings rings' hands k hand word handed handed' whole lt same is set out more rest =
    let left : List (Option Bits) = zip_rest word_out (k + 1) rings' hands in
    ap (λ (l : List (Option Bits)). l ++ left) more
    ∙ (append_assoc handed (word ∷ []) left
    ∙ (ap (λ (o : Option Bits). handed ++ (o ∷ left)) (out ∙ ap (λ b. word_out (ring_at rings k) b) is)
    ∙ (ap (λ (l : List (Option Bits)). handed ++ l) (sym (rest_step word_out rings rings' hands k (after_pop (ring_at rings k) hand) [] false (omega (arith, lt, same)) same set)) ∙ rest)))

pub pops_more : (rings rings' whole : List (List Bits)) (hands : List Bool) (k : ℕ) (hand : Bool) → k < length hands → length rings ≡ length hands → hand ≡ get_or hands k false
    → rings' ≡ slice_set rings k (after_pop (ring_at rings k) hand) → zip_from after_pop k rings hands ≡ whole → zip_from after_pop (k + 1) rings' hands ≡ whole
pops_more rings rings' whole hands k hand lt same is set rest =
    from_step after_pop rings rings' hands k [] false whole (omega (arith, lt, same)) same (set ∙ ap (λ b. slice_set rings k (after_pop (ring_at rings k) b)) is) rest

-- all channels have had their turn
pub notes_done : (noted : List Handed) (cycle : ℕ) (rings : List (List Bits)) (hands : List Bool) (k : ℕ) (whole : List Handed) → k ≡ length hands → length rings ≡ length hands → noted ++ notes_left cycle k rings hands ≡ whole → noted ≡ whole
notes_done noted cycle rings hands k whole all same rest =
    sym (append-nil noted) ∙ (ap (λ (l : List (List Bits)). noted ++ map hand_of (transfers_from cycle k l)) (sym (rest_end word_handed rings hands k (all ∙ sym same) same)) ∙ rest)

pub words_done : (handed : List (Option Bits)) (rings : List (List Bits)) (hands : List Bool) (k : ℕ) (whole : List (Option Bits)) → k ≡ length hands → length rings ≡ length hands → handed ++ zip_rest word_out k rings hands ≡ whole → handed ≡ whole
words_done handed rings hands k whole all same rest =
    sym (append-nil handed) ∙ (ap (λ (l : List (Option Bits)). handed ++ l) (sym (rest_end word_out rings hands k (all ∙ sym same) same)) ∙ rest)

pub pops_done : (rings whole : List (List Bits)) (hands : List Bool) (k : ℕ) → k ≡ length hands → length rings ≡ length hands → zip_from after_pop k rings hands ≡ whole → rings ≡ whole
pops_done rings whole hands k all same rest = from_end after_pop rings hands k whole (all ∙ sym same) same rest

pub set_count : (rings rings' : List (List Bits)) (k count : ℕ) (ring : List Bits) → rings' ≡ slice_set rings k ring → length rings ≡ count → length rings' ≡ count
set_count rings rings' k count ring is same = ap length is ∙ (length-set rings k ring ∙ same)
