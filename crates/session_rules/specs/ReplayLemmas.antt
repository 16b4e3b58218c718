-- What a take and a cycle change in the replay of a journal.
use Rattle.std.proofs.Common.{◌≡◌, ◌≢◌, ℕ, zero, suc, ◌+◌, ◌<◌, ◌≤◌, ◌==◌, ◌&&◌, ◌||◌, Bool, true, false, List, [], ◌∷◌, ◌++◌, map, filter, length, replicate, refl, ap, sym, ◌∙◌, subst, append_assoc, append-nil, arith, eqb-true, eq-eqb}
use Rattle.std.specs.List.{list_any, AllByRecursion}
use Rattle.cycle_rules.specs.ChannelsLemmas.{rings_after_transfers, rings_after}
use Rattle.cycle_rules.specs.Circuit.{Bits, Circuit}
use Rattle.cycle_rules.specs.Cycle.{Machine, HasRings, after_takes, after_transfers, machine_after, word_handed, transfers_from}
use Rattle.cycle_rules.specs.Lists.{zip_with}
use Rattle.cycle_rules.specs.OrderLemmas.{map-append'}
use Rattle.cycle_rules.specs.Rings.{after_pop, rings_with}
use Rattle.cycle_rules.specs.declared.transfer.Transfer.{Transfer}
use Rattle.endpoint_hub.specs.Entries.{hand_of}
use Rattle.endpoint_hub.specs.Holdings.{empty_journal, with_taken, with_attached}
use Rattle.endpoint_hub.specs.declared.journal.Handed.{Handed}
use Rattle.endpoint_hub.specs.declared.journal.Journal.{Journal}
use Rattle.endpoint_hub.specs.declared.journal.Taken.{Taken}
use Rattle.session_rules.specs.Replay.{each, is_taken_at, words_at, is_handed_at, hands_at, entering, handing, empty_machine, replayed, leaving, StandsFor}

-- ---- lists with a place for each channel

pub length_each : {A : Type 0} (count : ℕ) (f : ℕ → A) → length (each count f) ≡ count
length_each zero f = refl
length_each (suc count) f = ap suc (length_each count (λ k. f (suc k)))

length_replicate : {A : Type 0} (count : ℕ) (x : A) → length (replicate count x) ≡ count
length_replicate zero x = refl
length_replicate (suc count) x = ap suc (length_replicate count x)

each_same : {A : Type 0} (count : ℕ) (f g : ℕ → A) → ((k : ℕ) → f k ≡ g k) → each count f ≡ each count g
each_same zero f g e = refl
each_same {A} (suc count) f g e = ap (λ (x : A). x ∷ each count (λ k. f (suc k))) (e 0) ∙ ap (λ (l : List A). g 0 ∷ l) (each_same count (λ k. f (suc k)) (λ k. g (suc k)) (λ k. e (suc k)))

abbrev joins : List Bits → List Bits → List Bits
joins ring values = ring ++ values

no_takes : (rings : List (List Bits)) (count : ℕ) → length rings ≡ count → zip_with joins rings (each count (λ k. [])) ≡ rings
no_takes [] count e = refl
no_takes (ring ∷ rings) zero e = absurd (omega arith)
no_takes (ring ∷ rings) (suc count) e = ap (λ (r : List Bits). r ∷ zip_with joins rings (each count (λ k. []))) (append-nil ring) ∙ ap (λ (l : List (List Bits)). ring ∷ l) (no_takes rings count (omega arith))

-- one channel takes one word more
one_take : (rings : List (List Bits)) (count at : ℕ) (f g : ℕ → List Bits) (word : Bits) → length rings ≡ count → at < count → g at ≡ f at ++ word ∷ [] → ((k : ℕ) → at ≢ k → g k ≡ f k)
    → rings_with (zip_with joins rings (each count f)) at word ≡ zip_with joins rings (each count g)
one_take [] count at f g word e below here other = absurd (omega (arith, e, below))
one_take (ring ∷ rings) zero at f g word e below here other = absurd (omega (arith, below))
one_take (ring ∷ rings) (suc count) zero f g word e below here other =
    ap (λ (r : List Bits). r ∷ zip_with joins rings (each count (λ k. f (suc k)))) (append_assoc ring (f 0) (word ∷ []) ∙ ap (λ (l : List Bits). ring ++ l) (sym here))
    ∙ ap (λ (l : List (List Bits)). (ring ++ g 0) ∷ zip_with joins rings l) (each_same count (λ k. f (suc k)) (λ k. g (suc k)) (λ k. sym (other (suc k) (λ z. absurd (omega (arith, z))))))
one_take (ring ∷ rings) (suc count) (suc at) f g word e below here other =
    ap (λ (r : List Bits). (ring ++ r) ∷ rings_with (zip_with joins rings (each count (λ k. f (suc k)))) at word) (sym (other 0 (λ z. absurd (omega (arith, z)))))
    ∙ ap (λ (l : List (List Bits)). (ring ++ g 0) ∷ l)
    (one_take rings count at (λ k. f (suc k)) (λ k. g (suc k)) word (omega arith) (omega (arith, below)) here (λ k apart. other (suc k) (λ z. apart (omega (arith, z)))))

-- ---- entries of other cycles

and_false : (a b : Bool) → a ≡ false → (a && b) ≡ false
and_false true b e = cc
and_false false b e = refl

and_right : (a b : Bool) → b ≡ false → (a && b) ≡ false
and_right true b e = e
and_right false b e = refl

differ : (a b : ℕ) → a ≢ b → (a == b) ≡ false
differ a b apart = by (a == b) refl
  where
    by : (t : Bool) → (a == b) ≡ t → (a == b) ≡ false
    by true e = absurd (apart (eqb-true a b e))
    by false e = e

module _ {A : Type 0} (p : A → Bool) where
  joined_by : (b : Bool) (x : A) (xs ys : List A) → p x ≡ b → filter p (xs ++ ys) ≡ filter p xs ++ filter p ys → filter p ((x ∷ xs) ++ ys) ≡ filter p (x ∷ xs) ++ filter p ys
  joined_by true x xs ys e rest = rw e (ap (λ (l : List A). x ∷ l) rest)
  joined_by false x xs ys e rest = rw e rest

  filter_joined : (xs ys : List A) → filter p (xs ++ ys) ≡ filter p xs ++ filter p ys
  filter_joined [] ys = refl
  filter_joined (x ∷ xs) ys = joined_by (p x) x xs ys refl (filter_joined xs ys)

  any_joined : (xs ys : List A) → list_any p (xs ++ ys) ≡ (list_any p xs || list_any p ys)
  any_joined [] ys = refl
  any_joined (x ∷ xs) ys = any_by (p x) (list_any p xs) (list_any p ys) (list_any p (xs ++ ys)) (any_joined xs ys)
    where
      any_by : (b c d e : Bool) → e ≡ (c || d) → (b || e) ≡ ((b || c) || d)
      any_by true c d e is = refl
      any_by false c d e is = is

  none_by : (b c : Bool) → b ≡ false → c ≡ false → (b || c) ≡ false
  none_by true c e f = cc
  none_by false c e f = f

  any_none : (xs : List A) → AllByRecursion (λ x. p x ≡ false) xs → list_any p xs ≡ false
  any_none [] none = refl
  any_none (x ∷ xs) none = none_by (p x) (list_any p xs) none.0 (any_none xs none.1)

  filter_by : (b : Bool) (x : A) (xs : List A) → p x ≡ b → b ≡ false → filter p xs ≡ [] → filter p (x ∷ xs) ≡ []
  filter_by true x xs e f rest = cc
  filter_by false x xs e f rest = rw e rest

  filter_none : (xs : List A) → AllByRecursion (λ x. p x ≡ false) xs → filter p xs ≡ []
  filter_none [] none = refl
  filter_none (x ∷ xs) none = filter_by (p x) x xs refl none.0 (filter_none xs none.1)

module _ {A : Type 0} (P Q : A → Type 0) (implied : (x : A) → P x → Q x) where
  all_more : (xs : List A) → AllByRecursion P xs → AllByRecursion Q xs
  all_more [] all = tt
  all_more (x ∷ xs) all = (implied x all.0, all_more xs all.1)

module _ {A : Type 0} (P : A → Type 0) where
  all_joined : (xs ys : List A) → AllByRecursion P xs → AllByRecursion P ys → AllByRecursion P (xs ++ ys)
  all_joined [] ys all others = others
  all_joined (x ∷ xs) ys all others = (all.0, all_joined xs ys all.1 others)

-- of a cycle in which a list has no entry
no_words : (n k : ℕ) (taken : List Taken) → AllByRecursion (λ (entry : Taken). entry.cycle < n) taken → words_at n k taken ≡ []
no_words n k taken below =
    ap (λ (l : List Taken). map (λ (x : Taken). x.word) l) (filter_none (is_taken_at n k) taken
    (all_more (λ (entry : Taken). entry.cycle < n) (λ (entry : Taken). is_taken_at n k entry ≡ false)
    (λ entry lt. and_false (entry.cycle == n) (entry.channel == k) (differ entry.cycle n (λ e. absurd (omega (arith, e, lt))))) taken below))

no_hands : (n k : ℕ) (handed : List Handed) → AllByRecursion (λ (entry : Handed). entry.cycle < n) handed → hands_at n k handed ≡ false
no_hands n k handed below =
    any_none (is_handed_at n k) handed
    (all_more (λ (entry : Handed). entry.cycle < n) (λ (entry : Handed). is_handed_at n k entry ≡ false)
    (λ entry lt. and_false (entry.cycle == n) (entry.channel == k) (differ entry.cycle n (λ e. absurd (omega (arith, e, lt))))) handed below)

-- one entry more
words_more : (n k : ℕ) (taken : List Taken) (entry : Taken) → is_taken_at n k entry ≡ false → words_at n k (taken ++ entry ∷ []) ≡ words_at n k taken
words_more n k taken entry e =
    let none : filter (is_taken_at n k) (entry ∷ []) ≡ [] = simp e refl in
    ap (λ (l : List Taken). map (λ (x : Taken). x.word) l) (filter_joined (is_taken_at n k) taken (entry ∷ []) ∙ (ap (λ (l : List Taken). filter (is_taken_at n k) taken ++ l) none ∙ append-nil (filter (is_taken_at n k) taken)))

words_one : (n k : ℕ) (taken : List Taken) (entry : Taken) → is_taken_at n k entry ≡ true → words_at n k (taken ++ entry ∷ []) ≡ words_at n k taken ++ entry.word ∷ []
words_one n k taken entry e =
    let one : filter (is_taken_at n k) (entry ∷ []) ≡ entry ∷ [] = simp e refl in
    ap (λ (l : List Taken). map (λ (x : Taken). x.word) l) (filter_joined (is_taken_at n k) taken (entry ∷ []) ∙ ap (λ (l : List Taken). filter (is_taken_at n k) taken ++ l) one)
    ∙ map-append' (λ (x : Taken). x.word) (filter (is_taken_at n k) taken) (entry ∷ [])

-- ---- the hands of a cycle

abbrev noted : ℕ → ℕ → List (List Bits) → List Bool → List Handed
noted n c rings hands = map hand_of (transfers_from n c (zip_with word_handed rings hands))

abbrev note_of : ℕ → ℕ → Bits → Transfer
note_of n c word = record { cycle = n; channel = c; word = word }

abbrev notes : ℕ → ℕ → List Bits → List Handed
notes n c words = map hand_of (map (note_of n c) words)

-- the entries of the first channel, then those of the others
noted_first : (n c : ℕ) (ring : List Bits) (rings : List (List Bits)) (hand : Bool) (hands : List Bool) → noted n c (ring ∷ rings) (hand ∷ hands) ≡ notes n c (word_handed ring hand) ++ noted n (c + 1) rings hands
noted_first n c ring rings hand hands = map-append' hand_of (map (note_of n c) (word_handed ring hand)) (transfers_from n (c + 1) (zip_with word_handed rings hands))

-- each is of this cycle and of one of these channels
pub record IsNoteFrom (n c : ℕ) (entry : Handed) : Type 0 where
  pub cycle : entry.cycle ≡ n
  pub channel : c ≤ entry.channel

notes_are : (n c : ℕ) (words : List Bits) → AllByRecursion (IsNoteFrom n c) (notes n c words)
notes_are n c [] = tt
notes_are n c (word ∷ words) = (record { cycle = refl; channel = omega arith }, notes_are n c words)

noted_are : (n c : ℕ) (rings : List (List Bits)) (hands : List Bool) → AllByRecursion (IsNoteFrom n c) (noted n c rings hands)
noted_are n c [] hands = tt
noted_are n c (ring ∷ rings) [] = tt
noted_are n c (ring ∷ rings) (hand ∷ hands) =
    subst (λ (l : List Handed). AllByRecursion (IsNoteFrom n c) l) (sym (noted_first n c ring rings hand hands))
    (all_joined (IsNoteFrom n c) (notes n c (word_handed ring hand)) (noted n (c + 1) rings hands) (notes_are n c (word_handed ring hand))
    (all_more (IsNoteFrom n (c + 1)) (IsNoteFrom n c) (λ entry is. let le = is.channel in record { cycle = is.cycle; channel = omega (arith, le) }) (noted n (c + 1) rings hands) (noted_are n (c + 1) rings hands)))

-- none is of another cycle, or of an earlier channel
other_cycle : (m n k c : ℕ) (rings : List (List Bits)) (hands : List Bool) → m ≢ n → hands_at m k (noted n c rings hands) ≡ false
other_cycle m n k c rings hands apart =
    any_none (is_handed_at m k) (noted n c rings hands)
    (all_more (IsNoteFrom n c) (λ (entry : Handed). is_handed_at m k entry ≡ false)
    (λ entry is. and_false (entry.cycle == m) (entry.channel == k) (differ entry.cycle m (λ e. apart (sym e ∙ is.cycle)))) (noted n c rings hands) (noted_are n c rings hands))

earlier_channel : (n k c : ℕ) (rings : List (List Bits)) (hands : List Bool) → k < c → hands_at n k (noted n c rings hands) ≡ false
earlier_channel n k c rings hands lt =
    any_none (is_handed_at n k) (noted n c rings hands)
    (all_more (IsNoteFrom n c) (λ (entry : Handed). is_handed_at n k entry ≡ false)
    (λ entry is. let le = is.channel in and_right (entry.cycle == n) (entry.channel == k) (differ entry.channel k (λ e. absurd (omega (arith, e, lt, le))))) (noted n c rings hands) (noted_are n c rings hands))

later_channel : (n k c : ℕ) (words : List Bits) → c < k → hands_at n k (notes n c words) ≡ false
later_channel n k c [] lt = refl
later_channel n k c (word ∷ words) lt =
    none_by (λ (b : Bool). b) (is_handed_at n k (hand_of (note_of n c word))) (hands_at n k (notes n c words)) (and_right (n == n) (c == k) (differ c k (λ e. absurd (omega (arith, e, lt))))) (later_channel n k c words lt)

or_right : (a b c : Bool) → a ≡ false → c ≡ false → (a || (b || c)) ≡ b
or_right true b c e f = cc
or_right false true c e f = refl
or_right false false c e f = f

-- a ring loses its oldest where its channel's hand is noted, which is where the channel hands and the ring is not empty
pop_noted : (n c : ℕ) (ring : List Bits) (hand : Bool) → after_pop ring (hands_at n c (notes n c (word_handed ring hand))) ≡ after_pop ring hand
pop_noted n c ring false = refl
pop_noted n c [] true = refl
pop_noted n c (word ∷ ring) true =
    ap (λ (b : Bool). after_pop (word ∷ ring) (b || false)) (ap (λ (b : Bool). b && (c == c)) (eq-eqb n n refl) ∙ eq-eqb c c refl)

abbrev all_notes : ℕ → List Handed → ℕ → List (List Bits) → List Bool → List Handed
all_notes n front c rings hands = front ++ noted n c rings hands

-- what f makes of rings and hands, where that is the same of an empty ring
module _ {X : Type 0} (f : List Bits → Bool → X) (same : (n c : ℕ) (ring : List Bits) (hand : Bool) → f ring (hands_at n c (notes n c (word_handed ring hand))) ≡ f ring hand) where
  zips_noted : (n c : ℕ) (front : List Handed) (rings : List (List Bits)) (hands : List Bool) (count : ℕ) → length rings ≡ count → length hands ≡ count → ((k : ℕ) → c ≤ k → hands_at n k front ≡ false)
      → zip_with f rings (each count (λ k. hands_at n (c + k) (all_notes n front c rings hands))) ≡ zip_with f rings hands
  zips_noted n c front [] hands count e g none = refl
  zips_noted n c front (ring ∷ rings) [] count e g none = absurd (omega (arith, e, g))
  zips_noted n c front (ring ∷ rings) (hand ∷ hands) zero e g none = absurd (omega (arith, e))
  zips_noted n c front (ring ∷ rings) (hand ∷ hands) (suc count) e g none =
      let here : List Handed = notes n c (word_handed ring hand) in
      let others : List Handed = noted n (c + 1) rings hands in
      let all : List Handed = all_notes n front c (ring ∷ rings) (hand ∷ hands) in
      let split : all ≡ front ++ (here ++ others) = ap (λ (l : List Handed). front ++ l) (noted_first n c ring rings hand hands) in
      let at_first : hands_at n c all ≡ hands_at n c here =
      ap (λ (l : List Handed). hands_at n c l) split
      ∙ (any_joined (is_handed_at n c) front (here ++ others)
      ∙ (ap (λ (b : Bool). hands_at n c front || b) (any_joined (is_handed_at n c) here others)
      ∙ or_right (hands_at n c front) (hands_at n c here) (hands_at n c others) (none c (omega arith)) (earlier_channel n c (c + 1) rings hands (omega arith)))) in
      let head : f ring (hands_at n (c + 0) all) ≡ f ring hand =
      ap (λ k. f ring (hands_at n k all)) (let z : c + 0 ≡ c = omega arith in z) ∙ (ap (λ (b : Bool). f ring b) at_first ∙ same n c ring hand) in
      let none' : (k : ℕ) → c + 1 ≤ k → hands_at n k (front ++ here) ≡ false =
      λ k le. any_joined (is_handed_at n k) front here
      ∙ none_by (λ (b : Bool). b) (hands_at n k front) (hands_at n k here) (none k (omega (arith, le))) (later_channel n k c (word_handed ring hand) (omega (arith, le))) in
      let regroup : all ≡ all_notes n (front ++ here) (c + 1) rings hands = split ∙ sym (append_assoc front here others) in
      let shifted : each count (λ k. hands_at n (c + suc k) all) ≡ each count (λ k. hands_at n (c + 1 + k) (all_notes n (front ++ here) (c + 1) rings hands)) =
      each_same count (λ k. hands_at n (c + suc k) all) (λ k. hands_at n (c + 1 + k) (all_notes n (front ++ here) (c + 1) rings hands))
      (λ k. ap (λ j. hands_at n j all) (let z : c + suc k ≡ c + 1 + k = omega arith in z) ∙ ap (λ (l : List Handed). hands_at n (c + 1 + k) l) regroup) in
      let tail = ap (λ (l : List Bool). zip_with f rings l) shifted ∙ zips_noted n (c + 1) (front ++ here) rings hands count (omega (arith, e)) (omega (arith, g)) none' in
      ap (λ (r : X). r ∷ zip_with f rings (each count (λ k. hands_at n (c + suc k) all))) head ∙ ap (λ (l : List X). f ring hand ∷ l) tail

-- and so is the word that it hands
word_noted : (n c : ℕ) (ring : List Bits) (hand : Bool) → word_handed ring (hands_at n c (notes n c (word_handed ring hand))) ≡ word_handed ring hand
word_noted n c ring false = refl
word_noted n c [] true = refl
word_noted n c (word ∷ ring) true =
    ap (λ (b : Bool). word_handed (word ∷ ring) (b || false)) (ap (λ (b : Bool). b && (c == c)) (eq-eqb n n refl) ∙ eq-eqb c c refl)

-- ---- the replay

-- a cycle of a machine in which nothing is taken any more, and these channels hand
abbrev pub after_hands : {S : Type 0} → Circuit S → List Bool → Machine S → Machine S
after_hands circuit hands machine =
    let moved = after_transfers circuit machine in
    record { to_server = moved.to_server; state = moved.state; to_client = zip_with after_pop moved.to_client hands }

module _ {S : Type 0} (circuit : Circuit S) (start : S) where
  -- the replay of some cycles depends on what is noted of them alone
  replay_same : (t u : List Taken) (h j : List Handed) (n : ℕ) → ((m k : ℕ) → m < n → words_at m k t ≡ words_at m k u) → ((m k : ℕ) → m < n → hands_at m k h ≡ hands_at m k j) → replayed circuit start t h n ≡ replayed circuit start u j n
  unfolding replayed
  replay_same t u h j zero words hands = refl
  replay_same t u h j (suc n) words hands =
      ap (λ (m : Machine S). machine_after circuit (entering circuit t n) (handing circuit h n) m) (replay_same t u h j n (λ m k lt. words m k (omega (arith, lt))) (λ m k lt. hands m k (omega (arith, lt))))
      ∙ ap (λ (l : List (List Bits)). machine_after circuit l (handing circuit h n) (replayed circuit start u j n)) (each_same circuit.to_server_count (λ k. words_at n k t) (λ k. words_at n k u) (λ k. words n k (omega arith)))
      ∙ ap (λ (l : List Bool). machine_after circuit (entering circuit u n) l (replayed circuit start u j n)) (each_same circuit.to_client_count (λ k. hands_at n k h) (λ k. hands_at n k j) (λ k. hands n k (omega arith)))

  -- no ring is lost
  pub replay_rings : (t : List Taken) (h : List Handed) (n : ℕ) → HasRings circuit (replayed circuit start t h n)
  unfolding replayed
  replay_rings t h zero = record { to_server = length_replicate circuit.to_server_count []; to_client = length_replicate circuit.to_client_count [] }
  replay_rings t h (suc n) =
      rings_after circuit (entering circuit t n) (handing circuit h n) (replayed circuit start t h n)
      (length_each circuit.to_server_count (λ k. words_at n k t)) (length_each circuit.to_client_count (λ k. hands_at n k h)) (replay_rings t h n)

  replay_more : (t : List Taken) (h : List Handed) (n : ℕ) → replayed circuit start t h (suc n) ≡ machine_after circuit (entering circuit t n) (handing circuit h n) (replayed circuit start t h n)
  unfolding replayed
  replay_more t h n = refl

  replay_none : (t : List Taken) (h : List Handed) → replayed circuit start t h 0 ≡ empty_machine circuit start
  unfolding replayed
  replay_none t h = refl

  -- nothing is taken yet in a cycle of which nothing is noted
  nothing_taken : (t : List Taken) (n : ℕ) (machine : Machine S) → HasRings circuit machine → ((k : ℕ) → words_at n k t ≡ []) → after_takes (entering circuit t n) machine ≡ machine
  nothing_taken t n machine has none =
      let with_rings : List (List Bits) → Machine S = λ rings. record { to_server = rings; state = machine.state; to_client = machine.to_client } in
      ap with_rings (ap (λ (l : List (List Bits)). zip_with joins machine.to_server l) (each_same circuit.to_server_count (λ k. words_at n k t) (λ k. []) none) ∙ no_takes machine.to_server circuit.to_server_count has.to_server)

  -- a new session stands for the empty journal
  pub new_stands : StandsFor circuit start (empty_machine circuit start) empty_journal
  new_stands = record {
    machine_is = sym (nothing_taken [] 0 (replayed circuit start [] [] 0) (replay_rings [] [] 0) (λ k. refl) ∙ replay_none [] []);
    taken = tt;
    handed = tt;
  }

  -- a value joins its ring, and is noted as taken
  pub take_stands : (machine : Machine S) (journal : Journal) (channel conn stream : ℕ) (word : Bits) → channel < circuit.to_server_count → StandsFor circuit start machine journal
      → StandsFor circuit start (record { to_server = rings_with machine.to_server channel word; state = machine.state; to_client = machine.to_client }) (with_taken journal channel conn stream word)
  take_stands machine journal channel conn stream word below stands =
      let n : ℕ = journal.cycles in
      let t : List Taken = journal.taken in
      let entry : Taken = record { cycle = n; channel = channel; conn = conn; stream = stream; word = word } in
      let before : Machine S = replayed circuit start t journal.handed n in
      let taking : Machine S → Machine S = λ m. record { to_server = rings_with m.to_server channel word; state = m.state; to_client = m.to_client } in
      let with_rings : List (List Bits) → Machine S = λ rings. record { to_server = rings; state = before.state; to_client = before.to_client } in
      record {
        machine_is =
            ap taking stands.machine_is
            ∙ (ap with_rings (one_take before.to_server circuit.to_server_count channel (λ k. words_at n k t) (λ k. words_at n k (t ++ entry ∷ [])) word (replay_rings t journal.handed n).to_server below
            (words_one n channel t entry (ap (λ (b : Bool). b && (channel == channel)) (eq-eqb n n refl) ∙ eq-eqb channel channel refl))
            (λ k apart. words_more n k t entry (and_right (n == n) (channel == k) (differ channel k apart))))
            ∙ ap (λ (m : Machine S). after_takes (entering circuit (t ++ entry ∷ []) n) m)
            (replay_same t (t ++ entry ∷ []) journal.handed journal.handed n
            (λ m k lt. sym (words_more m k t entry (and_false (n == m) (channel == k) (differ n m (λ e. absurd (omega (arith, e, lt)))))))
            (λ m k lt. refl)));
        taken = all_joined (λ (x : Taken). x.cycle ≤ n) t (entry ∷ []) stands.taken (let le : n ≤ n = omega arith in (le, tt));
        handed = stands.handed;
      }

  -- a stream that is attached changes nothing of it
  pub attach_stands : (machine : Machine S) (journal : Journal) (channel conn stream : ℕ) → StandsFor circuit start machine journal → StandsFor circuit start machine (with_attached journal channel conn stream)
  attach_stands machine journal channel conn stream stands = record { machine_is = stands.machine_is; taken = stands.taken; handed = stands.handed }

  -- the notes of a cycle change nothing before it
  noted_machine : (machine : Machine S) (journal : Journal) (rings : List (List Bits)) (hands : List Bool) → StandsFor circuit start machine journal
      → machine ≡ after_takes (entering circuit journal.taken journal.cycles) (replayed circuit start journal.taken (all_notes journal.cycles journal.handed 0 rings hands) journal.cycles)
  noted_machine machine journal rings hands stands =
      let n : ℕ = journal.cycles in
      let h : List Handed = journal.handed in
      stands.machine_is
      ∙ ap (λ (m : Machine S). after_takes (entering circuit journal.taken n) m)
      (replay_same journal.taken journal.taken h (all_notes n h 0 rings hands) n (λ m k lt. refl)
      (λ m k lt. sym (any_joined (is_handed_at m k) h (noted n 0 rings hands) ∙ (ap (λ (b : Bool). hands_at m k h || b) (other_cycle m n k 0 rings hands (λ z. absurd (omega (arith, z, lt)))) ∙ or_none (hands_at m k h)))))
    where
      or_none : (b : Bool) → (b || false) ≡ b
      or_none true = refl
      or_none false = refl

  -- all transfers move, these channels hand, and the cycle is over
  pub cycle_stands : (machine : Machine S) (journal after : Journal) (hands : List Bool) → HasRings circuit machine → length hands ≡ circuit.to_client_count → StandsFor circuit start machine journal
      → after.cycles ≡ journal.cycles + 1 → after.taken ≡ journal.taken
      → after.handed ≡ journal.handed ++ map hand_of (transfers_from journal.cycles 0 (zip_with word_handed (after_transfers circuit machine).to_client hands))
      → StandsFor circuit start (after_hands circuit hands machine) after
  cycle_stands machine journal after hands has counted stands e f g =
      let n : ℕ = journal.cycles in
      let t : List Taken = journal.taken in
      let rings : List (List Bits) = (after_transfers circuit machine).to_client in
      let h : List Handed = journal.handed in
      let h' : List Handed = all_notes n h 0 rings hands in
      let moved_has : HasRings circuit (after_transfers circuit machine) = rings_after_transfers circuit machine has in
      let is : machine ≡ after_takes (entering circuit t n) (replayed circuit start t h' n) = noted_machine machine journal rings hands stands in
      let moved : Machine S = after_transfers circuit machine in
      let with_rings : List (List Bits) → Machine S = λ ends. record { to_server = moved.to_server; state = moved.state; to_client = ends } in
      let popped : zip_with after_pop rings (each circuit.to_client_count (λ k. hands_at n k h')) ≡ zip_with after_pop rings hands =
      ap (λ (l : List Bool). zip_with after_pop rings l) (each_same circuit.to_client_count (λ k. hands_at n k h') (λ k. hands_at n (0 + k) h') (λ k. ap (λ j. hands_at n j h') (let z : k ≡ 0 + k = omega arith in z)))
      ∙ zips_noted after_pop pop_noted n 0 h rings hands circuit.to_client_count moved_has.to_client counted (λ k le. no_hands n k h stands.handed) in
      let one : after_hands circuit hands machine ≡ replayed circuit start t h' (suc n) =
      ap with_rings (sym popped) ∙ (ap (λ (m : Machine S). let moves = after_transfers circuit m in record { to_server = moves.to_server; state = moves.state; to_client = zip_with after_pop moves.to_client (handing circuit h' n) }) is ∙ sym (replay_more t h' n)) in
      let late : AllByRecursion (λ (x : Taken). x.cycle < suc n) t = all_more (λ (x : Taken). x.cycle ≤ n) (λ (x : Taken). x.cycle < suc n) (λ x le. omega (arith, le)) t stands.taken in
      let next : after.cycles ≡ suc n = e ∙ (let z : n + 1 ≡ suc n = omega arith in z) in
      let whole : after_hands circuit hands machine ≡ after_takes (entering circuit t (suc n)) (replayed circuit start t h' (suc n)) =
      one ∙ sym (nothing_taken t (suc n) (replayed circuit start t h' (suc n)) (replay_rings t h' (suc n)) (λ k. no_words (suc n) k t late)) in
      record {
        machine_is =
            whole ∙ (ap (λ j. after_takes (entering circuit t j) (replayed circuit start t h' j)) (sym next)
            ∙ (ap (λ (u : List Taken). after_takes (entering circuit u after.cycles) (replayed circuit start u h' after.cycles)) (sym f)
            ∙ ap (λ (j : List Handed). after_takes (entering circuit after.taken after.cycles) (replayed circuit start after.taken j after.cycles)) (sym g)));
        taken = subst (λ (u : List Taken). AllByRecursion (λ (x : Taken). x.cycle ≤ after.cycles) u) (sym f) (all_more (λ (x : Taken). x.cycle ≤ n) (λ (x : Taken). x.cycle ≤ after.cycles) (λ x le. omega (arith, le, e)) t stands.taken);
        handed = subst (λ (j : List Handed). AllByRecursion (λ (x : Handed). x.cycle < after.cycles) j) (sym g)
            (all_joined (λ (x : Handed). x.cycle < after.cycles) h (noted n 0 rings hands)
            (all_more (λ (x : Handed). x.cycle < n) (λ (x : Handed). x.cycle < after.cycles) (λ x lt. omega (arith, lt, e)) h stands.handed)
            (all_more (IsNoteFrom n 0) (λ (x : Handed). x.cycle < after.cycles) (λ x is'. let here = is'.cycle in omega (arith, here, e)) (noted n 0 rings hands) (noted_are n 0 rings hands)));
      }

  -- and the words that leave the rings in that cycle are those of the journal played again
  pub cycle_leaves : (machine : Machine S) (journal after : Journal) (hands : List Bool) → HasRings circuit machine → length hands ≡ circuit.to_client_count → StandsFor circuit start machine journal
      → after.taken ≡ journal.taken
      → after.handed ≡ journal.handed ++ map hand_of (transfers_from journal.cycles 0 (zip_with word_handed (after_transfers circuit machine).to_client hands))
      → leaving circuit start after.taken after.handed journal.cycles ≡ zip_with word_handed (after_transfers circuit machine).to_client hands
  cycle_leaves machine journal after hands has counted stands f g =
      let n : ℕ = journal.cycles in
      let t : List Taken = journal.taken in
      let rings : List (List Bits) = (after_transfers circuit machine).to_client in
      let h : List Handed = journal.handed in
      let h' : List Handed = all_notes n h 0 rings hands in
      let moved_has : HasRings circuit (after_transfers circuit machine) = rings_after_transfers circuit machine has in
      ap (λ (u : List Taken). leaving circuit start u after.handed n) f
      ∙ (ap (λ (j : List Handed). leaving circuit start t j n) g
      ∙ (ap (λ (m : Machine S). zip_with word_handed (after_transfers circuit m).to_client (handing circuit h' n)) (sym (noted_machine machine journal rings hands stands))
      ∙ (ap (λ (l : List Bool). zip_with word_handed rings l) (each_same circuit.to_client_count (λ k. hands_at n k h') (λ k. hands_at n (0 + k) h') (λ k. ap (λ j. hands_at n j h') (let z : k ≡ 0 + k = omega arith in z)))
      ∙ zips_noted word_handed word_noted n 0 h rings hands circuit.to_client_count moved_has.to_client counted (λ k le. no_hands n k h stands.handed))))
