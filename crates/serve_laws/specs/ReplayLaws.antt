-- Between two cycles rings and circuit are those of the journal played again.
use Rattle.std.proofs.Common.{◌≡◌, ◌≢◌, ℕ, zero, suc, ◌+◌, ◌<◌, ◌≤◌, ◌==◌, ◌&&◌, ◌||◌, cond, Bool, true, false, List, [], ◌∷◌, ◌++◌, map, filter, drop, length, refl, ap, sym, ◌∙◌, subst, append_assoc, append-nil, arith, add-one, eqb-true, eq-eqb, true≢false}
use Rattle.cycle_rules.specs.Circuit.{Bits}
use Rattle.cycle_rules.specs.ChannelsLemmas.{rings_after_takes, rings_after_transfers, rings_after}
use Rattle.cycle_rules.specs.Cycle.{Machine, HasRings, after_takes, after_transfers, machine_after}
use Rattle.cycle_rules.specs.Lists.{zip_with}
use Rattle.cycle_rules.specs.Rings.{after_pop, rings_with, rings_without_front}
use Rattle.serve_acts.specs.Acts.{Act}
use Rattle.serve_acts.specs.Acts.Act.{Takes, Hands, Settles, Cycles}
use Rattle.serve_acts.specs.Journal.{Taken, Handed, cycles, all_taken, all_handed}
use Rattle.serve_acts.specs.Legal.{IsLegal}
use Rattle.serve_acts.specs.Machines.{each, machine, is_settled, has_handed}
use Rattle.serve_acts.specs.Served.{Served}
use Rattle.serve_acts.specs.declared.call.Call.{Call}
use Rattle.serve_laws.specs.Filters.{filter_joined, any_joined}
use Rattle.serve_laws.specs.Replay.{is_taken_at, words_at, is_handed_at, hands_at, replayed, partway}
use Rattle.serve_laws.specs.RingLaws.{length_each}

-- ---- lists with a place for each channel

each_same : {A : Type 0} (count : ℕ) (f g : ℕ → A) → ((k : ℕ) → f k ≡ g k) → each count f ≡ each count g
each_same zero f g e = refl
each_same {A} (suc count) f g e = ap (λ (x : A). x ∷ each count (λ k. f (suc k))) (e 0) ∙ ap (λ (l : List A). g 0 ∷ l) (each_same count (λ k. f (suc k)) (λ k. g (suc k)) (λ k. e (suc k)))

abbrev joins : List Bits → List Bits → List Bits
joins ring values = ring ++ values

no_takes : (rings : List (List Bits)) (count : ℕ) → length rings ≡ count → zip_with joins rings (each count (λ k. [])) ≡ rings
no_takes [] count e = refl
no_takes (ring ∷ rings) zero e = absurd (omega arith)
no_takes (ring ∷ rings) (suc count) e = ap (λ (r : List Bits). r ∷ zip_with joins rings (each count (λ k. []))) (append-nil ring) ∙ ap (λ (l : List (List Bits)). ring ∷ l) (no_takes rings count (omega arith))

no_hands : (rings : List (List Bits)) (count : ℕ) → length rings ≡ count → zip_with after_pop rings (each count (λ k. false)) ≡ rings
no_hands [] count e = refl
no_hands (ring ∷ rings) zero e = absurd (omega arith)
no_hands (ring ∷ rings) (suc count) e = ap (λ (l : List (List Bits)). ring ∷ l) (no_hands rings count (omega arith))

-- one channel takes one word more
one_take : (rings : List (List Bits)) (count at : ℕ) (f g : ℕ → List Bits) (word : Bits) → length rings ≡ count → at < count → g at ≡ f at ++ word ∷ [] → ((k : ℕ) → at ≢ k → g k ≡ f k)
    → rings_with (zip_with joins rings (each count f)) at word ≡ zip_with joins rings (each count g)
one_take [] count at f g word e below here other = absurd (omega (arith, e, below))
one_take (ring ∷ rings) zero at f g word e below here other = absurd (omega (arith, below))
one_take (ring ∷ rings) (suc count) zero f g word e below here other =
    ap (λ (r : List Bits). r ∷ zip_with joins rings (each count (λ k. f (suc k)))) (append_assoc ring (f 0) (word ∷ []) ∙ ap (λ (l : List Bits). ring ++ l) (sym here))
    ∙ ap (λ (l : List (List Bits)). (ring ++ g 0) ∷ zip_with joins rings l) (each_same count (λ k. f (suc k)) (λ k. g (suc k)) (λ k. sym (other (suc k) (λ z. absurd (omega (arith, z))))))
one_take (ring ∷ rings) (suc count) (suc at) f g word e below here other =
    ap (λ (r : List Bits). (ring ++ r) ∷ rings_with (zip_with joins rings (each count (λ k. f (suc k)))) at word) (sym (other 0 (λ z. absurd (omega (arith, z)))))
    ∙ ap (λ (l : List (List Bits)). (ring ++ g 0) ∷ l)
    (one_take rings count at (λ k. f (suc k)) (λ k. g (suc k)) word (omega arith) (omega (arith, below)) here (λ k apart. other (suc k) (λ z. apart (omega (arith, z)))))

-- one channel hands that did not
one_hand : (rings : List (List Bits)) (count at : ℕ) (f g : ℕ → Bool) → length rings ≡ count → at < count → f at ≡ false → g at ≡ true → ((k : ℕ) → at ≢ k → g k ≡ f k)
    → rings_without_front (zip_with after_pop rings (each count f)) at ≡ zip_with after_pop rings (each count g)
one_hand [] count at f g e below was here other = absurd (omega (arith, e, below))
one_hand (ring ∷ rings) zero at f g e below was here other = absurd (omega (arith, below))
one_hand (ring ∷ rings) (suc count) zero f g e below was here other =
    ap (λ (b : Bool). drop 1 (after_pop ring b) ∷ zip_with after_pop rings (each count (λ k. f (suc k)))) was
    ∙ (ap (λ (b : Bool). after_pop ring b ∷ zip_with after_pop rings (each count (λ k. f (suc k)))) (sym here)
    ∙ ap (λ (l : List Bool). after_pop ring (g 0) ∷ zip_with after_pop rings l) (each_same count (λ k. f (suc k)) (λ k. g (suc k)) (λ k. sym (other (suc k) (λ z. absurd (omega (arith, z)))))))
one_hand (ring ∷ rings) (suc count) (suc at) f g e below was here other =
    ap (λ (b : Bool). after_pop ring b ∷ rings_without_front (zip_with after_pop rings (each count (λ k. f (suc k)))) at) (sym (other 0 (λ z. absurd (omega (arith, z)))))
    ∙ ap (λ (l : List (List Bits)). after_pop ring (g 0) ∷ l)
    (one_hand rings count at (λ k. f (suc k)) (λ k. g (suc k)) (omega arith) (omega (arith, below)) was here (λ k apart. other (suc k) (λ z. apart (omega (arith, z)))))

-- ---- entries of other cycles

and_false : (a b : Bool) → a ≡ false → (a && b) ≡ false
and_false true b e = cc
and_false false b e = refl

and_right : (a b : Bool) → b ≡ false → (a && b) ≡ false
and_right true b e = e
and_right false b e = refl

differ : (a b : ℕ) → a ≢ b → (a == b) ≡ false
differ a b apart = by (a == b) refl
  where
    by : (t : Bool) → (a == b) ≡ t → (a == b) ≡ false
    by true e = absurd (apart (eqb-true a b e))
    by false e = e

words_more : (n k : ℕ) (entries : List Taken) (entry : Taken) → is_taken_at n k entry ≡ false → words_at n k (entries ++ entry ∷ []) ≡ words_at n k entries
words_more n k entries entry e =
    let none : filter (is_taken_at n k) (entry ∷ []) ≡ [] = simp e refl in
    ap (λ (l : List Taken). map (λ (x : Taken). x.call.word) l) (filter_joined (is_taken_at n k) entries (entry ∷ []) ∙ (ap (λ (l : List Taken). filter (is_taken_at n k) entries ++ l) none ∙ append-nil (filter (is_taken_at n k) entries)))

map_joined : (entries : List Taken) (entry : Taken) → map (λ (x : Taken). x.call.word) (entries ++ entry ∷ []) ≡ map (λ (x : Taken). x.call.word) entries ++ entry.call.word ∷ []
map_joined [] entry = refl
map_joined (other ∷ entries) entry = ap (λ (l : List Bits). other.call.word ∷ l) (map_joined entries entry)

words_one : (n k : ℕ) (entries : List Taken) (entry : Taken) → is_taken_at n k entry ≡ true → words_at n k (entries ++ entry ∷ []) ≡ words_at n k entries ++ entry.call.word ∷ []
words_one n k entries entry e =
    let one : filter (is_taken_at n k) (entry ∷ []) ≡ entry ∷ [] = simp e refl in
    ap (λ (l : List Taken). map (λ (x : Taken). x.call.word) l) (filter_joined (is_taken_at n k) entries (entry ∷ []) ∙ ap (λ (l : List Taken). filter (is_taken_at n k) entries ++ l) one)
    ∙ map_joined (filter (is_taken_at n k) entries) entry

or_false : (a b : Bool) → b ≡ false → (a || b) ≡ a
or_false true b e = refl
or_false false b e = e

or_one : (a b : Bool) → b ≡ true → (a || b) ≡ true
or_one true b e = refl
or_one false b e = e

hands_more : (n k : ℕ) (entries : List Handed) (entry : Handed) → is_handed_at n k entry ≡ false → hands_at n k (entries ++ entry ∷ []) ≡ hands_at n k entries
hands_more n k entries entry e = any_joined (is_handed_at n k) entries (entry ∷ []) ∙ or_false (hands_at n k entries) (is_handed_at n k entry || false) (simp e refl)

hands_one : (n k : ℕ) (entries : List Handed) (entry : Handed) → is_handed_at n k entry ≡ true → hands_at n k (entries ++ entry ∷ []) ≡ true
hands_one n k entries entry e = any_joined (is_handed_at n k) entries (entry ∷ []) ∙ or_one (hands_at n k entries) (is_handed_at n k entry || false) (simp e refl)

-- no entry is of a later cycle
later_words : (n k : ℕ) (t : List Act) → cycles t < n → words_at n k (all_taken t) ≡ []
later_words n k [] later = refl
later_words n k (Takes call ∷ t) later =
    words_more n k (all_taken t) (record { cycle = cycles t; call = call }) (and_false (cycles t == n) (call.channel == k) (differ (cycles t) n (λ e. absurd (omega (arith, e, later))))) ∙ later_words n k t later
later_words n k (Cycles ∷ t) later = later_words n k t (omega (arith, later))
later_words n k (act ∷ t) later = later_words n k t later

later_hands : (n k : ℕ) (t : List Act) → cycles t < n → hands_at n k (all_handed t) ≡ false
later_hands n k [] later = refl
later_hands n k (Hands channel conn stream word ∷ t) later =
    hands_more n k (all_handed t) (record { cycle = cycles t; channel = channel }) (and_false (cycles t == n) (channel == k) (differ (cycles t) n (λ e. absurd (omega (arith, e, later))))) ∙ later_hands n k t later
later_hands n k (Cycles ∷ t) later = later_hands n k t (omega (arith, later))
later_hands n k (act ∷ t) later = later_hands n k t later

-- a channel that has not handed in this cycle has no entry of it
unhanded_by : (b : Bool) (k channel conn stream : ℕ) (word : Bits) (t : List Act) → (channel == k) ≡ b → (has_handed k t ≡ false → hands_at (cycles t) k (all_handed t) ≡ false) → cond b true (has_handed k t) ≡ false
    → hands_at (cycles t) k (all_handed t ++ record { cycle = cycles t; channel = channel } ∷ []) ≡ false
unhanded_by true k channel conn stream word t e rest none = cc
unhanded_by false k channel conn stream word t e rest none =
    hands_more (cycles t) k (all_handed t) (record { cycle = cycles t; channel = channel }) (and_right (cycles t == cycles t) (channel == k) e) ∙ rest none

unhanded : (k : ℕ) (t : List Act) → has_handed k t ≡ false → hands_at (cycles t) k (all_handed t) ≡ false
unhanded k [] none = refl
unhanded k (Hands channel conn stream word ∷ t) none = unhanded_by (channel == k) k channel conn stream word t refl (λ e. unhanded k t e) none
unhanded k (Cycles ∷ t) none = later_hands (cycles t + 1) k t (omega arith)
unhanded k (act ∷ t) none = unhanded k t none

module _ {S : Type 0} (served : Served S) where
  -- before the transfers of its cycle no channel has handed
  early : (k : ℕ) (t : List Act) → IsLegal served t → is_settled t ≡ false → has_handed k t ≡ false
  early k [] legal is = refl
  early k (Settles ∷ t) legal is = cc
  early k (Cycles ∷ t) legal is = refl
  early k (Hands channel conn stream word ∷ t) legal is = absurd (true≢false (sym legal.0.after ∙ is))
  early k (act ∷ t) legal is = early k t legal.1 is

  -- entries of a cycle change none before it
  replay_takes : (takes : List Taken) (hands : List Handed) (entry : Taken) (n : ℕ) → n ≤ entry.cycle → replayed served (takes ++ entry ∷ []) hands n ≡ replayed served takes hands n
  replay_takes takes hands entry zero below = refl
  replay_takes takes hands entry (suc n) below =
      ap (λ (m : Machine S). machine_after served.circuit (each served.circuit.to_server_count (λ k. words_at n k (takes ++ entry ∷ []))) (each served.circuit.to_client_count (λ k. hands_at n k hands)) m) (replay_takes takes hands entry n (omega (arith, below)))
      ∙ ap (λ (l : List (List Bits)). machine_after served.circuit l (each served.circuit.to_client_count (λ k. hands_at n k hands)) (replayed served takes hands n))
      (each_same served.circuit.to_server_count (λ k. words_at n k (takes ++ entry ∷ [])) (λ k. words_at n k takes)
      (λ k. words_more n k takes entry (and_false (entry.cycle == n) (entry.call.channel == k) (differ entry.cycle n (λ e. absurd (omega (arith, e, below)))))))

  replay_hands : (takes : List Taken) (hands : List Handed) (entry : Handed) (n : ℕ) → n ≤ entry.cycle → replayed served takes (hands ++ entry ∷ []) n ≡ replayed served takes hands n
  replay_hands takes hands entry zero below = refl
  replay_hands takes hands entry (suc n) below =
      ap (λ (m : Machine S). machine_after served.circuit (each served.circuit.to_server_count (λ k. words_at n k takes)) (each served.circuit.to_client_count (λ k. hands_at n k (hands ++ entry ∷ []))) m) (replay_hands takes hands entry n (omega (arith, below)))
      ∙ ap (λ (l : List Bool). machine_after served.circuit (each served.circuit.to_server_count (λ k. words_at n k takes)) l (replayed served takes hands n))
      (each_same served.circuit.to_client_count (λ k. hands_at n k (hands ++ entry ∷ [])) (λ k. hands_at n k hands)
      (λ k. hands_more n k hands entry (and_false (entry.cycle == n) (entry.channel == k) (differ entry.cycle n (λ e. absurd (omega (arith, e, below)))))))

  replay_rings : (takes : List Taken) (hands : List Handed) (n : ℕ) → HasRings served.circuit (replayed served takes hands n)
  replay_rings takes hands zero = record { to_server = length_each served.circuit.to_server_count (λ k. []); to_client = length_each served.circuit.to_client_count (λ k. []) }
  replay_rings takes hands (suc n) =
      rings_after served.circuit (each served.circuit.to_server_count (λ k. words_at n k takes)) (each served.circuit.to_client_count (λ k. hands_at n k hands)) (replayed served takes hands n)
      (length_each served.circuit.to_server_count (λ k. words_at n k takes)) (length_each served.circuit.to_client_count (λ k. hands_at n k hands)) (replay_rings takes hands n)

  -- the transfers of that cycle
  abbrev moved : ℕ → List Taken → Machine S → Machine S
  moved n takes before = after_transfers served.circuit (after_takes (each served.circuit.to_server_count (λ k. words_at n k takes)) before)

  moved_rings : (n : ℕ) (takes : List Taken) (before : Machine S) → HasRings served.circuit before → HasRings served.circuit (moved n takes before)
  moved_rings n takes before has =
      rings_after_transfers served.circuit (after_takes (each served.circuit.to_server_count (λ k. words_at n k takes)) before)
      (rings_after_takes served.circuit (each served.circuit.to_server_count (λ k. words_at n k takes)) before (length_each served.circuit.to_server_count (λ k. words_at n k takes)) has)

  takes_step : (call : Call) (n : ℕ) (takes : List Taken) (hands : List Handed) (old : Machine S) → call.channel < served.circuit.to_server_count → old ≡ partway served false n takes hands
      → record { to_server = rings_with old.to_server call.channel call.word; state = old.state; to_client = old.to_client } ≡ partway served false n (takes ++ record { cycle = n; call = call } ∷ []) hands
  takes_step call n takes hands old below is =
      let entry : Taken = record { cycle = n; call = call } in
      let before : Machine S = replayed served takes hands n in
      let taking : Machine S → Machine S = λ m. record { to_server = rings_with m.to_server call.channel call.word; state = m.state; to_client = m.to_client } in
      let with_rings : List (List Bits) → Machine S = λ rings. record { to_server = rings; state = before.state; to_client = before.to_client } in
      ap taking is
      ∙ (ap with_rings (one_take before.to_server served.circuit.to_server_count call.channel (λ k. words_at n k takes) (λ k. words_at n k (takes ++ entry ∷ [])) call.word (replay_rings takes hands n).to_server below
      (words_one n call.channel takes entry (simp (eq-eqb n n refl, eq-eqb call.channel call.channel refl) refl))
      (λ k apart. words_more n k takes entry (and_right (n == n) (call.channel == k) (differ call.channel k apart))))
      ∙ ap (λ (m : Machine S). after_takes (each served.circuit.to_server_count (λ k. words_at n k (takes ++ entry ∷ []))) m) (sym (replay_takes takes hands entry n (omega arith))))

  hands_step : (channel n : ℕ) (takes : List Taken) (hands : List Handed) (old : Machine S) → channel < served.circuit.to_client_count → hands_at n channel hands ≡ false → old ≡ partway served true n takes hands
      → record { to_server = old.to_server; state = old.state; to_client = rings_without_front old.to_client channel } ≡ partway served true n takes (hands ++ record { cycle = n; channel = channel } ∷ [])
  hands_step channel n takes hands old below none is =
      let entry : Handed = record { cycle = n; channel = channel } in
      let before : Machine S = replayed served takes hands n in
      let moves : Machine S = moved n takes before in
      let handing : Machine S → Machine S = λ m. record { to_server = m.to_server; state = m.state; to_client = rings_without_front m.to_client channel } in
      let with_rings : List (List Bits) → Machine S = λ rings. record { to_server = moves.to_server; state = moves.state; to_client = rings } in
      ap handing is
      ∙ (ap with_rings (one_hand moves.to_client served.circuit.to_client_count channel (λ k. hands_at n k hands) (λ k. hands_at n k (hands ++ entry ∷ [])) (moved_rings n takes before (replay_rings takes hands n)).to_client below none
      (hands_one n channel hands entry (simp (eq-eqb n n refl, eq-eqb channel channel refl) refl))
      (λ k apart. hands_more n k hands entry (and_right (n == n) (channel == k) (differ channel k apart))))
      ∙ ap (λ (m : Machine S). machine_after served.circuit (each served.circuit.to_server_count (λ k. words_at n k takes)) (each served.circuit.to_client_count (λ k. hands_at n k (hands ++ entry ∷ []))) m)
      (sym (replay_hands takes hands entry n (omega arith))))

  settles_step : (n : ℕ) (takes : List Taken) (hands : List Handed) (old : Machine S) → ((k : ℕ) → hands_at n k hands ≡ false) → old ≡ partway served false n takes hands → after_transfers served.circuit old ≡ partway served true n takes hands
  settles_step n takes hands old none is =
      let before : Machine S = replayed served takes hands n in
      let moves : Machine S = moved n takes before in
      let with_rings : List (List Bits) → Machine S = λ rings. record { to_server = moves.to_server; state = moves.state; to_client = rings } in
      ap (λ (m : Machine S). after_transfers served.circuit m) is
      ∙ ap with_rings (sym (ap (λ (l : List Bool). zip_with after_pop moves.to_client l) (each_same served.circuit.to_client_count (λ k. hands_at n k hands) (λ k. false) none)
      ∙ no_hands moves.to_client served.circuit.to_client_count (moved_rings n takes before (replay_rings takes hands n)).to_client))

  begins_step : (n : ℕ) (takes : List Taken) (hands : List Handed) → ((k : ℕ) → words_at n k takes ≡ []) → replayed served takes hands n ≡ partway served false n takes hands
  begins_step n takes hands none =
      let before : Machine S = replayed served takes hands n in
      let with_rings : List (List Bits) → Machine S = λ rings. record { to_server = rings; state = before.state; to_client = before.to_client } in
      ap with_rings (sym (ap (λ (l : List (List Bits)). zip_with joins before.to_server l) (each_same served.circuit.to_server_count (λ k. words_at n k takes) (λ k. []) none)
      ∙ no_takes before.to_server served.circuit.to_server_count (replay_rings takes hands n).to_server))

  abbrev IsPartway : Bool → List Act → Machine S → Type 0
  IsPartway b t m = m ≡ partway served b (cycles t) (all_taken t) (all_handed t)

  next_cycle : (n : ℕ) → n + 1 ≡ suc n
  next_cycle n = add-one n

  -- the circuit and its rings are those of the journal, at every moment
  pub plays : (t : List Act) → IsLegal served t → machine served t ≡ partway served (is_settled t) (cycles t) (all_taken t) (all_handed t)
  plays [] legal = begins_step 0 [] [] (λ k. refl)
  plays (Takes call ∷ t) legal =
      let before = legal.0.due.before in
      subst (λ (b : Bool). IsPartway b (Takes call ∷ t) (machine served (Takes call ∷ t))) (sym before)
      (takes_step call (cycles t) (all_taken t) (all_handed t) (machine served t) legal.0.channel (subst (λ (b : Bool). IsPartway b t (machine served t)) before (plays t legal.1)))
  plays (Hands channel conn stream word ∷ t) legal =
      let after = legal.0.after in
      subst (λ (b : Bool). IsPartway b (Hands channel conn stream word ∷ t) (machine served (Hands channel conn stream word ∷ t))) (sym after)
      (hands_step channel (cycles t) (all_taken t) (all_handed t) (machine served t) legal.0.channel_is (unhanded channel t legal.0.once) (subst (λ (b : Bool). IsPartway b t (machine served t)) after (plays t legal.1)))
  plays (Settles ∷ t) legal =
      settles_step (cycles t) (all_taken t) (all_handed t) (machine served t) (λ k. unhanded k t (early k t legal.1 legal.0)) (subst (λ (b : Bool). IsPartway b t (machine served t)) legal.0 (plays t legal.1))
  plays (Cycles ∷ t) legal =
      subst (λ (b : Bool). IsPartway b t (machine served t)) legal.0 (plays t legal.1)
      ∙ (ap (λ (n : ℕ). replayed served (all_taken t) (all_handed t) n) (sym (next_cycle (cycles t)))
      ∙ begins_step (cycles t + 1) (all_taken t) (all_handed t) (λ k. later_words (cycles t + 1) k t (omega arith)))
  plays (act ∷ t) legal = plays t legal.1

  -- so they are between two cycles
  pub replays : (t : List Act) → IsLegal served (Cycles ∷ t) → machine served (Cycles ∷ t) ≡ replayed served (all_taken (Cycles ∷ t)) (all_handed (Cycles ∷ t)) (cycles (Cycles ∷ t))
  replays t legal =
      subst (λ (b : Bool). IsPartway b t (machine served t)) legal.0 (plays t legal.1) ∙ ap (λ (n : ℕ). replayed served (all_taken t) (all_handed t) n) (sym (next_cycle (cycles t)))
