-- What goes into a ring comes out of it, in order, or is in it.
use Rattle.std.proofs.Common.{◌≡◌, ℕ, zero, suc, ◌<◌, ◌==◌, Bool, true, false, Option, Some, None, option_to_list, List, [], ◌∷◌, ◌++◌, drop, map, filter, if◌then◌else◌, length, refl, ap, sym, ◌∙◌, append_assoc, append-nil, arith, eqb-true, eq-eqb, true≢false, length-set, get_or-set_same, get_or-set_other, slice_index_or, slice_set}
use Rattle.cycle_rules.specs.ChannelsLemmas.{rings_after_transfers, words_count, readies_count}
use Rattle.cycle_rules.specs.Circuit.{Bits}
use Rattle.cycle_rules.specs.Cycle.{HasRings}
use Rattle.cycle_rules.specs.Lists.{zip_with, first}
use Rattle.cycle_rules.specs.Rings.{has_room, after_pop, after_push, ring_at, front_of}
use Rattle.serve_acts.specs.Acts.{Act}
use Rattle.serve_acts.specs.Acts.Act.{Takes, Hands, Settles}
use Rattle.serve_acts.specs.Attachments.{handed_on}
use Rattle.serve_acts.specs.Legal.{IsLegal}
use Rattle.serve_acts.specs.Machines.{each, machine}
use Rattle.serve_acts.specs.Served.{Served}
use Rattle.serve_acts.specs.declared.call.Call.{Call}
use Rattle.serve_laws.specs.OrderLaws.{first_is}
use Rattle.serve_laws.specs.Rings.{word_moved, words_offered, words_out, word_taken, offers_taken, words_in, words_taken}
use Rattle.serve_acts.specs.Calls.{is_on, taken}
use Rattle.serve_laws.specs.Filters.{filter_joined}

pub length_each : {A : Type 0} (count : ℕ) (f : ℕ → A) → length (each count f) ≡ count
length_each zero f = refl
length_each (suc count) f = ap suc (length_each count (λ k. f (suc k)))

empty_each : (count k : ℕ) → slice_index_or {A = List Bits} (each count (λ n. [])) k [] ≡ []
empty_each zero k = refl
empty_each (suc count) zero = refl
empty_each (suc count) (suc k) = empty_each count k

-- what stands at a place of two lists that are zipped
zip_at : {A B C : Type 0} (f : A → B → C) (xs : List A) (ys : List B) (k : ℕ) (x : A) (y : B) (z : C) → length xs ≡ length ys → k < length xs → slice_index_or (zip_with f xs ys) k z ≡ f (slice_index_or xs k x) (slice_index_or ys k y)
zip_at f [] ys k x y z same below = absurd (omega arith)
zip_at f (a ∷ xs) [] k x y z same below = absurd (omega arith)
zip_at f (a ∷ xs) (b ∷ ys) zero x y z same below = refl
zip_at f (a ∷ xs) (b ∷ ys) (suc k) x y z same below = zip_at f xs ys k x y z (omega arith) (omega arith)

module _ {S : Type 0} (served : Served S) where
  pub has_rings : (t : List Act) → HasRings served.circuit (machine served t)
  has_rings [] = record { to_server = length_each served.circuit.to_server_count (λ k. []); to_client = length_each served.circuit.to_client_count (λ k. []) }
  has_rings (Takes call ∷ t) =
      let old = has_rings t in record { to_server = length-set (machine served t).to_server call.channel (ring_at (machine served t).to_server call.channel ++ call.word ∷ []) ∙ old.to_server; to_client = old.to_client }
  has_rings (Settles ∷ t) = rings_after_transfers served.circuit (machine served t) (has_rings t)
  has_rings (Hands channel conn stream word ∷ t) =
      let old = has_rings t in record { to_server = old.to_server; to_client = length-set (machine served t).to_client channel (drop 1 (ring_at (machine served t).to_client channel)) ∙ old.to_client }
  has_rings (act ∷ t) = let old = has_rings t in record { to_server = old.to_server; to_client = old.to_client }

  abbrev ring_out : ℕ → List Act → List Bits
  ring_out k t = ring_at (machine served t).to_client k

  abbrev offered : List Act → List (Option Bits)
  offered t = words_offered served.circuit (machine served t)

  moved_by : (b : Bool) (ring : List Bits) (word : Option Bits) → (if b then ring ++ option_to_list word else ring) ≡ ring ++ (if b then option_to_list word else [])
  moved_by true ring word = refl
  moved_by false ring word = sym (append-nil ring)

  settled_ring : (k : ℕ) (t : List Act) → k < served.circuit.to_client_count → ring_out k (Settles ∷ t) ≡ ring_out k t ++ word_moved (ring_out k t) (slice_index_or (offered t) k None)
  settled_ring k t below =
      let rings = has_rings t in
      zip_at after_push (machine served t).to_client (offered t) k [] None [] (rings.to_client ∙ sym (words_count served.circuit (machine served t) rings)) (omega (arith, rings.to_client))
      ∙ moved_by (has_room (ring_out k t)) (ring_out k t) (slice_index_or (offered t) k None)

  front_ring : (k : ℕ) (word : Bits) (ring : List Bits) → first ring ≡ Some word → ring ≡ word ∷ drop 1 ring
  front_ring k word ring e = first_is ring word e

  hands_out : (b : Bool) (k channel conn stream : ℕ) (word : Bits) (t : List Act) → (channel == k) ≡ b → k < served.circuit.to_client_count → front_of (machine served t).to_client channel ≡ Some word
      → words_out served k t ≡ handed_on k t ++ ring_out k t → words_out served k t ≡ handed_on k (Hands channel conn stream word ∷ t) ++ ring_out k (Hands channel conn stream word ∷ t)
  hands_out true k channel conn stream word t e below front old =
      let same : channel ≡ k = eqb-true channel k e in
      let rings = (machine served t).to_client in
      let in_range : k < length rings = omega (arith, below, (has_rings t).to_client) in
      let ring_is : slice_index_or (slice_set rings channel (drop 1 (ring_at rings channel))) k [] ≡ drop 1 (ring_at rings k) =
      ap (λ (n : ℕ). slice_index_or (slice_set rings n (drop 1 (ring_at rings n))) k []) same ∙ get_or-set_same rings k (drop 1 (ring_at rings k)) [] in_range in
      let ring_was : ring_at rings k ≡ word ∷ drop 1 (ring_at rings k) = first_is (ring_at rings k) word (ap (λ (n : ℕ). first (ring_at rings n)) (sym same) ∙ front) in
      old ∙ (ap (λ (l : List Bits). handed_on k t ++ l) ring_was
      ∙ (sym (append_assoc (handed_on k t) (word ∷ []) (drop 1 (ring_at rings k))) ∙ simp (e, ring_is) refl))
  hands_out false k channel conn stream word t e below front old =
      let rings = (machine served t).to_client in
      let ring_is : slice_index_or (slice_set rings channel (drop 1 (ring_at rings channel))) k [] ≡ ring_at rings k =
      get_or-set_other rings channel k (drop 1 (ring_at rings channel)) [] (λ f. true≢false (sym (eq-eqb channel k (sym f)) ∙ e)) in
      old ∙ simp (e, ring_is) refl

  -- what came out of the circuit on a channel was handed, in order, or is in its ring
  pub out_ring : (k : ℕ) (t : List Act) → k < served.circuit.to_client_count → IsLegal served t → words_out served k t ≡ handed_on k t ++ ring_out k t
  out_ring k [] below legal = sym (empty_each served.circuit.to_client_count k)
  out_ring k (Settles ∷ t) below legal =
      ap (λ (l : List Bits). l ++ word_moved (ring_out k t) (slice_index_or (offered t) k None)) (out_ring k t below legal.1)
      ∙ (append_assoc (handed_on k t) (ring_out k t) (word_moved (ring_out k t) (slice_index_or (offered t) k None))
      ∙ ap (λ (l : List Bits). handed_on k t ++ l) (sym (settled_ring k t below)))
  out_ring k (Hands channel conn stream word ∷ t) below legal = hands_out (channel == k) k channel conn stream word t refl below legal.0.front (out_ring k t below legal.1)
  out_ring k (act ∷ t) below legal = out_ring k t below legal.1

  -- ---- the way in

  abbrev ring_in : ℕ → List Act → List Bits
  ring_in k t = ring_at (machine served t).to_server k

  abbrev readies : List Act → List Bool
  readies t = offers_taken served.circuit (machine served t)

  popped_by : (b : Bool) (ring : List Bits) → ring ≡ word_taken ring b ++ after_pop ring b
  popped_by true [] = refl
  popped_by true (word ∷ ring) = refl
  popped_by false ring = refl

  settled_in : (k : ℕ) (t : List Act) → k < served.circuit.to_server_count → ring_in k t ≡ word_taken (ring_in k t) (slice_index_or (readies t) k false) ++ ring_in k (Settles ∷ t)
  settled_in k t below =
      let rings = has_rings t in
      popped_by (slice_index_or (readies t) k false) (ring_in k t)
      ∙ ap (λ (l : List Bits). word_taken (ring_in k t) (slice_index_or (readies t) k false) ++ l)
      (sym (zip_at after_pop (machine served t).to_server (readies t) k [] false [] (rings.to_server ∙ sym (readies_count served.circuit (machine served t) rings)) (omega (arith, rings.to_server))))

  pub settled_ring_in : (k : ℕ) (t : List Act) → k < served.circuit.to_server_count → ring_at (machine served (Settles ∷ t)).to_server k ≡ after_pop (ring_at (machine served t).to_server k) (slice_index_or (readies t) k false)
  settled_ring_in k t below =
      let rings = has_rings t in
      zip_at after_pop (machine served t).to_server (readies t) k [] false [] (rings.to_server ∙ sym (readies_count served.circuit (machine served t) rings)) (omega (arith, rings.to_server))

  words_joined : (calls : List Call) (call : Call) → map (λ (c : Call). c.word) (calls ++ call ∷ []) ≡ map (λ (c : Call). c.word) calls ++ call.word ∷ []
  words_joined [] call = refl
  words_joined (other ∷ calls) call = ap (λ (l : List Bits). other.word ∷ l) (words_joined calls call)

  takes_in : (b : Bool) (k : ℕ) (call : Call) (t : List Act) → is_on k call ≡ b → k < served.circuit.to_server_count → words_taken k t ≡ words_in served k t ++ ring_in k t → words_taken k (Takes call ∷ t) ≡ words_in served k t ++ ring_in k (Takes call ∷ t)
  takes_in true k call t e below old =
      let same : call.channel ≡ k = eqb-true call.channel k e in
      let rings = (machine served t).to_server in
      let in_range : k < length rings = omega (arith, below, (has_rings t).to_server) in
      let ring_is : slice_index_or (slice_set rings call.channel (ring_at rings call.channel ++ call.word ∷ [])) k [] ≡ ring_at rings k ++ call.word ∷ [] =
      ap (λ (n : ℕ). slice_index_or (slice_set rings n (ring_at rings n ++ call.word ∷ [])) k []) same ∙ get_or-set_same rings k (ring_at rings k ++ call.word ∷ []) [] in_range in
      let one : filter (is_on k) (call ∷ []) ≡ call ∷ [] = simp e refl in
      ap (λ (l : List Call). map (λ (c : Call). c.word) l) (filter_joined (is_on k) (taken t) (call ∷ []) ∙ ap (λ (l : List Call). filter (is_on k) (taken t) ++ l) one)
      ∙ (words_joined (filter (is_on k) (taken t)) call
      ∙ (ap (λ (l : List Bits). l ++ call.word ∷ []) old
      ∙ (append_assoc (words_in served k t) (ring_at rings k) (call.word ∷ []) ∙ ap (λ (l : List Bits). words_in served k t ++ l) (sym ring_is))))
  takes_in false k call t e below old =
      let rings = (machine served t).to_server in
      let ring_is : slice_index_or (slice_set rings call.channel (ring_at rings call.channel ++ call.word ∷ [])) k [] ≡ ring_at rings k =
      get_or-set_other rings call.channel k (ring_at rings call.channel ++ call.word ∷ []) [] (λ f. true≢false (sym (eq-eqb call.channel k (sym f)) ∙ e)) in
      let none : filter (is_on k) (call ∷ []) ≡ [] = simp e refl in
      ap (λ (l : List Call). map (λ (c : Call). c.word) l) (filter_joined (is_on k) (taken t) (call ∷ []) ∙ (ap (λ (l : List Call). filter (is_on k) (taken t) ++ l) none ∙ append-nil (filter (is_on k) (taken t))))
      ∙ (old ∙ ap (λ (l : List Bits). words_in served k t ++ l) (sym ring_is))

  -- what was taken on a channel went into the circuit, in order, or is in its ring
  pub in_ring : (k : ℕ) (t : List Act) → k < served.circuit.to_server_count → IsLegal served t → words_taken k t ≡ words_in served k t ++ ring_in k t
  in_ring k [] below legal = sym (empty_each served.circuit.to_server_count k)
  in_ring k (Takes call ∷ t) below legal = takes_in (is_on k call) k call t refl below (in_ring k t below legal.1)
  in_ring k (Settles ∷ t) below legal =
      in_ring k t below legal.1
      ∙ (ap (λ (l : List Bits). words_in served k t ++ l) (settled_in k t below)
      ∙ sym (append_assoc (words_in served k t) (word_taken (ring_in k t) (slice_index_or (readies t) k false)) (ring_in k (Settles ∷ t))))
  in_ring k (act ∷ t) below legal = in_ring k t below legal.1
