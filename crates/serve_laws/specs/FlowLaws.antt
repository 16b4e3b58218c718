-- What a channel handed is a prefix of the design's stream function of the values taken.
use Rattle.std.proofs.Common.{◌≡◌, ℕ, zero, suc, ◌<◌, ◌==◌, if◌then◌else◌, Bool, true, false, Option, Some, None, option_to_list, List, [], ◌∷◌, ◌++◌, drop, length, refl, ap, sym, ◌∙◌, append_assoc, append-nil, arith, eqb-true, eq-eqb, true≢false, get_or-set_same, get_or-set_other, slice_index_or, slice_set}
use Rattle.cycle_rules.specs.Circuit.{Bits, Circuit}
use Rattle.cycle_rules.specs.Cycle.{offers, rooms}
use Rattle.cycle_rules.specs.Lists.{first}
use Rattle.cycle_rules.specs.Rings.{has_room, after_pop, ring_at}
use Rattle.serve_acts.specs.Acts.{Act}
use Rattle.serve_acts.specs.Acts.Act.{Takes, Settles}
use Rattle.serve_acts.specs.Attachments.{handed_on}
use Rattle.serve_acts.specs.Legal.{IsLegal}
use Rattle.serve_acts.specs.Machines.{machine}
use Rattle.serve_acts.specs.Prefixes.{Begins, IsSegment}
use Rattle.serve_acts.specs.Served.{Served}
use Rattle.serve_acts.specs.declared.call.Call.{Call}
use Rattle.serve_laws.specs.Flow.{inputs, state_after, passed_in, refused_in, shown, passed_out, AllKeep, KeepsFlow}
use Rattle.serve_laws.specs.OrderLaws.{first_is}
use Rattle.serve_laws.specs.RingLaws.{has_rings, settled_ring_in, in_ring, out_ring}
use Rattle.serve_laws.specs.Rings.{word_taken, words_in, words_out, words_taken}
use Rattle.serve_laws.specs.WrittenLaws.{begins_through}

offers_at : (rings : List (List Bits)) (i : ℕ) → slice_index_or (offers rings) i None ≡ first (ring_at rings i)
offers_at [] i = refl
offers_at (ring ∷ rings) zero = refl
offers_at (ring ∷ rings) (suc i) = offers_at rings i

rooms_at : (rings : List (List Bits)) (k : ℕ) → k < length rings → slice_index_or (rooms rings) k false ≡ has_room (ring_at rings k)
rooms_at [] k below = absurd (omega arith)
rooms_at (ring ∷ rings) zero below = refl
rooms_at (ring ∷ rings) (suc k) below = rooms_at rings k (omega arith)

module _ {S : Type 0} (served : Served S) where
  abbrev c : Circuit S
  c = served.circuit

  state_is : (t : List Act) → (machine served t).state ≡ state_after c served.start (inputs served t)
  state_is [] = refl
  state_is (Settles ∷ t) = ap (λ (s : S). c.next s (offers (machine served t).to_server) (rooms (machine served t).to_client)) (state_is t)
  state_is (Takes call ∷ t) = state_is t
  state_is (act ∷ t) = state_is t

  in_is : (i : ℕ) (t : List Act) → words_in served i t ≡ passed_in c served.start i (inputs served t)
  in_is i [] = refl
  in_is i (Settles ∷ t) =
      let rings = (machine served t).to_server in
      let is_there : Option Bits → S → List Bits = λ offer s. if slice_index_or (c.readies s (offers rings) (rooms (machine served t).to_client)) i false then option_to_list offer else [] in
      ap (λ (l : List Bits). l ++ word_taken (ring_at rings i) (slice_index_or (c.readies (machine served t).state (offers rings) (rooms (machine served t).to_client)) i false)) (in_is i t)
      ∙ ap (λ (l : List Bits). passed_in c served.start i (inputs served t) ++ l)
      (ap (λ (s : S). is_there (first (ring_at rings i)) s) (state_is t) ∙ ap (λ (o : Option Bits). is_there o (state_after c served.start (inputs served t))) (sym (offers_at rings i)))
  in_is i (act ∷ t) = in_is i t

  out_is : (k : ℕ) (t : List Act) → k < c.to_client_count → words_out served k t ≡ passed_out c served.start k (inputs served t)
  out_is k [] below = refl
  out_is k (Settles ∷ t) below =
      let rings = (machine served t).to_client in
      let moves : Bool → S → List Bits = λ b s. if b then option_to_list (slice_index_or (c.words s (offers (machine served t).to_server) (rooms rings)) k None) else [] in
      ap (λ (l : List Bits). l ++ moves (has_room (ring_at rings k)) (machine served t).state) (out_is k t below)
      ∙ ap (λ (l : List Bits). passed_out c served.start k (inputs served t) ++ l)
      (ap (λ (s : S). moves (has_room (ring_at rings k)) s) (state_is t) ∙ ap (λ (b : Bool). moves b (state_after c served.start (inputs served t))) (sym (rooms_at rings k (omega (arith, below, (has_rings served t).to_client)))))
  out_is k (act ∷ t) below = out_is k t below

  -- ---- a refused offer stands first in its ring

  more_first : (ring : List Bits) (word other : Bits) → first ring ≡ Some word → first (ring ++ other ∷ []) ≡ Some word
  more_first [] word other e = cc
  more_first (x ∷ ring) word other e = e

  takes_first : (b : Bool) (i : ℕ) (call : Call) (t : List Act) (word : Bits) → (call.channel == i) ≡ b → i < c.to_server_count → first (ring_at (machine served t).to_server i) ≡ Some word
      → first (ring_at (machine served (Takes call ∷ t)).to_server i) ≡ Some word
  takes_first true i call t word e below front =
      let rings = (machine served t).to_server in
      let same : call.channel ≡ i = eqb-true call.channel i e in
      let ring_is : slice_index_or (slice_set rings call.channel (ring_at rings call.channel ++ call.word ∷ [])) i [] ≡ ring_at rings i ++ call.word ∷ [] =
      ap (λ (n : ℕ). slice_index_or (slice_set rings n (ring_at rings n ++ call.word ∷ [])) i []) same ∙ get_or-set_same rings i (ring_at rings i ++ call.word ∷ []) [] (omega (arith, below, (has_rings served t).to_server)) in
      ap (λ (l : List Bits). first l) ring_is ∙ more_first (ring_at rings i) word call.word front
  takes_first false i call t word e below front =
      let rings = (machine served t).to_server in
      ap (λ (l : List Bits). first l) (get_or-set_other rings call.channel i (ring_at rings call.channel ++ call.word ∷ []) [] (λ f. true≢false (sym (eq-eqb call.channel i (sym f)) ∙ e))) ∙ front

  settles_by : (b : Bool) (ring new : List Bits) (offer : Option Bits) (word : Bits) → new ≡ after_pop ring b → offer ≡ first ring → (if b then None else offer) ≡ Some word → first new ≡ Some word
  settles_by true ring new offer word e f is = cc
  settles_by false ring new offer word e f is = ap (λ (l : List Bits). first l) e ∙ (sym f ∙ is)

  refused_first : (i : ℕ) (t : List Act) (word : Bits) → i < c.to_server_count → refused_in c served.start i (inputs served t) ≡ Some word → first (ring_at (machine served t).to_server i) ≡ Some word
  refused_first i [] word below is = cc
  refused_first i (Settles ∷ t) word below is =
      let rings = (machine served t).to_server in
      let ready : S → Bool = λ s. slice_index_or (c.readies s (offers rings) (rooms (machine served t).to_client)) i false in
      settles_by (ready (state_after c served.start (inputs served t))) (ring_at rings i) (ring_at (machine served (Settles ∷ t)).to_server i) (slice_index_or (offers rings) i None) word
      (settled_ring_in served i t below ∙ ap (λ (s : S). after_pop (ring_at rings i) (ready s)) (state_is t)) (offers_at rings i) is
  refused_first i (Takes call ∷ t) word below is = takes_first (call.channel == i) i call t word refl below (refused_first i t word below is)
  refused_first i (act ∷ t) word below is = refused_first i t word below is

  all_keep : (t : List Act) → AllKeep c served.start (inputs served t)
  all_keep [] = tt
  all_keep (Settles ∷ t) = ((λ i word below is. offers_at (machine served t).to_server i ∙ refused_first i t word below is), all_keep t)
  all_keep (act ∷ t) = all_keep t

  -- ---- what was shown was taken

  shown_by : (offer : Option Bits) (taken passed ring : List Bits) → taken ≡ passed ++ ring → ((word : Bits) → offer ≡ Some word → first ring ≡ Some word) → Begins (passed ++ option_to_list offer) taken
  shown_by None taken passed ring e front = record { rest = ring; is = e ∙ ap (λ (l : List Bits). l ++ ring) (sym (append-nil passed)) }
  shown_by (Some word) taken passed ring e front =
      record { rest = drop 1 ring; is = e ∙ (ap (λ (l : List Bits). passed ++ l) (first_is ring word (front word refl)) ∙ sym (append_assoc passed (word ∷ []) (drop 1 ring))) }

  shown_taken : (i : ℕ) (t : List Act) → i < c.to_server_count → IsLegal served t → Begins (shown c served.start i (inputs served t)) (words_taken i t)
  shown_taken i t below legal =
      shown_by (refused_in c served.start i (inputs served t)) (words_taken i t) (passed_in c served.start i (inputs served t)) (ring_at (machine served t).to_server i)
      (in_ring served i t below legal ∙ ap (λ (l : List Bits). l ++ ring_at (machine served t).to_server i) (in_is i t)) (λ word is. refused_first i t word below is)

  module _ (flow : (ℕ → List Bits) → ℕ → List Bits) (keeps : KeepsFlow c served.start flow) where
    -- what a channel handed is a prefix of the stream function of the values taken
    pub handed_flows : (k : ℕ) (t : List Act) → k < c.to_client_count → IsLegal served t → Begins (handed_on k t) (flow (λ i. words_taken i t) k)
    handed_flows k t below legal =
        let out = passed_out c served.start k (inputs served t) in
        let of_shown = flow (λ i. shown c served.start i (inputs served t)) k in
        let handed_out : Begins (handed_on k t) out = record { rest = ring_at (machine served t).to_client k; is = sym (out_is k t below) ∙ out_ring served k t below legal } in
        begins_through (handed_on k t) of_shown (flow (λ i. words_taken i t) k)
        (begins_through (handed_on k t) out of_shown handed_out (keeps.law (inputs served t) k (all_keep t) below))
        (keeps.grows (λ i. shown c served.start i (inputs served t)) (λ i. words_taken i t) k (λ i in_range. shown_taken i t in_range legal) below)

-- what stands at the beginning of a segment of the beginning stands at that place
pub segment_front : {A : Type 0} (written to on whole : List A) (from : ℕ) → Begins written to → IsSegment on to from → Begins on whole → IsSegment whole written from
segment_front written to on whole from front segment begins = record {
  before = segment.before;
  after = front.rest ++ (segment.after ++ begins.rest);
  is = begins.is
      ∙ (ap (λ l. l ++ begins.rest) segment.is
      ∙ (append_assoc segment.before (to ++ segment.after) begins.rest
      ∙ ap (λ l. segment.before ++ l) (append_assoc to segment.after begins.rest ∙ (ap (λ l. l ++ (segment.after ++ begins.rest)) front.is ∙ append_assoc written front.rest (segment.after ++ begins.rest)))));
  place = segment.place;
}
