-- What is handed is a beginning of the stream of what is taken.
use Rattle.std.specs.Prelude.{◌≡◌, ℕ, zero, suc, ◌+◌, ◌<◌, ◌≤◌, List, [], ◌∷◌, ◌++◌, map, take, refl}
use Rattle.std.specs.List.{range_with_len}
use Rattle.std.proofs.Common.{sym, ◌∙◌, ap, arith, append_assoc, append-nil}
use Rattle.std.proofs.lemmas.List.FromFn.{length-map-range_with_len}
use Rattle.element_laws.specs.Signals.{Bits, transferred}
use Rattle.element_laws.specs.Histories.{Channel, transfers, offers}
use Rattle.element_laws.specs.SignalLemmas.{offers-more}
use Rattle.element_laws.specs.Streams.{IsPrefix}
use Rattle.element_rows.specs.Flat.{at, flow}
use Rattle.element_rows.specs.RowLemmas.{at_servers, rows_follow}
use Rattle.element_rows.specs.Rows.{Follows, places, server_lists}
use Rattle.element_rows.specs.StreamLemmas.{prefix_trans, prefix_same, flow_grows}
use Rattle.element_load.specs.RingLemmas.{rings_keep}
use Rattle.element_load.specs.Rings.{IsRing}
use Rattle.session_runs.specs.Words.{held_by, all_of, IsServed, IsHanded, HandedIsPrefix, HandedIsWhole}

joined : (all went held taken ring : List Bits) → all ≡ went ++ held → ring ≡ held ++ taken → all ++ taken ≡ went ++ ring
joined all went held taken ring e r = ap (λ ws. ws ++ taken) e ∙ append_assoc went held taken ∙ ap (λ ws. went ++ ws) (sym r)

front_begins : (went ring : List Bits) → IsPrefix (went ++ take 1 ring) (went ++ ring)
front_begins went [] = record { rest = []; is = append-nil (went ++ []) }
front_begins went (word ∷ ring) = record { rest = ring; is = append_assoc went (word ∷ []) ring }

module _ {C : Type 0} (channel : Channel C) where
  -- ---- a to-server channel

  module _ (taken ring left : C → List Bits) where
    pub served_ring : (history : List C) → IsServed channel taken ring left history → IsRing channel ring left history
    served_ring [] served = tt
    served_ring (cycle ∷ []) served = served.0
    served_ring (cycle ∷ old ∷ earlier) served = (served.0, record { rest = taken cycle; is = sym served.1 }, served_ring (old ∷ earlier) served.2)

    -- what was taken has gone in, or stands in the ring
    taken_is : (history : List C) → IsServed channel taken ring left history → all_of taken history ≡ transfers channel history ++ held_by left history
    taken_is [] served = refl
    taken_is (cycle ∷ earlier) served =
        joined (all_of taken earlier) (transfers channel earlier) (held_by left earlier) (taken cycle) (ring cycle) (taken_is earlier served.2) served.1 ∙ ap (λ ws. transfers channel earlier ++ ws) served.0.loses
        ∙ sym (append_assoc (transfers channel earlier) (transferred (channel cycle)) (left cycle))

    offers_taken : (history : List C) → IsServed channel taken ring left history → IsPrefix (offers channel history) (all_of taken history)
    offers_taken [] served = prefix_same [] [] refl
    offers_taken (cycle ∷ earlier) served =
        let went : List Bits = transfers channel earlier in
        let all : all_of taken (cycle ∷ earlier) ≡ went ++ ring cycle = joined (all_of taken earlier) went (held_by left earlier) (taken cycle) (ring cycle) (taken_is earlier served.2) served.1 in
        prefix_trans (offers channel (cycle ∷ earlier)) (went ++ take 1 (ring cycle)) (all_of taken (cycle ∷ earlier))
        (prefix_same (offers channel (cycle ∷ earlier)) (went ++ take 1 (ring cycle)) (offers-more channel cycle earlier ∙ ap (λ ws. went ++ ws) served.0.offers))
        (prefix_trans (went ++ take 1 (ring cycle)) (went ++ ring cycle) (all_of taken (cycle ∷ earlier)) (front_begins went (ring cycle)) (prefix_same (went ++ ring cycle) (all_of taken (cycle ∷ earlier)) (sym all)))

  -- ---- a to-client channel

  handed_is : (handed out : C → List Bits) (history : List C) → IsHanded channel handed out history → transfers channel history ≡ all_of handed history ++ held_by out history
  handed_is handed out [] is = refl
  handed_is handed out (cycle ∷ earlier) is =
      ap (λ ws. ws ++ transferred (channel cycle)) (handed_is handed out earlier is.1) ∙ append_assoc (all_of handed earlier) (held_by out earlier) (transferred (channel cycle))
      ∙ ap (λ ws. all_of handed earlier ++ ws) is.0
      ∙ sym (append_assoc (all_of handed earlier) (handed cycle) (out cycle))

pub handed_is_prefix : {C : Type 0} → HandedIsPrefix C
handed_is_prefix channels servers row words history earlier running served channel below handed =
    let offer_lists : List (List Bits) = server_lists (λ c. offers (channels c) history) servers in
    let taken_lists : List (List Bits) = server_lists (λ c. all_of (words.taken c) history) servers in
    let follows : Follows channels servers (places row) history channel =
    rows_follow channels servers row history earlier running (λ c lt. rings_keep (channels c) (words.ring c) (words.left c) history (served_ring (channels c) (words.taken c) (words.ring c) (words.left c) history (served c lt))) channel below in
    let each : (c : ℕ) → c < servers → IsPrefix (at offer_lists c) (at taken_lists c) = λ c lt.
    prefix_trans (at offer_lists c) (offers (channels c) history) (at taken_lists c) (prefix_same (at offer_lists c) (offers (channels c) history) (at_servers (λ d. offers (channels d) history) servers c lt))
    (prefix_trans (offers (channels c) history) (all_of (words.taken c) history) (at taken_lists c) (offers_taken (channels c) (words.taken c) (words.ring c) (words.left c) history (served c lt))
    (prefix_same (all_of (words.taken c) history) (at taken_lists c) (sym (at_servers (λ d. all_of (words.taken d) history) servers c lt)))) in
    let grows : IsPrefix (at (flow (places row) offer_lists) channel) (at (flow (places row) taken_lists) channel) =
    flow_grows (places row) servers offer_lists taken_lists earlier (length-map-range_with_len (λ c. offers (channels c) history) 0 servers) (length-map-range_with_len (λ c. all_of (words.taken c) history) 0 servers) each channel below in
    let out : IsPrefix (all_of (words.handed channel) history) (transfers (channels channel) history) = record {
      rest = held_by (words.out channel) history;
      is = sym (handed_is (channels channel) (words.handed channel) (words.out channel) history handed);
    } in
    prefix_trans (all_of (words.handed channel) history) (transfers (channels channel) history) (at (flow (places row) taken_lists) channel) out
    (prefix_trans (transfers (channels channel) history) (at (flow (places row) offer_lists) channel) (at (flow (places row) taken_lists) channel) follows.transfers_begin grows)

-- ---- all of it

same_map : (f g : ℕ → List Bits) (a n : ℕ) → ((c : ℕ) → a ≤ c → c < a + n → f c ≡ g c) → map f (range_with_len a n) ≡ map g (range_with_len a n)
same_map f g a zero e = refl
same_map f g a (suc n) e =
    ap (λ ws. ws ∷ map f (range_with_len (a + 1) n)) (e a (omega arith) (omega arith))
    ∙ ap (λ lists. g a ∷ lists) (same_map f g (a + 1) n (λ c low high. e c (omega (arith, low)) (omega (arith, high))))

same_lists : (f g : ℕ → List Bits) (servers : ℕ) → ((c : ℕ) → c < servers → f c ≡ g c) → server_lists f servers ≡ server_lists g servers
same_lists f g servers e = same_map f g 0 servers (λ c low high. e c (omega (arith, high)))

pub handed_is_whole : {C : Type 0} → HandedIsWhole C
handed_is_whole channels servers row words history served none_left channel handed none_out whole =
    let went : (c : ℕ) → c < servers → transfers (channels c) history ≡ all_of (words.taken c) history = λ c lt.
    sym
    (taken_is (channels c) (words.taken c) (words.ring c) (words.left c) history (served c lt) ∙ ap (λ ws. transfers (channels c) history ++ ws) (none_left c lt) ∙ append-nil (transfers (channels c) history)) in
    let came : transfers (channels channel) history ≡ all_of (words.handed channel) history =
    handed_is (channels channel) (words.handed channel) (words.out channel) history handed ∙ ap (λ ws. all_of (words.handed channel) history ++ ws) none_out ∙ append-nil (all_of (words.handed channel) history) in
    sym came ∙ whole
    ∙ ap (λ (lists : List (List Bits)). at (flow (places row) lists) channel) (same_lists (λ d. transfers (channels d) history) (λ c. all_of (words.taken c) history) servers went)
