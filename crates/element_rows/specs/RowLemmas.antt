-- A row of elements gives a prefix of the design's stream function, and keeps refused offers.
use Rattle.std.specs.Prelude.{◌≡◌, ℕ, ◌+◌, ◌<◌, List, [], ◌∷◌, ◌++◌, length, replicate}
use Rattle.std.proofs.Common.{sym, arith}
use Rattle.std.proofs.lemmas.List.FromFn.{length-map-range_with_len, get_or-map-range_with_len}
use Rattle.element_laws.specs.Signals.{Bits}
use Rattle.element_laws.specs.Histories.{Channel, transfers, offers, KeepsOffers, reached}
use Rattle.element_laws.specs.Streams.{IsPrefix}
use Rattle.element_laws.specs.Elements.{output_count, stream, reset}
use Rattle.element_laws.specs.Laws.{Obeys}
use Rattle.element_laws.specs.SignalLemmas.{transfers_begin}
use Rattle.element_laws.specs.ElementLemmas.{each_obeys}
use Rattle.element_rows.specs.Flat.{source, channel_count, TakesEarlier, at, flow}
use Rattle.element_rows.specs.Rows.{Running, places, AreRunning, server_lists, RowsFollow}
use Rattle.element_rows.specs.StreamLemmas.{prefix_trans, prefix_same, stream_grows, add_each, count_added}

module _ {C : Type 0} (channels : ℕ → Channel C) (history : List C) where
  -- of one channel, against this list
  pub record FollowsList (channel : ℕ) (list : List Bits) : Type 0 where
    pub keeps : KeepsOffers (channels channel) history
    pub begins : IsPrefix (offers (channels channel) history) list

  pub row_follows : (row : List (Running C)) (made : ℕ) (lists : List (List Bits)) → TakesEarlier made (places row) → AreRunning channels made row history → length lists ≡ made
      → ((c : ℕ) → c < made → FollowsList c (at lists c)) → (c : ℕ) → c < channel_count made (places row) → FollowsList c (at (flow (places row) lists) c)
  row_follows [] made lists earlier running count old = old
  row_follows (r ∷ row) made lists earlier running count old =
      let outputs : ℕ = output_count r.placed.element in
      let list : List Bits = stream r.placed.element (λ k. at lists (source r.placed k)) in
      let obeys : Obeys r.placed.element (reached r.after (reset r.placed.element) history) (λ k. channels (source r.placed k)) (λ k. channels (made + k)) history =
      each_obeys r.placed.element r.before r.after (λ k. channels (source r.placed k)) (λ k. channels (made + k)) history running.0
      (λ k h. (old (source r.placed k) (earlier.1 k h)).keeps) in
      row_follows row (made + outputs) (lists ++ replicate outputs list) earlier.2 running.1 (count_added made outputs lists list count)
      (add_each FollowsList made outputs lists list count old
      (λ k h. record {
        keeps = obeys.keeps k h;
        begins =
            prefix_trans (offers (channels (made + k)) history) (stream r.placed.element (λ j. offers (channels (source r.placed j)) history)) list (obeys.streams k h)
            (stream_grows r.placed.element (λ j. offers (channels (source r.placed j)) history) (λ j. at lists (source r.placed j)) (λ j b. (old (source r.placed j) (earlier.1 j b)).begins));
      }))

pub at_servers : (list : ℕ → List Bits) (servers c : ℕ) → c < servers → at (server_lists list servers) c ≡ list c
at_servers list servers c h = get_or-map-range_with_len list 0 servers c c [] h (omega arith)

pub rows_follow : {C : Type 0} → RowsFollow C
rows_follow channels servers row history earlier running keeps channel h =
    let lists : List (List Bits) = server_lists (λ c. offers (channels c) history) servers in
    let follows : FollowsList channels history channel (at (flow (places row) lists) channel) =
    row_follows channels history row servers lists earlier running (length-map-range_with_len (λ c. offers (channels c) history) 0 servers)
    (λ c b. record { keeps = keeps c b; begins = prefix_same (offers (channels c) history) (at lists c) (sym (at_servers (λ d. offers (channels d) history) servers c b)) })
    channel h in
    record {
      keeps = follows.keeps;
      offers_begin = follows.begins;
      transfers_begin = prefix_trans (transfers (channels channel) history) (offers (channels channel) history) (at (flow (places row) lists) channel) (transfers_begin (channels channel) history) follows.begins;
    }
