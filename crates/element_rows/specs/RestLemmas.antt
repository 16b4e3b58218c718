-- Nothing is missing where no channel offers a word: what came out is the whole stream of what came in.
use Rattle.std.specs.Prelude.{◌≡◌, ℕ, ◌+◌, ◌<◌, ◌≤◌, ◌&&◌, not, Bool, true, false, List, [], ◌∷◌, ◌++◌, length, map, take, replicate, if◌then◌else◌, refl}
use Rattle.std.proofs.Common.{sym, ◌∙◌, ap, arith}
use Rattle.std.proofs.lemmas.List.{append-nil, map-id}
use Rattle.std.proofs.lemmas.List.FromFn.{length-map-range_with_len}
use Rattle.element_laws.specs.Signals.{Bits, Signals, transferred, refused}
use Rattle.element_laws.specs.Histories.{Channel, transfers, offers, KeepsOffers}
use Rattle.element_laws.specs.Streams.{pairs, running}
use Rattle.element_laws.specs.Elements.{Element, input_count, output_count, stream, Contents, flag, StorageCycle}
use Rattle.element_laws.specs.Elements.Element.{stage, fifo, as_fifo, as_vr, map_by, scan_by, fork, join}
use Rattle.element_laws.specs.Laws.{IsElementRun, StorageLaw, MapLaw, AsVrLaw, ScanLaw, ForkLaw, JoinLaw}
use Rattle.element_laws.specs.SignalLemmas.{offered_none, all_transferred}
use Rattle.element_laws.specs.ElementLemmas.{each_obeys, of_output}
use Rattle.element_rows.specs.Flat.{source, channel_count, TakesEarlier, at, flow}
use Rattle.element_rows.specs.Rows.{Running, places, AreRunning, server_lists, RestIsWhole}
use Rattle.element_rows.specs.RowLemmas.{rows_follow, at_servers}
use Rattle.element_rows.specs.StreamLemmas.{add_each, count_added, channels_grow}

-- ---- one element at rest

-- a channel that offers nothing transfers and refuses nothing
silent_transfers : (s : Signals) → s.valid ≡ false → transferred s ≡ []
silent_transfers s v = ap (λ b. if b && s.ready then s.word ∷ [] else []) v

silent_refuses : (s : Signals) → s.valid ≡ false → refused s ≡ []
silent_refuses s v = ap (λ b. if b && not s.ready then s.word ∷ [] else []) v

empty_store : (words : List Bits) → take 1 words ≡ [] → words ≡ []
empty_store [] e = refl
empty_store (w ∷ words) e = absurd (cc)

-- equal lists at an element's inputs give equal streams
pub stream_same : (element : Element) (xs ys : ℕ → List Bits) → ((k : ℕ) → k < input_count element → xs k ≡ ys k) → stream element xs ≡ stream element ys
stream_same stage xs ys e = e 0 (omega arith)
stream_same (fifo depth) xs ys e = e 0 (omega arith)
stream_same as_fifo xs ys e = e 0 (omega arith)
stream_same as_vr xs ys e = e 0 (omega arith)
stream_same (map_by f) xs ys e = ap (map f) (e 0 (omega arith))
stream_same (scan_by step state) xs ys e = ap (running step state) (e 0 (omega arith))
stream_same (fork branches) xs ys e = e 0 (omega arith)
stream_same join xs ys e = ap (λ ws. pairs ws (xs 1)) (e 0 (omega arith)) ∙ ap (λ ws. pairs (ys 0) ws) (e 1 (omega arith))

module _ {C : Type 0} (before after : C → Contents) (inputs outputs : ℕ → Channel C) (cycle : C) (earlier : List C) where
  emptied : (limit : ℕ) (held left : List Bits) → StorageCycle limit held left (inputs 0 cycle) (outputs 0 cycle) → (inputs 0 cycle).valid ≡ false → (outputs 0 cycle).valid ≡ false → left ≡ []
  emptied limit held left store i o =
      let none : held ≡ [] = empty_store held (sym store.offers ∙ offered_none (outputs 0 cycle) o) in
      ap (λ ws. ws ++ left) (sym (silent_transfers (outputs 0 cycle) o)) ∙ sym store.next ∙ ap (λ ws. held ++ ws) (silent_transfers (inputs 0 cycle) i) ∙ append-nil held ∙ none

  all_out : (limit : ℕ) → StorageLaw limit (after cycle).held (inputs 0) (outputs 0) (cycle ∷ earlier) → (after cycle).held ≡ []
      → transfers (outputs 0) (cycle ∷ earlier) ≡ transfers (inputs 0) (cycle ∷ earlier)
  all_out limit law none = sym (law.words ∙ ap (λ ws. transfers (outputs 0) (cycle ∷ earlier) ++ ws) none ∙ append-nil (transfers (outputs 0) (cycle ∷ earlier)))

  pub exact : (element : Element) → IsElementRun element before after inputs outputs (cycle ∷ earlier) → ((k : ℕ) → k < input_count element → KeepsOffers (inputs k) (cycle ∷ earlier))
      → ((k : ℕ) → k < input_count element → (inputs k cycle).valid ≡ false) → ((k : ℕ) → k < output_count element → (outputs k cycle).valid ≡ false)
      → (k : ℕ) → k < output_count element → transfers (outputs k) (cycle ∷ earlier) ≡ stream element (λ j. transfers (inputs j) (cycle ∷ earlier))
  exact stage run keeps ins outs k h =
      let law : StorageLaw 2 (after cycle).held (inputs 0) (outputs 0) (cycle ∷ earlier) = (each_obeys stage before after inputs outputs (cycle ∷ earlier) run keeps).law in
      of_output (λ k. transfers (outputs k) (cycle ∷ earlier) ≡ transfers (inputs 0) (cycle ∷ earlier))
      (all_out 2 law (emptied 2 (before cycle).held (after cycle).held run.0 (ins 0 (omega arith)) (outs 0 (omega arith)))) k h
  exact (fifo depth) run keeps ins outs k h =
      let law : StorageLaw depth (after cycle).held (inputs 0) (outputs 0) (cycle ∷ earlier) = (each_obeys (fifo depth) before after inputs outputs (cycle ∷ earlier) run keeps).law in
      of_output (λ k. transfers (outputs k) (cycle ∷ earlier) ≡ transfers (inputs 0) (cycle ∷ earlier))
      (all_out depth law (emptied depth (before cycle).held (after cycle).held run.0 (ins 0 (omega arith)) (outs 0 (omega arith)))) k h
  exact as_fifo run keeps ins outs k h =
      let law : MapLaw (λ w. w) (inputs 0) (outputs 0) (cycle ∷ earlier) = (each_obeys as_fifo before after inputs outputs (cycle ∷ earlier) run keeps).law in
      of_output (λ k. transfers (outputs k) (cycle ∷ earlier) ≡ transfers (inputs 0) (cycle ∷ earlier)) (law.words ∙ map-id (transfers (inputs 0) (cycle ∷ earlier))) k h
  exact as_vr run keeps ins outs k h =
      let law : AsVrLaw (inputs 0) (outputs 0) (cycle ∷ earlier) = (each_obeys as_vr before after inputs outputs (cycle ∷ earlier) run keeps).law in
      of_output (λ k. transfers (outputs k) (cycle ∷ earlier) ≡ transfers (inputs 0) (cycle ∷ earlier)) law.words k h
  exact (map_by f) run keeps ins outs k h =
      let law : MapLaw f (inputs 0) (outputs 0) (cycle ∷ earlier) = (each_obeys (map_by f) before after inputs outputs (cycle ∷ earlier) run keeps).law in
      of_output (λ k. transfers (outputs k) (cycle ∷ earlier) ≡ map f (transfers (inputs 0) (cycle ∷ earlier))) law.words k h
  exact (scan_by step start) run keeps ins outs k h =
      let law : ScanLaw step start (after cycle).state (inputs 0) (outputs 0) (cycle ∷ earlier) = (each_obeys (scan_by step start) before after inputs outputs (cycle ∷ earlier) run keeps).law in
      of_output (λ k. transfers (outputs k) (cycle ∷ earlier) ≡ running step start (transfers (inputs 0) (cycle ∷ earlier))) law.words k h
  exact (fork branches) run keeps ins outs k h =
      let law : ForkLaw branches (flag (after cycle)) (inputs 0) outputs (cycle ∷ earlier) = (each_obeys (fork branches) before after inputs outputs (cycle ∷ earlier) run keeps).law in
      (law.branch k h).words ∙ either (flag (after cycle) k)
      (all_transferred (inputs 0) cycle earlier (silent_refuses (inputs 0 cycle) (ins 0 (omega arith))))
    where
      either : (b : Bool) → offers (inputs 0) (cycle ∷ earlier) ≡ transfers (inputs 0) (cycle ∷ earlier)
          → (if b then offers (inputs 0) (cycle ∷ earlier) else transfers (inputs 0) (cycle ∷ earlier)) ≡ transfers (inputs 0) (cycle ∷ earlier)
      either true e = e
      either false e = refl
  exact join run keeps ins outs k h =
      let law : JoinLaw (inputs 0) (inputs 1) (outputs 0) (cycle ∷ earlier) = (each_obeys join before after inputs outputs (cycle ∷ earlier) run keeps).law in
      of_output (λ k. transfers (outputs k) (cycle ∷ earlier) ≡ pairs (transfers (inputs 0) (cycle ∷ earlier)) (transfers (inputs 1) (cycle ∷ earlier))) law.words k h

-- ---- all elements at rest

module _ {C : Type 0} (channels : ℕ → Channel C) (cycle : C) (earlier : List C) where
  row_exact : (row : List (Running C)) (made : ℕ) (lists : List (List Bits)) → TakesEarlier made (places row) → AreRunning channels made row (cycle ∷ earlier) → length lists ≡ made
      → ((c : ℕ) → c < channel_count made (places row) → KeepsOffers (channels c) (cycle ∷ earlier)) → ((c : ℕ) → c < channel_count made (places row) → (channels c cycle).valid ≡ false)
      → ((c : ℕ) → c < made → transfers (channels c) (cycle ∷ earlier) ≡ at lists c)
      → (c : ℕ) → c < channel_count made (places row) → transfers (channels c) (cycle ∷ earlier) ≡ at (flow (places row) lists) c
  row_exact [] made lists takes running count keeps silent old = old
  row_exact (r ∷ row) made lists takes running count keeps silent old =
      let outputs : ℕ = output_count r.placed.element in
      let list : List Bits = stream r.placed.element (λ k. at lists (source r.placed k)) in
      let fits : made + outputs ≤ channel_count (made + outputs) (places row) = channels_grow (made + outputs) (places row) in
      row_exact row (made + outputs) (lists ++ replicate outputs list) takes.2 running.1 (count_added made outputs lists list count) keeps silent
      (add_each (λ c words. transfers (channels c) (cycle ∷ earlier) ≡ words) made outputs lists list count old
      (λ k h.
      exact r.before r.after (λ j. channels (source r.placed j)) (λ j. channels (made + j)) cycle earlier r.placed.element running.0
      (λ j b. keeps (source r.placed j) (let e : source r.placed j < made = takes.1 j b in omega arith))
      (λ j b. silent (source r.placed j) (let e : source r.placed j < made = takes.1 j b in omega arith))
      (λ j b. silent (made + j) (omega arith)) k h
      ∙ stream_same r.placed.element (λ j. transfers (channels (source r.placed j)) (cycle ∷ earlier)) (λ j. at lists (source r.placed j)) (λ j b. old (source r.placed j) (takes.1 j b))))

pub rest_is_whole : {C : Type 0} → RestIsWhole C
rest_is_whole channels servers row cycle earlier takes running keeps silent =
    row_exact channels cycle earlier row servers (server_lists (λ d. transfers (channels d) (cycle ∷ earlier)) servers) takes running
    (length-map-range_with_len (λ d. transfers (channels d) (cycle ∷ earlier)) 0 servers)
    (λ c h. (rows_follow channels servers row (cycle ∷ earlier) takes running keeps c h).keeps) silent
    (λ c h. sym (at_servers (λ d. transfers (channels d) (cycle ∷ earlier)) servers c h))
