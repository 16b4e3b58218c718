-- The laws of elements that hold no words: map, as_fifo, as_vr and scan.
use Rattle.std.specs.Prelude.{◌≡◌, ◌&&◌, Bool, true, false, not, List, [], ◌∷◌, ◌++◌, map, if◌then◌else◌, refl}
use Rattle.std.proofs.Common.{sym, ◌∙◌, ap, subst}
use Rattle.std.proofs.lemmas.List.{map-append}
use Rattle.element_laws.specs.Signals.{Bits, Signals, is_transfer, offered, transferred, refused, KeepsOffer, ReadsHeld}
use Rattle.element_laws.specs.Histories.{Channel, transfers, offers, KeepsOffers, Always, reached, IsRun}
use Rattle.element_laws.specs.Streams.{IsPrefix, running, last_state}
use Rattle.element_laws.specs.Elements.{MapCycle, AsVrCycle, ScanCycle}
use Rattle.element_laws.specs.Laws.{MapLaw, MoveTogether, ScanLaw}
use Rattle.element_laws.specs.SignalLemmas.{offers-more, keeps_by, again, transferred-is, refused-is, same_transfers, same_refusals}

-- In one cycle the function of each word goes straight through.
pub record PassesOn (f : Bits → Bits) (input output : Signals) : Type 0 where
  pub offers : offered output ≡ map f (offered input)
  pub transfers : transferred output ≡ map f (transferred input)
  pub refusals : refused output ≡ map f (refused input)

pub map_passes : (f : Bits → Bits) (input output : Signals) → MapCycle f input output → PassesOn f input output
map_passes f input output cycle = record {
  offers = cycle.offers;
  transfers = same_transfers (map f) refl input output cycle.offers cycle.ready;
  refusals = same_refusals (map f) refl input output cycle.offers cycle.ready;
}

same_map : (words : List Bits) → words ≡ map (λ word. word) words
same_map [] = refl
same_map (word ∷ words) = ap (λ ws. word ∷ ws) (same_map words)

-- a reader that reads only where a word is there transfers what one that is always ready would
as_vr_transfers : (input output : Signals) → AsVrCycle input output → transferred output ≡ transferred input
as_vr_transfers input output cycle =
    transferred-is output ∙ ap (λ ws. if output.ready then ws else []) cycle.offers
    ∙ by_cases output.ready input.valid refl
    ∙ sym (ap (λ b. if b then offered input else []) cycle.ready) ∙ sym (transferred-is input)
  where
    by_cases : (ready valid : Bool) → input.valid ≡ valid → (if ready then offered input else []) ≡ (if ready && valid then offered input else [])
    by_cases true true v = refl
    by_cases true false v = ap (λ b. if b then input.word ∷ [] else []) v
    by_cases false true v = refl
    by_cases false false v = refl

as_vr_refusals : (input output : Signals) → AsVrCycle input output → refused output ≡ refused input
as_vr_refusals input output cycle =
    refused-is output ∙ ap (λ ws. if output.ready then [] else ws) cycle.offers
    ∙ by_cases output.ready input.valid refl
    ∙ sym (ap (λ b. if b then [] else offered input) cycle.ready) ∙ sym (refused-is input)
  where
    by_cases : (ready valid : Bool) → input.valid ≡ valid → (if ready then [] else offered input) ≡ (if ready && valid then [] else offered input)
    by_cases true true v = refl
    by_cases true false v = sym (ap (λ b. if b then input.word ∷ [] else []) v)
    by_cases false true v = refl
    by_cases false false v = refl

pub as_vr_passes : (input output : Signals) → AsVrCycle input output → PassesOn (λ word. word) input output
as_vr_passes input output cycle = record {
  offers = cycle.offers ∙ same_map (offered input);
  transfers = as_vr_transfers input output cycle ∙ same_map (transferred input);
  refusals = as_vr_refusals input output cycle ∙ same_map (refused input);
}

pub as_vr_reads : (input output : Signals) → AsVrCycle input output → ReadsHeld input
as_vr_reads input output cycle = record { valid = λ r. by_cases output.ready input.valid (sym cycle.ready ∙ r) }
  where
    by_cases : (ready valid : Bool) → (ready && valid) ≡ true → valid ≡ true
    by_cases true valid e = e
    by_cases false valid e = absurd (cc)

pub scan_passes : (step : Bits → Bits → Bits) (state after : Bits) (input output : Signals) → ScanCycle step state after input output → PassesOn (step state) input output
scan_passes step state after input output cycle = record {
  offers = cycle.offers;
  transfers = same_transfers (map (step state)) refl input output cycle.offers cycle.ready;
  refusals = same_refusals (map (step state)) refl input output cycle.offers cycle.ready;
}

-- both sides transfer in the same cycle
pub moves_together : (f : Bits → Bits) (input output : Signals) → PassesOn f input output → is_transfer input ≡ is_transfer output
moves_together f input output passes = by_cases (is_transfer input) (is_transfer output) passes.transfers
  where
    by_cases : (a b : Bool) → (if b then output.word ∷ [] else []) ≡ map f (if a then input.word ∷ [] else []) → a ≡ b
    by_cases true true e = refl
    by_cases true false e = absurd (cc)
    by_cases false true e = absurd (cc)
    by_cases false false e = refl

-- a word that is refused behind the function was refused before it
pub record Behind (f : Bits → Bits) (words : List Bits) (word : Bits) : Type 0 where
  pub first : Bits
  pub is : words ≡ first ∷ []
  pub maps : f first ≡ word

pub behind : (f : Bits → Bits) (words : List Bits) (word : Bits) → map f words ≡ word ∷ [] → Behind f words word
behind f [] word e = absurd (cc)
behind f (first ∷ []) word e = record { first = first; is = refl; maps = cc }
behind f (first ∷ second ∷ words) word e = absurd (cc)

pub passes_keep : (f : Bits → Bits) (old_in old_out new_in new_out : Signals) → PassesOn f old_in old_out → PassesOn f new_in new_out → KeepsOffer old_in new_in
    → (word : Bits) → refused old_out ≡ word ∷ [] → offered new_out ≡ word ∷ []
passes_keep f old_in old_out new_in new_out was now keeps word e =
    let b : Behind f (refused old_in) word = behind f (refused old_in) word (sym was.refusals ∙ e) in
    now.offers ∙ ap (map f) (again old_in new_in keeps b.first b.is) ∙ ap (λ w. w ∷ []) b.maps

module _ {C : Type 0} (f : Bits → Bits) (input output : Channel C) where
  abbrev pub AllPass : List C → Type 0
  AllPass history = Always (λ cycle. PassesOn f (input cycle) (output cycle)) history

  pub passed_words : (history : List C) → AllPass history → transfers output history ≡ map f (transfers input history)
  passed_words [] all = refl
  passed_words (cycle ∷ earlier) all =
      ap (λ ws. ws ++ transferred (output cycle)) (passed_words earlier all.1)
      ∙ ap (λ ws. map f (transfers input earlier) ++ ws) (all.0.transfers)
      ∙ sym (map-append f (transfers input earlier) (transferred (input cycle)))

  passed_together : (history : List C) → AllPass history → MoveTogether input output history
  passed_together [] all = tt
  passed_together (cycle ∷ earlier) all = (moves_together f (input cycle) (output cycle) all.0, passed_together earlier all.1)

  pub map_law : (history : List C) → AllPass history → MapLaw f input output history
  map_law history all = record { words = passed_words history all; together = passed_together history all }

  pub map_keeps : (history : List C) → AllPass history → KeepsOffers input history → KeepsOffers output history
  map_keeps [] all keeps = tt
  map_keeps (new ∷ []) all keeps = tt
  map_keeps (new ∷ old ∷ earlier) all keeps =
      (keeps_by (output old) (output new) (passes_keep f (input old) (output old) (input new) (output new) all.1.0 all.0 keeps.0), map_keeps (old ∷ earlier) all.1 keeps.1)

  map_offers : (history : List C) → AllPass history → offers output history ≡ map f (offers input history)
  map_offers [] all = refl
  map_offers (cycle ∷ earlier) all =
      offers-more output cycle earlier
      ∙ ap (λ ws. ws ++ offered (output cycle)) (passed_words earlier all.1)
      ∙ ap (λ ws. map f (transfers input earlier) ++ ws) (all.0.offers)
      ∙ sym (map-append f (transfers input earlier) (offered (input cycle)))
      ∙ ap (map f) (sym (offers-more input cycle earlier))

  pub map_streams : (history : List C) → AllPass history → IsPrefix (offers output history) (map f (offers input history))
  map_streams history all = record { rest = []; is = append_none (offers output history) ∙ map_offers history all }
    where
      append_none : (words : List Bits) → words ++ [] ≡ words
      append_none [] = refl
      append_none (word ∷ words) = ap (λ ws. word ∷ ws) (append_none words)

pub running-append : (step : Bits → Bits → Bits) (state : Bits) (old new : List Bits) → running step state (old ++ new) ≡ running step state old ++ running step (last_state step state old) new
running-append step state [] new = refl
running-append step state (word ∷ old) new = ap (λ ws. step state word ∷ ws) (running-append step (step state word) old new)

last_state-append : (step : Bits → Bits → Bits) (state : Bits) (old new : List Bits) → last_state step state (old ++ new) ≡ last_state step (last_state step state old) new
last_state-append step state [] new = refl
last_state-append step state (word ∷ old) new = last_state-append step (step state word) old new

-- of one word at most, the running states are the function of it
one_offered : (step : Bits → Bits → Bits) (state : Bits) (s : Signals) → map (step state) (offered s) ≡ running step state (offered s)
one_offered step state s = by_cases s.valid
  where
    by_cases : (valid : Bool) → map (step state) (if valid then s.word ∷ [] else []) ≡ running step state (if valid then s.word ∷ [] else [])
    by_cases true = refl
    by_cases false = refl

one_transferred : (step : Bits → Bits → Bits) (state : Bits) (s : Signals) → map (step state) (transferred s) ≡ running step state (transferred s)
one_transferred step state s = by_cases (is_transfer s)
  where
    by_cases : (moved : Bool) → map (step state) (if moved then s.word ∷ [] else []) ≡ running step state (if moved then s.word ∷ [] else [])
    by_cases true = refl
    by_cases false = refl

one_state : (step : Bits → Bits → Bits) (state : Bits) (s : Signals) → (if is_transfer s then step state s.word else state) ≡ last_state step state (transferred s)
one_state step state s = by_cases (is_transfer s)
  where
    by_cases : (moved : Bool) → (if moved then step state s.word else state) ≡ last_state step state (if moved then s.word ∷ [] else [])
    by_cases true = refl
    by_cases false = refl

module _ {C : Type 0} (step : Bits → Bits → Bits) (start : Bits) (input output : Channel C) (before after : C → Bits) where
  abbrev pub ScanRun : List C → Type 0
  ScanRun history = IsRun (λ cycle. ScanCycle step (before cycle) (after cycle) (input cycle) (output cycle)) before after start history

  pub scan_state : (history : List C) → ScanRun history → reached after start history ≡ last_state step start (transfers input history)
  scan_state [] run = refl
  scan_state (cycle ∷ earlier) run =
      run.0.next ∙ one_state step (before cycle) (input cycle)
      ∙ ap (λ s. last_state step s (transferred (input cycle))) (run.1 ∙ scan_state earlier run.2)
      ∙ sym (last_state-append step start (transfers input earlier) (transferred (input cycle)))

  pub scan_words : (history : List C) → ScanRun history → transfers output history ≡ running step start (transfers input history)
  scan_words [] run = refl
  scan_words (cycle ∷ earlier) run =
      ap (λ ws. ws ++ transferred (output cycle)) (scan_words earlier run.2)
      ∙ ap (λ ws. running step start (transfers input earlier) ++ ws)
      ((scan_passes step (before cycle) (after cycle) (input cycle) (output cycle) run.0).transfers
      ∙ one_transferred step (before cycle) (input cycle)
      ∙ ap (λ s. running step s (transferred (input cycle))) (run.1 ∙ scan_state earlier run.2))
      ∙ sym (running-append step start (transfers input earlier) (transferred (input cycle)))

  scan_together : (history : List C) → ScanRun history → MoveTogether input output history
  scan_together [] run = tt
  scan_together (cycle ∷ earlier) run =
      (moves_together (step (before cycle)) (input cycle) (output cycle) (scan_passes step (before cycle) (after cycle) (input cycle) (output cycle) run.0), scan_together earlier run.2)

  pub scan_law : (history : List C) → ScanRun history → ScanLaw step start (reached after start history) input output history
  scan_law history run = record { words = scan_words history run; last = scan_state history run; together = scan_together history run }

  -- while the output refuses, the state stays
  state_stays : (old : C) → ScanCycle step (before old) (after old) (input old) (output old) → (word : Bits) → refused (output old) ≡ word ∷ [] → after old ≡ before old
  state_stays old was word e =
      let b : Behind (step (before old)) (refused (input old)) word =
      behind (step (before old)) (refused (input old)) word (sym (scan_passes step (before old) (after old) (input old) (output old) was).refusals ∙ e) in
      was.next ∙ by_cases (input old).valid (input old).ready b.first b.is
    where
      by_cases : (valid ready : Bool) (first : Bits) → (if valid && not ready then (input old).word ∷ [] else []) ≡ first ∷ []
          → (if valid && ready then step (before old) (input old).word else before old) ≡ before old
      by_cases true true first e = absurd (cc)
      by_cases true false first e = refl
      by_cases false ready first e = refl

  scan_keep : (new old : C) → ScanCycle step (before new) (after new) (input new) (output new) → ScanCycle step (before old) (after old) (input old) (output old) → before new ≡ after old
      → KeepsOffer (input old) (input new) → (word : Bits) → refused (output old) ≡ word ∷ [] → offered (output new) ≡ word ∷ []
  scan_keep new old now was link keeps word e =
      let same : before old ≡ before new = sym (link ∙ state_stays old was word e) in
      let on : PassesOn (step (before new)) (input old) (output old) = subst (λ s. PassesOn (step s) (input old) (output old)) same (scan_passes step (before old) (after old) (input old) (output old) was) in
      passes_keep (step (before new)) (input old) (output old) (input new) (output new) on (scan_passes step (before new) (after new) (input new) (output new) now) keeps word e

  pub scan_keeps : (history : List C) → ScanRun history → KeepsOffers input history → KeepsOffers output history
  scan_keeps [] run keeps = tt
  scan_keeps (new ∷ []) run keeps = tt
  scan_keeps (new ∷ old ∷ earlier) run keeps =
      (keeps_by (output old) (output new) (scan_keep new old run.0 run.2.0 run.1 keeps.0), scan_keeps (old ∷ earlier) run.2 keeps.1)

  scan_offers : (history : List C) → ScanRun history → offers output history ≡ running step start (offers input history)
  scan_offers [] run = refl
  scan_offers (cycle ∷ earlier) run =
      offers-more output cycle earlier
      ∙ ap (λ ws. ws ++ offered (output cycle)) (scan_words earlier run.2)
      ∙ ap (λ ws. running step start (transfers input earlier) ++ ws)
      (run.0.offers ∙ one_offered step (before cycle) (input cycle) ∙ ap (λ s. running step s (offered (input cycle))) (run.1 ∙ scan_state earlier run.2))
      ∙ sym (running-append step start (transfers input earlier) (offered (input cycle)))
      ∙ ap (running step start) (sym (offers-more input cycle earlier))

  pub scan_streams : (history : List C) → ScanRun history → IsPrefix (offers output history) (running step start (offers input history))
  scan_streams history run = record { rest = []; is = append_none (offers output history) ∙ scan_offers history run }
    where
      append_none : (words : List Bits) → words ++ [] ≡ words
      append_none [] = refl
      append_none (word ∷ words) = ap (λ ws. word ∷ ws) (append_none words)
