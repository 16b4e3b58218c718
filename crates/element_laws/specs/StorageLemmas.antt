-- The law of storage: stage and fifo.
use Rattle.std.specs.Prelude.{◌≡◌, ℕ, ◌+◌, ◌≤◌, List, [], ◌∷◌, ◌++◌, length, take, drop, if◌then◌else◌, refl}
use Rattle.std.proofs.Common.{sym, ◌∙◌, ap, subst, append_assoc, arith}
use Rattle.std.proofs.lemmas.List.{length-append, take-append-drop}
use Rattle.element_laws.specs.Signals.{Bits, Signals, offered, transferred, refused}
use Rattle.element_laws.specs.Histories.{Channel, transfers, offers, KeepsOffers, reached, IsRun}
use Rattle.element_laws.specs.Streams.{IsPrefix}
use Rattle.element_laws.specs.Elements.{StorageCycle}
use Rattle.element_laws.specs.Laws.{StorageLaw}
use Rattle.element_laws.specs.SignalLemmas.{split, offers-more, keeps_by, room, transferred-is, refusal}

-- what is first stays first where more comes in behind it
pub first_stays : (words more : List Bits) (word : Bits) → take 1 words ≡ word ∷ [] → take 1 (words ++ more) ≡ word ∷ []
first_stays [] more word e = absurd (cc)
first_stays (w ∷ words) more word e = e

-- a refused offer transfers nothing
pub nothing_moved : (s : Signals) (word : Bits) → refused s ≡ word ∷ [] → transferred s ≡ []
nothing_moved s word e = transferred-is s ∙ ap (λ b. if b then offered s else []) (refusal s word e).ready

module _ {C : Type 0} (limit : ℕ) (input output : Channel C) (before after : C → List Bits) where
  abbrev pub StorageRun : List C → Type 0
  StorageRun history = IsRun (λ cycle. StorageCycle limit (before cycle) (after cycle) (input cycle) (output cycle)) before after [] history

  pub storage_words : (history : List C) → StorageRun history → transfers input history ≡ transfers output history ++ reached after [] history
  storage_words [] run = refl
  storage_words (cycle ∷ earlier) run =
      ap (λ ws. ws ++ transferred (input cycle)) (storage_words earlier run.2 ∙ ap (λ ws. transfers output earlier ++ ws) (sym run.1))
      ∙ append_assoc (transfers output earlier) (before cycle) (transferred (input cycle))
      ∙ ap (λ ws. transfers output earlier ++ ws) (run.0.next)
      ∙ sym (append_assoc (transfers output earlier) (transferred (output cycle)) (after cycle))

  pub storage_within : (history : List C) → StorageRun history → length (reached after [] history) ≤ limit
  storage_within [] run = omega arith
  storage_within (cycle ∷ earlier) run =
      let held : length (before cycle) ≤ limit = subst (λ ws. length ws ≤ limit) (sym run.1) (storage_within earlier run.2) in
      let roomy : length (before cycle) + length (transferred (input cycle)) ≤ limit = room (input cycle) (length (before cycle)) limit run.0.ready held in
      let moved : length (before cycle ++ transferred (input cycle)) ≡ length (transferred (output cycle) ++ after cycle) = ap length run.0.next in
      omega (arith, length-append (before cycle) (transferred (input cycle)), length-append (transferred (output cycle)) (after cycle))

  pub storage_law : (history : List C) → StorageRun history → StorageLaw limit (reached after [] history) input output history
  storage_law history run = record { words = storage_words history run; within = storage_within history run }

  storage_keep : (new old : C) → StorageCycle limit (before new) (after new) (input new) (output new) → StorageCycle limit (before old) (after old) (input old) (output old) → before new ≡ after old
      → (word : Bits) → refused (output old) ≡ word ∷ [] → offered (output new) ≡ word ∷ []
  storage_keep new old now was link word e =
      let still : transferred (output old) ≡ [] = nothing_moved (output old) word e in
      let left : before old ++ transferred (input old) ≡ before new = was.next ∙ ap (λ ws. ws ++ after old) still ∙ sym link in
      let shown : offered (output old) ≡ word ∷ [] = sym (split (output old)) ∙ ap (λ ws. ws ++ refused (output old)) still ∙ e in
      now.offers ∙ ap (take 1) (sym left) ∙ first_stays (before old) (transferred (input old)) word (sym was.offers ∙ shown)

  pub storage_keeps : (history : List C) → StorageRun history → KeepsOffers output history
  storage_keeps [] run = tt
  storage_keeps (new ∷ []) run = tt
  storage_keeps (new ∷ old ∷ earlier) run =
      (keeps_by (output old) (output new) (storage_keep new old run.0 run.2.0 run.1), storage_keeps (old ∷ earlier) run.2)

  pub storage_streams : (history : List C) → StorageRun history → IsPrefix (offers output history) (offers input history)
  storage_streams [] run = record { rest = []; is = refl }
  storage_streams (cycle ∷ earlier) run =
      let held : List Bits = before cycle in
      record {
        rest = drop 1 held ++ offered (input cycle);
        is =
            ap (λ ws. ws ++ (drop 1 held ++ offered (input cycle))) (offers-more output cycle earlier ∙ ap (λ ws. transfers output earlier ++ ws) run.0.offers)
            ∙ sym (append_assoc (transfers output earlier ++ take 1 held) (drop 1 held) (offered (input cycle)))
            ∙ ap (λ ws. ws ++ offered (input cycle))
            (append_assoc (transfers output earlier) (take 1 held) (drop 1 held) ∙ ap (λ ws. transfers output earlier ++ ws) (take-append-drop 1 held ∙ run.1) ∙ sym (storage_words earlier run.2))
            ∙ sym (offers-more input cycle earlier);
      }
