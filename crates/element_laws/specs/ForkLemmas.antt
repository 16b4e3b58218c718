-- The law of a fork, branch by branch.
use Rattle.std.specs.Prelude.{◌≡◌, ℕ, zero, suc, ◌<◌, ◌&&◌, ◌||◌, Bool, true, false, not, List, [], ◌∷◌, ◌++◌, if◌then◌else◌, refl}
use Rattle.std.proofs.Common.{sym, ◌∙◌, ap, arith, inl, inr, ◌⊎◌}
use Rattle.std.proofs.lemmas.List.{append-nil}
use Rattle.element_laws.specs.Signals.{Bits, Signals, is_transfer, offered, transferred, refused, KeepsOffer}
use Rattle.element_laws.specs.Histories.{Channel, transfers, last_refused, offers, KeepsOffers, reached, IsRun}
use Rattle.element_laws.specs.Streams.{IsPrefix}
use Rattle.element_laws.specs.Elements.{BranchCycle, ForkCycle, every}
use Rattle.element_laws.specs.Laws.{BranchLaw}
use Rattle.element_laws.specs.SignalLemmas.{offers-more, all_transferred, keeps_by, again, refused-is, IsRefused, refusal, offered_valid}

-- the test holds of each branch that `every` speaks of
pub every_each : (test : ℕ → Bool) (count k : ℕ) → every test count ≡ true → k < count → test k ≡ true
every_each test zero k e h = absurd (omega arith)
every_each test (suc count) k e h = elim (lower k count h) [ inl before ↦ every_each test count k (left (every test count) (test count) e) before | inr here ↦ ap test here ∙ right (every test count) (test count) e ]
  where
    left : (a b : Bool) → (a && b) ≡ true → a ≡ true
    left true b e = refl
    left false b e = e

    right : (a b : Bool) → (a && b) ≡ true → b ≡ true
    right true b e = e
    right false b e = absurd (cc)

    lower : (k count : ℕ) → k < suc count → (k < count) ⊎ (k ≡ count)
    lower k count h = grind arith

pub each_every : (test : ℕ → Bool) (count : ℕ) → ((k : ℕ) → k < count → test k ≡ true) → every test count ≡ true
each_every test zero each = refl
each_every test (suc count) each =
    ap (λ b. b && test count) (each_every test count (λ k h. each k (omega arith))) ∙ each count (omega arith)

-- A branch beside the others: where the input is ready, the branch has had the word or takes it.
pub record BranchAmong (served after : Bool) (input output : Signals) : Type 0 where
  pub own : BranchCycle served after input output
  pub met : input.ready ≡ true → (served || output.ready) ≡ true

pub branch_among : (branches : ℕ) (served after : ℕ → Bool) (input : Signals) (outputs : ℕ → Signals) → ForkCycle branches served after input outputs
    → (k : ℕ) → k < branches → BranchAmong (served k) (after k) input (outputs k)
branch_among branches served after input outputs cycle k h = record {
  own = cycle.branch k h;
  met = λ ready. every_each (λ j. served j || (outputs j).ready) branches k (sym cycle.ready ∙ ready) h;
}

-- where the branch has had the word behind a cycle, the input refused it in that cycle or before
pub after_served : (served after : Bool) (input output : Signals) → BranchCycle served after input output → after ≡ true → is_transfer input ≡ false
after_served served after input output cycle e = by_cases (is_transfer input) (served || is_transfer output) (sym cycle.next ∙ e)
  where
    by_cases : (moved kept : Bool) → (not moved && kept) ≡ true → moved ≡ false
    by_cases true kept e = absurd (cc)
    by_cases false kept e = refl

pub after_unserved : (served after : Bool) (input output : Signals) → BranchCycle served after input output → is_transfer input ≡ false → after ≡ (served || is_transfer output)
after_unserved served after input output cycle e = cycle.next ∙ ap (λ b. not b && (served || is_transfer output)) e

-- where the input takes its word, the branch refuses nothing
moved_refuses : (served after : Bool) (input output : Signals) → BranchAmong served after input output → is_transfer input ≡ true → refused output ≡ []
moved_refuses served after input output branch e =
    refused-is output ∙ ap (λ ws. if output.ready then [] else ws) branch.own.offers
    ∙ by_cases served output.ready (branch.met (ready_of input.valid input.ready e))
  where
    ready_of : (valid ready : Bool) → (valid && ready) ≡ true → ready ≡ true
    ready_of true ready e = e
    ready_of false ready e = absurd (cc)

    by_cases : (had ready : Bool) → (had || ready) ≡ true → (if ready then [] else (if had then [] else offered input)) ≡ []
    by_cases true true e = refl
    by_cases true false e = refl
    by_cases false true e = refl
    by_cases false false e = absurd (cc)

-- where the flag stands behind a cycle, the branch refused nothing in it
served_refuses : (served after : Bool) (input output : Signals) → BranchAmong served after input output → after ≡ true → refused output ≡ []
served_refuses served after input output branch e =
    refused-is output ∙ ap (λ ws. if output.ready then [] else ws) branch.own.offers
    ∙ by_cases (is_transfer input) served output.valid output.ready (sym branch.own.next ∙ e)
  where
    by_cases : (moved had valid ready : Bool) → (not moved && (had || (valid && ready))) ≡ true → (if ready then [] else (if had then [] else offered input)) ≡ []
    by_cases true had valid ready e = absurd (cc)
    by_cases false true valid true e = refl
    by_cases false true valid false e = refl
    by_cases false false valid true e = refl
    by_cases false false true false e = absurd (cc)
    by_cases false false false false e = absurd (cc)

-- where it does not stand and the input took nothing, the branch had not had the word and took nothing
pub record Untouched (served : Bool) (output : Signals) : Type 0 where
  pub unserved : served ≡ false
  pub nothing : transferred output ≡ []

unserved_nothing : (served after : Bool) (input output : Signals) → BranchCycle served after input output → after ≡ false → is_transfer input ≡ false → Untouched served output
unserved_nothing served after input output branch e still = by_cases (is_transfer input) served (is_transfer output) still refl refl (sym branch.next ∙ e)
  where
    by_cases : (moved had out : Bool) → moved ≡ false → served ≡ had → is_transfer output ≡ out → (not moved && (had || out)) ≡ false → Untouched served output
    by_cases true had out s a b e = absurd (cc)
    by_cases false true out s a b e = absurd (cc)
    by_cases false false true s a b e = absurd (cc)
    by_cases false false false s a b e = record { unserved = a; nothing = ap (λ m. if m then output.word ∷ [] else []) b }

no_transfer : (s : Signals) → is_transfer s ≡ false → transferred s ≡ []
no_transfer s e = ap (λ m. if m then s.word ∷ [] else []) e

-- a word that is offered and not taken is refused
offered_still : (s : Signals) (word : Bits) → offered s ≡ word ∷ [] → is_transfer s ≡ false → refused s ≡ word ∷ []
offered_still s word e still = by_cases s.valid s.ready e still
  where
    by_cases : (valid ready : Bool) → (if valid then s.word ∷ [] else []) ≡ word ∷ [] → (valid && ready) ≡ false → (if valid && not ready then s.word ∷ [] else []) ≡ word ∷ []
    by_cases true true e still = absurd (cc)
    by_cases true false e still = e
    by_cases false ready e still = absurd (cc)

taken_refuses : (s : Signals) → is_transfer s ≡ true → refused s ≡ []
taken_refuses s e = by_cases s.valid s.ready e
  where
    by_cases : (valid ready : Bool) → (valid && ready) ≡ true → (if valid && not ready then s.word ∷ [] else []) ≡ []
    by_cases true true e = refl
    by_cases true false e = absurd (cc)
    by_cases false ready e = absurd (cc)

pub offers-refused : {C : Type 0} (channel : Channel C) (history : List C) → offers channel history ≡ transfers channel history ++ last_refused channel history
offers-refused channel [] = refl
offers-refused channel (cycle ∷ before) = refl

pub record One (words : List Bits) : Type 0 where
  pub word : Bits
  pub is : words ≡ word ∷ []

-- a word that was refused in the cycle before is offered in this one
pub offered_again : {C : Type 0} (channel : Channel C) (cycle : C) (before : List C) → KeepsOffers channel (cycle ∷ before) → (one : One (last_refused channel before)) → offered (channel cycle) ≡ one.word ∷ []
offered_again channel cycle [] keeps one = absurd (empty one.is)
  where
    empty : {w : Bits} → [] ≡ w ∷ [] → ⊥
    empty e = cc
offered_again channel cycle (old ∷ before) keeps one = again (channel old) (channel cycle) keeps.0 one.word one.is

pub earlier_keeps : {C : Type 0} (channel : Channel C) (cycle : C) (before : List C) → KeepsOffers channel (cycle ∷ before) → KeepsOffers channel before
earlier_keeps channel cycle [] keeps = tt
earlier_keeps channel cycle (old ∷ before) keeps = keeps.1

-- what a branch offers where it has not had the word is what the input offers
valid_alike : (served after : Bool) (input output : Signals) → BranchCycle served after input output → served ≡ false → is_transfer output ≡ true → One (offered input)
valid_alike served after input output branch unserved moved =
    record { word = output.word; is = sym (ap (λ had. if had then [] else offered input) unserved) ∙ sym branch.offers ∙ by_cases output.valid output.ready moved }
  where
    by_cases : (valid ready : Bool) → (valid && ready) ≡ true → (if valid then output.word ∷ [] else []) ≡ output.word ∷ []
    by_cases true ready e = refl
    by_cases false ready e = absurd (cc)

module _ {C : Type 0} (input output : Channel C) (before after : C → Bool) where
  abbrev pub BranchRun : List C → Type 0
  BranchRun history = IsRun (λ cycle. BranchAmong (before cycle) (after cycle) (input cycle) (output cycle)) before after false history

  -- where the flag stands behind a cycle, the input refused a word in it
  waits_more : (cycle : C) → BranchAmong (before cycle) (after cycle) (input cycle) (output cycle) → (before cycle ≡ true → One (offered (input cycle)))
      → after cycle ≡ true → One (refused (input cycle))
  waits_more cycle branch waits e =
      let still : is_transfer (input cycle) ≡ false = after_served (before cycle) (after cycle) (input cycle) (output cycle) branch.own e in
      let one : One (offered (input cycle)) = by_cases (before cycle) (is_transfer (output cycle)) refl refl (sym (after_unserved (before cycle) (after cycle) (input cycle) (output cycle) branch.own still) ∙ e) in
      record { word = one.word; is = offered_still (input cycle) one.word one.is still }
    where
      by_cases : (had moved : Bool) → before cycle ≡ had → is_transfer (output cycle) ≡ moved → (had || moved) ≡ true → One (offered (input cycle))
      by_cases true moved b m e = waits b
      by_cases false true b m e = valid_alike (before cycle) (after cycle) (input cycle) (output cycle) branch.own b m
      by_cases false false b m e = absurd (cc)

  again_offered : (cycle : C) (earlier : List C) → KeepsOffers input (cycle ∷ earlier) → One (last_refused input earlier) → One (offered (input cycle))
  again_offered cycle earlier keeps one = record { word = one.word; is = offered_again input cycle earlier keeps one }

  -- where the flag stands, the input refused a word in the newest cycle
  pub flag_waits : (history : List C) → BranchRun history → KeepsOffers input history → reached after false history ≡ true → One (last_refused input history)
  flag_waits [] run keeps e = absurd (cc)
  flag_waits (cycle ∷ earlier) run keeps e =
      waits_more cycle run.0 (λ b. again_offered cycle earlier keeps (flag_waits earlier run.2 (earlier_keeps input cycle earlier keeps) (sym run.1 ∙ b))) e

  -- so it is offered again: where a branch has had the word at the start of a cycle, the input is valid
  pub flag_valid : (cycle : C) (earlier : List C) → BranchRun (cycle ∷ earlier) → KeepsOffers input (cycle ∷ earlier) → before cycle ≡ true → One (offered (input cycle))
  flag_valid cycle earlier run keeps b =
      again_offered cycle earlier keeps (flag_waits earlier run.2 (earlier_keeps input cycle earlier keeps) (sym run.1 ∙ b))

  -- Of one cycle: from what went out before it to what the branch has offered with it.
  offers_step : (cycle : C) (earlier : List C) → BranchRun (cycle ∷ earlier) → KeepsOffers input (cycle ∷ earlier)
      → transfers output earlier ≡ (if before cycle then offers input earlier else transfers input earlier) → offers output (cycle ∷ earlier) ≡ offers input (cycle ∷ earlier)
  offers_step cycle earlier run keeps words =
      offers-more output cycle earlier ∙ by_cases (before cycle) refl ∙ sym (offers-more input cycle earlier)
    where
      by_cases : (had : Bool) → before cycle ≡ had → transfers output earlier ++ offered (output cycle) ≡ transfers input earlier ++ offered (input cycle)
      by_cases true b =
          let one : One (last_refused input earlier) = flag_waits earlier run.2 (earlier_keeps input cycle earlier keeps) (sym run.1 ∙ b) in
          ap (λ ws. transfers output earlier ++ ws) (run.0.own.offers ∙ ap (λ had. if had then [] else offered (input cycle)) b)
          ∙ append-nil (transfers output earlier)
          ∙ words ∙ ap (λ had. if had then offers input earlier else transfers input earlier) b
          ∙ offers-refused input earlier
          ∙ ap (λ ws. transfers input earlier ++ ws) (one.is ∙ sym (offered_again input cycle earlier keeps one))
      by_cases false b =
          ap (λ ws. ws ++ offered (output cycle)) (words ∙ ap (λ had. if had then offers input earlier else transfers input earlier) b)
          ∙ ap (λ ws. transfers input earlier ++ ws) (run.0.own.offers ∙ ap (λ had. if had then [] else offered (input cycle)) b)

  words_step : (cycle : C) (earlier : List C) → BranchRun (cycle ∷ earlier)
      → transfers output earlier ≡ (if before cycle then offers input earlier else transfers input earlier) → offers output (cycle ∷ earlier) ≡ offers input (cycle ∷ earlier)
      → transfers output (cycle ∷ earlier) ≡ (if after cycle then offers input (cycle ∷ earlier) else transfers input (cycle ∷ earlier))
  words_step cycle earlier run words shown = by_cases (after cycle) (is_transfer (input cycle)) refl refl
    where
      all : refused (output cycle) ≡ [] → transfers output (cycle ∷ earlier) ≡ offers input (cycle ∷ earlier)
      all none = sym (all_transferred output cycle earlier none) ∙ shown

      now : Bool → List Bits
      now had = if had then offers input (cycle ∷ earlier) else transfers input (cycle ∷ earlier)

      by_cases : (served moved : Bool) → after cycle ≡ served → is_transfer (input cycle) ≡ moved
          → transfers output (cycle ∷ earlier) ≡ (if after cycle then offers input (cycle ∷ earlier) else transfers input (cycle ∷ earlier))
      by_cases true moved a m =
          all (served_refuses (before cycle) (after cycle) (input cycle) (output cycle) run.0 a)
          ∙ sym (ap (λ had. if had then offers input (cycle ∷ earlier) else transfers input (cycle ∷ earlier)) a)
      by_cases false true a m =
          all (moved_refuses (before cycle) (after cycle) (input cycle) (output cycle) run.0 m)
          ∙ all_transferred input cycle earlier (taken_refuses (input cycle) m)
          ∙ sym (ap (λ had. if had then offers input (cycle ∷ earlier) else transfers input (cycle ∷ earlier)) a)
      by_cases false false a m =
          let u : Untouched (before cycle) (output cycle) = unserved_nothing (before cycle) (after cycle) (input cycle) (output cycle) run.0.own a m in
          ap (λ ws. transfers output earlier ++ ws) u.nothing ∙ append-nil (transfers output earlier)
          ∙ words ∙ ap (λ had. if had then offers input earlier else transfers input earlier) u.unserved
          ∙ sym (append-nil (transfers input earlier)) ∙ sym (ap (λ ws. transfers input earlier ++ ws) (no_transfer (input cycle) m))
          ∙ sym (ap (λ had. if had then offers input (cycle ∷ earlier) else transfers input (cycle ∷ earlier)) a)

  pub branch_words : (history : List C) → BranchRun history → KeepsOffers input history
      → transfers output history ≡ (if reached after false history then offers input history else transfers input history)
  branch_words [] run keeps = refl
  branch_words (cycle ∷ earlier) run keeps =
      let words : transfers output earlier ≡ (if before cycle then offers input earlier else transfers input earlier) =
      branch_words earlier run.2 (earlier_keeps input cycle earlier keeps) ∙ ap (λ had. if had then offers input earlier else transfers input earlier) (sym run.1) in
      words_step cycle earlier run words (offers_step cycle earlier run keeps words)

  pub branch_law : (history : List C) → BranchRun history → KeepsOffers input history → BranchLaw (reached after false history) input output history
  branch_law history run keeps = record { words = branch_words history run keeps }

  pub branch_offers : (history : List C) → BranchRun history → KeepsOffers input history → offers output history ≡ offers input history
  branch_offers [] run keeps = refl
  branch_offers (cycle ∷ earlier) run keeps =
      offers_step cycle earlier run keeps
      (branch_words earlier run.2 (earlier_keeps input cycle earlier keeps) ∙ ap (λ had. if had then offers input earlier else transfers input earlier) (sym run.1))

  pub branch_streams : (history : List C) → BranchRun history → KeepsOffers input history → IsPrefix (offers output history) (offers input history)
  branch_streams history run keeps = record { rest = []; is = append-nil (offers output history) ∙ branch_offers history run keeps }

  branch_keep : (new old : C) → BranchAmong (before new) (after new) (input new) (output new) → BranchAmong (before old) (after old) (input old) (output old) → before new ≡ after old
      → KeepsOffer (input old) (input new) → (word : Bits) → refused (output old) ≡ word ∷ [] → offered (output new) ≡ word ∷ []
  branch_keep new old now was link keeps word e =
      let r : IsRefused (output old) word = refusal (output old) word e in
      let shown : offered (output old) ≡ word ∷ [] = offered_valid (output old) r.valid ∙ ap (λ w. w ∷ []) r.same in
      let unserved : before old ≡ false = unserved_by (before old) (offered (input old)) word (sym was.own.offers ∙ shown) in
      let waits : offered (input old) ≡ word ∷ [] = sym (ap (λ had. if had then [] else offered (input old)) unserved) ∙ sym was.own.offers ∙ shown in
      let still : is_transfer (input old) ≡ false = untaken (is_transfer (input old)) (λ m. sym e ∙ moved_refuses (before old) (after old) (input old) (output old) was m) in
      let left : before new ≡ false =
      link ∙ after_unserved (before old) (after old) (input old) (output old) was.own still
      ∙ ap (λ had. had || is_transfer (output old)) unserved ∙ refused_still (output old).valid (output old).ready r.ready in
      now.own.offers ∙ ap (λ had. if had then [] else offered (input new)) left
      ∙ again (input old) (input new) keeps word (offered_still (input old) word waits still)
    where
      unserved_by : (had : Bool) (words : List Bits) (word : Bits) → (if had then [] else words) ≡ word ∷ [] → had ≡ false
      unserved_by true words word e = absurd (cc)
      unserved_by false words word e = refl

      untaken : (moved : Bool) → (moved ≡ true → word ∷ [] ≡ []) → moved ≡ false
      untaken true none = absurd (let e : word ∷ [] ≡ [] = none refl in cc)
      untaken false none = refl

      refused_still : (valid ready : Bool) → ready ≡ false → (valid && ready) ≡ false
      refused_still true ready e = e
      refused_still false ready e = refl

  pub branch_keeps : (history : List C) → BranchRun history → KeepsOffers input history → KeepsOffers output history
  branch_keeps [] run keeps = tt
  branch_keeps (new ∷ []) run keeps = tt
  branch_keeps (new ∷ old ∷ earlier) run keeps =
      (keeps_by (output old) (output new) (branch_keep new old run.0 run.2.0 run.1 keeps.0), branch_keeps (old ∷ earlier) run.2 keeps.1)
