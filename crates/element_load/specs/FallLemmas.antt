-- The load of one element in one cycle.
use Rattle.std.specs.Prelude.{◌≡◌, ℕ, ◌+◌, ◌*◌, ◌<◌, ◌≤◌, ◌&&◌, nat_lt, Bool, true, false, not, List, [], ◌∷◌, length, take, if◌then◌else◌, refl}
use Rattle.std.proofs.Common.{sym, ◌∙◌, ap, arith}
use Rattle.std.proofs.lemmas.List.{length-append, length-map}
use Rattle.std.proofs.lemmas.Bool.Decides.{nat_tests}
use Rattle.element_laws.specs.Signals.{Bits, Signals, is_transfer, offered, transferred, refused}
use Rattle.element_laws.specs.Elements.{Element, output_count, Contents, StorageCycle}
use Rattle.element_laws.specs.Elements.Element.{stage, fifo}
use Rattle.element_laws.specs.PassingLemmas.{PassesOn}
use Rattle.element_rows.specs.Flat.{sum_below}
use Rattle.element_load.specs.Load.{moves, waits, refusals, input_weight, stored, owed, spent}

pub moves-is : (s : Signals) → length (transferred s) ≡ moves s
moves-is s = by_cases (is_transfer s)
  where
    by_cases : (b : Bool) → length (if b then s.word ∷ [] else []) ≡ (if b then 1 else 0)
    by_cases true = refl
    by_cases false = refl

pub waits-is : (s : Signals) → length (offered s) ≡ waits s
waits-is s = by_cases s.valid
  where
    by_cases : (b : Bool) → length (if b then s.word ∷ [] else []) ≡ (if b then 1 else 0)
    by_cases true = refl
    by_cases false = refl

pub refusals-is : (s : Signals) → length (refused s) ≡ refusals s
refusals-is s = by_cases (s.valid && not s.ready)
  where
    by_cases : (b : Bool) → length (if b then s.word ∷ [] else []) ≡ (if b then 1 else 0)
    by_cases true = refl
    by_cases false = refl

pub waits-split : (s : Signals) → waits s ≡ moves s + refusals s
waits-split s = by_cases s.valid s.ready
  where
    by_cases : (valid ready : Bool) → ◌≡◌ {A = ℕ} (if valid then 1 else 0) ((if valid && ready then 1 else 0) + (if valid && not ready then 1 else 0))
    by_cases true true = refl
    by_cases true false = refl
    by_cases false true = refl
    by_cases false false = refl

-- How the load falls in one element in one cycle, in sums without differences.
pub record Falls (element : Element) (weight : ℕ → ℕ) (before after : Contents) (input : Signals) (outputs : ℕ → Signals) : Type 0 where
  -- what comes in with its weight is stored, or goes on with its weight, or is spent
  pub balance : stored element weight after + owed element weight before + sum_below (λ k. weight k * moves (outputs k)) (output_count element) + spent element input outputs
      ≡ stored element weight before + owed element weight after + input_weight element weight * moves input
  -- no more is taken off and offered than there is, before the cycle and behind it
  pub covered : owed element weight before + sum_below (λ k. weight k * waits (outputs k)) (output_count element) ≤ stored element weight before + input_weight element weight * waits input
  pub left_covered : owed element weight after + sum_below (λ k. weight k * refusals (outputs k)) (output_count element) ≤ stored element weight after + input_weight element weight * refusals input
  -- where nothing is spent and nothing offered, nothing was there
  pub still_holds : spent element input outputs ≡ 0 → ((k : ℕ) → k < output_count element → waits (outputs k) ≡ 0) → stored element weight before ≡ 0
  pub still_waits : spent element input outputs ≡ 0 → ((k : ℕ) → k < output_count element → waits (outputs k) ≡ 0) → waits input ≡ 0

-- ---- storage

take_counts : (words : List Bits) → length (take 1 words) ≤ length words
take_counts [] = omega arith
take_counts (w ∷ words) = omega arith

none_taken : (words : List Bits) → length (take 1 words) ≡ 0 → length words ≡ 0
none_taken [] e = refl
none_taken (w ∷ words) e = absurd (omega arith)

-- the numbers of a storage element's cycle
pub record StorageCounts (held after came went offers room refused_out : ℕ) : Type 0 where
  pub next : held + came ≡ went + after
  pub first : offers ≤ held
  pub none : offers ≡ 0 → held ≡ 0
  pub left : refused_out ≤ after

storage_counts : (limit : ℕ) (held after : List Bits) (input output : Signals) → StorageCycle limit held after input output
    → StorageCounts (length held) (length after) (moves input) (moves output) (waits output) limit (refusals output)
storage_counts limit held after input output cycle =
    let next : length held + moves input ≡ moves output + length after =
    omega (arith, ap length cycle.next, length-append held (transferred input), length-append (transferred output) after, moves-is input, moves-is output) in
    let offers : waits output ≡ length (take 1 held) = sym (waits-is output) ∙ ap length cycle.offers in
    record {
      next = next;
      first = omega (arith, offers, take_counts held);
      none = λ e. none_taken held (sym offers ∙ e);
      left = omega (arith, next, offers, take_counts held, waits-split output);
    }

-- an empty store with room takes what is offered to it
takes_all : (limit : ℕ) (s : Signals) (count : ℕ) → 0 < limit → count ≡ 0 → s.ready ≡ nat_lt count limit → moves s ≡ 0 → waits s ≡ 0
takes_all limit s count deep empty ready none = by_cases s.valid s.ready ready none
  where
    by_cases : (valid r : Bool) → r ≡ nat_lt count limit → ◌≡◌ {A = ℕ} (if valid && r then 1 else 0) 0 → ◌≡◌ {A = ℕ} (if valid then 1 else 0) 0
    by_cases true true e none = absurd (omega arith)
    by_cases true false e none = absurd (let t : ⊥ = grind (arith, nat_tests) in t)
    by_cases false r e none = refl

-- a store of at most so many words, whose output has this weight
pub record StorageFalls (w held after came went offers : ℕ) (refused_in refused_out offered_in : ℕ) : Type 0 where
  pub balance : w * after + 0 + (0 + w * went) + came ≡ w * held + 0 + (1 + w) * came
  pub covered : 0 + (0 + w * offers) ≤ w * held + (1 + w) * offered_in
  pub left_covered : 0 + (0 + w * refused_out) ≤ w * after + (1 + w) * refused_in

scaled : (w a b : ℕ) → a ≤ b → w * a ≤ w * b
scaled w a b h = grind arith

storage_numbers : (w held after came went offers room refused_in refused_out offered_in : ℕ) → StorageCounts held after came went offers room refused_out
    → StorageFalls w held after came went offers refused_in refused_out offered_in
storage_numbers w held after came went offers room refused_in refused_out offered_in counts = record {
  balance = omega (arith, ap (λ z. w * z) counts.next);
  covered = omega (arith, scaled w offers held counts.first);
  left_covered = omega (arith, scaled w refused_out after counts.left);
}

pub stage_falls : (weight : ℕ → ℕ) (before after : Contents) (input : Signals) (outputs : ℕ → Signals) → StorageCycle 2 before.held after.held input (outputs 0) → Falls stage weight before after input outputs
stage_falls weight before after input outputs cycle =
    let counts : StorageCounts (length before.held) (length after.held) (moves input) (moves (outputs 0)) (waits (outputs 0)) 2 (refusals (outputs 0)) = storage_counts 2 before.held after.held input (outputs 0) cycle in
    let n = storage_numbers (weight 0) (length before.held) (length after.held) (moves input) (moves (outputs 0)) (waits (outputs 0)) 2 (refusals input) (refusals (outputs 0)) (waits input) counts in
    record {
      balance = n.balance;
      covered = n.covered;
      left_covered = n.left_covered;
      still_holds = λ none quiet. let e : length before.held ≡ 0 = counts.none (quiet 0 (omega arith)) in omega (arith, ap (λ z. weight 0 * z) e);
      still_waits = λ none quiet. takes_all 2 input (length before.held) (omega arith) (counts.none (quiet 0 (omega arith))) cycle.ready none;
    }

pub fifo_falls : (depth : ℕ) → 0 < depth → (weight : ℕ → ℕ) (before after : Contents) (input : Signals) (outputs : ℕ → Signals) → StorageCycle depth before.held after.held input (outputs 0) → Falls (fifo depth) weight before after input outputs
fifo_falls depth deep weight before after input outputs cycle =
    let counts : StorageCounts (length before.held) (length after.held) (moves input) (moves (outputs 0)) (waits (outputs 0)) depth (refusals (outputs 0)) = storage_counts depth before.held after.held input (outputs 0) cycle in
    let n = storage_numbers (weight 0) (length before.held) (length after.held) (moves input) (moves (outputs 0)) (waits (outputs 0)) depth (refusals input) (refusals (outputs 0)) (waits input) counts in
    record {
      balance = n.balance;
      covered = n.covered;
      left_covered = n.left_covered;
      still_holds = λ none quiet. let e : length before.held ≡ 0 = counts.none (quiet 0 (omega arith)) in omega (arith, ap (λ z. weight 0 * z) e);
      still_waits = λ none quiet. takes_all depth input (length before.held) deep (counts.none (quiet 0 (omega arith))) cycle.ready none;
    }

-- ---- elements that pass words on

-- the numbers of an element that passes each word on
pub record PassCounts (input output : Signals) : Type 0 where
  pub moved : moves output ≡ moves input
  pub offers : waits output ≡ waits input
  pub left : refusals output ≡ refusals input

pub pass_counts : (f : Bits → Bits) (input output : Signals) → PassesOn f input output → PassCounts input output
pass_counts f input output passes = record {
  moved = sym (moves-is output) ∙ ap length passes.transfers ∙ length-map (transferred input) f ∙ moves-is input;
  offers = sym (waits-is output) ∙ ap length passes.offers ∙ length-map (offered input) f ∙ waits-is input;
  left = sym (refusals-is output) ∙ ap length passes.refusals ∙ length-map (refused input) f ∙ refusals-is input;
}

pub record PassFalls (w : ℕ) (input output : Signals) : Type 0 where
  pub balance : 0 + 0 + (0 + w * moves output) + 0 ≡ 0 + 0 + w * moves input
  pub covered : 0 + (0 + w * waits output) ≤ 0 + w * waits input
  pub left_covered : 0 + (0 + w * refusals output) ≤ 0 + w * refusals input

pub pass_falls : (w : ℕ) (input output : Signals) → PassCounts input output → PassFalls w input output
pass_falls w input output counts = record {
  balance = omega (arith, ap (λ z. w * z) counts.moved);
  covered = omega (arith, ap (λ z. w * z) counts.offers);
  left_covered = omega (arith, ap (λ z. w * z) counts.left);
}
