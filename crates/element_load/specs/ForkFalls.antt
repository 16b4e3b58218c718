-- The load of a fork in one cycle.
use Rattle.std.specs.Prelude.{◌≡◌, ℕ, zero, suc, ◌+◌, ◌*◌, ◌<◌, ◌≤◌, ◌&&◌, ◌||◌, Bool, true, false, not, [], ◌∷◌, if◌then◌else◌, refl}
use Rattle.std.proofs.Common.{sym, ◌∙◌, ap, subst, arith}
use Rattle.element_laws.specs.Signals.{Signals, is_transfer}
use Rattle.element_laws.specs.Elements.{Contents, flag, ForkCycle, every}
use Rattle.element_laws.specs.Elements.Element.{fork}
use Rattle.element_laws.specs.ForkLemmas.{BranchAmong, branch_among, every_each, each_every, after_served, after_unserved}
use Rattle.element_rows.specs.Flat.{sum_below}
use Rattle.element_load.specs.Load.{moves, waits, refusals}
use Rattle.element_load.specs.FallLemmas.{Falls}

-- a branch in one cycle, beside what holds of it in every run: where it has had the word, the input offers it still
pub record BranchMoment (served after : Bool) (input output : Signals) : Type 0 where
  pub among : BranchAmong served after input output
  pub stands : served ≡ true → input.valid ≡ true

-- ---- numbers of one branch, whose weight is w

pub record BranchNumbers (w : ℕ) (served after iv ir ov ready : Bool) : Type 0 where
  pub balance : (if served then 1 + w else 0) + w * (if ov && ready then 1 else 0) + (if ov && ready then 1 else 0)
      ≡ (if after then 1 + w else 0) + (1 + w) * (if iv && ir then 1 else 0)
  pub covered : (if served then 1 + w else 0) + w * (if ov then 1 else 0) ≤ (1 + w) * (if iv then 1 else 0)
  pub left_covered : (if after then 1 + w else 0) + w * (if ov && not ready then 1 else 0) ≤ (1 + w) * (if iv && not ir then 1 else 0)

numbers_by_cases : (w : ℕ) (served iv ir ready : Bool) → (ir ≡ true → (served || ready) ≡ true) → (served ≡ true → iv ≡ true)
    → BranchNumbers w served (not (iv && ir) && (served || ((not served && iv) && ready))) iv ir (not served && iv) ready
numbers_by_cases w true true true true met stands = record { balance = omega arith; covered = omega arith; left_covered = omega arith }
numbers_by_cases w true true true false met stands = record { balance = omega arith; covered = omega arith; left_covered = omega arith }
numbers_by_cases w true true false true met stands = record { balance = omega arith; covered = omega arith; left_covered = omega arith }
numbers_by_cases w true true false false met stands = record { balance = omega arith; covered = omega arith; left_covered = omega arith }
numbers_by_cases w true false ir ready met stands = absurd (let e : false ≡ true = stands refl in cc)
numbers_by_cases w false true true true met stands = record { balance = omega arith; covered = omega arith; left_covered = omega arith }
numbers_by_cases w false true true false met stands = absurd (let e : false ≡ true = met refl in cc)
numbers_by_cases w false true false true met stands = record { balance = omega arith; covered = omega arith; left_covered = omega arith }
numbers_by_cases w false true false false met stands = record { balance = omega arith; covered = omega arith; left_covered = omega arith }
numbers_by_cases w false false true true met stands = record { balance = omega arith; covered = omega arith; left_covered = omega arith }
numbers_by_cases w false false true false met stands = record { balance = omega arith; covered = omega arith; left_covered = omega arith }
numbers_by_cases w false false false true met stands = record { balance = omega arith; covered = omega arith; left_covered = omega arith }
numbers_by_cases w false false false false met stands = record { balance = omega arith; covered = omega arith; left_covered = omega arith }

-- a branch is valid exactly where the input is and it has not had the word
pub branch_valid : (served after : Bool) (input output : Signals) → BranchAmong served after input output → output.valid ≡ (not served && input.valid)
branch_valid served after input output branch = by_cases served output.valid input.valid branch.own.offers
  where
    by_cases : (had ov iv : Bool) → (if ov then output.word ∷ [] else []) ≡ (if had then [] else (if iv then input.word ∷ [] else [])) → ov ≡ (not had && iv)
    by_cases true true iv e = absurd (cc)
    by_cases true false iv e = refl
    by_cases false true true e = refl
    by_cases false true false e = absurd (cc)
    by_cases false false true e = absurd (cc)
    by_cases false false false e = refl

branch_numbers : (w : ℕ) (served after : Bool) (input output : Signals) → BranchMoment served after input output → BranchNumbers w served after input.valid input.ready output.valid output.ready
branch_numbers w served after input output moment =
    let valid : output.valid ≡ (not served && input.valid) = branch_valid served after input output moment.among in
    let next : after ≡ (not (input.valid && input.ready) && (served || ((not served && input.valid) && output.ready))) =
    moment.among.own.next ∙ ap (λ v. not (input.valid && input.ready) && (served || (v && output.ready))) valid in
    subst (λ a. BranchNumbers w served a input.valid input.ready output.valid output.ready) (sym next)
    (subst (λ v. BranchNumbers w served (not (input.valid && input.ready) && (served || ((not served && input.valid) && output.ready))) input.valid input.ready v output.ready) (sym valid)
    (numbers_by_cases w served input.valid input.ready output.ready moment.among.met moment.stands))

-- ---- numbers of all branches

sum_balance : (a b c d e : ℕ → ℕ) (m n : ℕ) → ((k : ℕ) → k < n → a k + b k + c k ≡ d k + e k * m) → sum_below a n + sum_below b n + sum_below c n ≡ sum_below d n + sum_below e n * m
sum_balance a b c d e m zero each = omega arith
sum_balance a b c d e m (suc n) each =
    let here : a n + b n + c n ≡ d n + e n * m = each n (omega arith) in
    let before : sum_below a n + sum_below b n + sum_below c n ≡ sum_below d n + sum_below e n * m = sum_balance a b c d e m n (λ k h. each k (omega arith)) in
    omega arith

sum_cover : (a b e : ℕ → ℕ) (m n : ℕ) → ((k : ℕ) → k < n → a k + b k ≤ e k * m) → sum_below a n + sum_below b n ≤ sum_below e n * m
sum_cover a b e m zero each = omega arith
sum_cover a b e m (suc n) each =
    let here : a n + b n ≤ e n * m = each n (omega arith) in
    let before : sum_below a n + sum_below b n ≤ sum_below e n * m = sum_cover a b e m n (λ k h. each k (omega arith)) in
    omega arith

-- where the input is valid and no branch is, each branch has had the word
silent_served : (branches : ℕ) (served after : ℕ → Bool) (input : Signals) (outputs : ℕ → Signals) → ((k : ℕ) → k < branches → BranchMoment (served k) (after k) input (outputs k))
    → input.valid ≡ true → ((k : ℕ) → k < branches → waits (outputs k) ≡ 0) → (k : ℕ) → k < branches → served k ≡ true
silent_served branches served after input outputs moments valid quiet k h =
    by_cases (served k) (outputs k).valid input.valid (branch_valid (served k) (after k) input (outputs k) (moments k h).among) valid (quiet k h)
  where
    by_cases : (had ov iv : Bool) → ov ≡ (not had && iv) → iv ≡ true → ◌≡◌ {A = ℕ} (if ov then 1 else 0) 0 → had ≡ true
    by_cases true ov iv e v q = refl
    by_cases false true iv e v q = absurd (omega arith)
    by_cases false false true e v q = absurd (cc)
    by_cases false false false e v q = absurd (cc)

pub fork_falls : (branches : ℕ) (weight : ℕ → ℕ) (before after : Contents) (input : Signals) (outputs : ℕ → Signals)
    → ((k : ℕ) → k < branches → BranchMoment (flag before k) (flag after k) input (outputs k)) → (every (flag before) branches ≡ true → ⊥)
    → Falls (fork branches) weight before after input outputs
fork_falls branches weight before after input outputs moments spare = record {
  balance =
      let e = sum_balance (λ k. if flag before k then 1 + weight k else 0) (λ k. weight k * moves (outputs k)) (λ k. moves (outputs k)) (λ k. if flag after k then 1 + weight k else 0) (λ k. 1 + weight k)
      (moves input) branches (λ k h. (branch_numbers (weight k) (flag before k) (flag after k) input (outputs k) (moments k h)).balance) in
      omega (arith, e);
  covered =
      let e = sum_cover (λ k. if flag before k then 1 + weight k else 0) (λ k. weight k * waits (outputs k)) (λ k. 1 + weight k)
      (waits input) branches (λ k h. (branch_numbers (weight k) (flag before k) (flag after k) input (outputs k) (moments k h)).covered) in
      omega (arith, e);
  left_covered =
      let e = sum_cover (λ k. if flag after k then 1 + weight k else 0) (λ k. weight k * refusals (outputs k)) (λ k. 1 + weight k)
      (refusals input) branches (λ k h. (branch_numbers (weight k) (flag before k) (flag after k) input (outputs k) (moments k h)).left_covered) in
      omega (arith, e);
  still_holds = λ none quiet. refl;
  still_waits = λ none quiet. no_word input.valid refl quiet;
}
  where
    no_word : (valid : Bool) → input.valid ≡ valid → ((k : ℕ) → k < branches → waits (outputs k) ≡ 0) → ◌≡◌ {A = ℕ} (if valid then 1 else 0) 0
    no_word true v quiet = absurd (spare (each_every (flag before) branches (silent_served branches (flag before) (flag after) input outputs moments v quiet)))
    no_word false v quiet = refl

-- ---- not all flags stand at once

-- A fork in which each branch has had the word would have taken it.
record Unserved (served : ℕ → Bool) (branches : ℕ) : Type 0 where
  branch : ℕ
  below : branch < branches
  unserved : served branch ≡ false

unserved_in : (served : ℕ → Bool) (branches : ℕ) → every served branches ≡ false → Unserved served branches
unserved_in served zero e = absurd (cc)
unserved_in served (suc branches) e = by_cases (every served branches) (served branches) refl refl e (unserved_in served branches)
  where
    by_cases : (all one : Bool) → every served branches ≡ all → served branches ≡ one → (all && one) ≡ false → (every served branches ≡ false → Unserved served branches) → Unserved served (suc branches)
    by_cases true true p q r before = absurd (cc)
    by_cases true false p q r before = record { branch = branches; below = omega arith; unserved = q }
    by_cases false one p q r before = let u : Unserved served branches = before p in record { branch = u.branch; below = omega (arith, u.below); unserved = u.unserved }

served_or_ready : (served valid ready : Bool) → (served || (valid && ready)) ≡ true → (served || ready) ≡ true
served_or_ready true valid ready e = refl
served_or_ready false true ready e = e
served_or_ready false false ready e = absurd (cc)

-- a branch that takes the word has it from the input
taken_valid : (served valid ready input : Bool) → served ≡ false → (served || (valid && ready)) ≡ true → valid ≡ (not served && input) → input ≡ true
taken_valid true valid ready input s e v = absurd (cc)
taken_valid false true ready input s e v = sym v
taken_valid false false ready input s e v = absurd (cc)

pub spare_after : (branches : ℕ) → 0 < branches → (served after : ℕ → Bool) (input : Signals) (outputs : ℕ → Signals) → ForkCycle branches served after input outputs
    → (every served branches ≡ true → ⊥) → every after branches ≡ true → ⊥
spare_after branches some served after input outputs cycle spare all =
    let still : is_transfer input ≡ false = after_served (served 0) (after 0) input (outputs 0) (cycle.branch 0 some) (every_each after branches 0 all some) in
    let taken : (k : ℕ) → k < branches → (served k || is_transfer (outputs k)) ≡ true =
    λ k h. sym (after_unserved (served k) (after k) input (outputs k) (cycle.branch k h) still) ∙ every_each after branches k all h in
    let ready : input.ready ≡ true =
    cycle.ready ∙ each_every (λ k. served k || (outputs k).ready) branches (λ k h. served_or_ready (served k) (outputs k).valid (outputs k).ready (taken k h)) in
    by_cases (every served branches) refl taken ready still
  where
    by_cases : (b : Bool) → every served branches ≡ b → ((k : ℕ) → k < branches → (served k || is_transfer (outputs k)) ≡ true) → input.ready ≡ true → is_transfer input ≡ false → ⊥
    by_cases true e taken ready still = spare e
    by_cases false e taken ready still =
        let u : Unserved served branches = unserved_in served branches e in
        let valid : input.valid ≡ true =
        taken_valid (served u.branch) (outputs u.branch).valid (outputs u.branch).ready input.valid u.unserved (taken u.branch u.below)
        (branch_valid (served u.branch) (after u.branch) input (outputs u.branch) (branch_among branches served after input outputs cycle u.branch u.below)) in
        let moved : is_transfer input ≡ true = ap (λ v. v && input.ready) valid ∙ ready in
        let no : true ≡ false = sym moved ∙ still in cc
