-- The load of a row in one cycle.
use Rattle.std.specs.Prelude.{◌≡◌, ℕ, ◌+◌, ◌<◌, ◌≤◌, nat_lt, Bool, true, false, List, [], ◌∷◌, length, get_or, if◌then◌else◌, refl}
use Rattle.std.proofs.Common.{sym, ◌∙◌, ap, arith}
use Rattle.std.proofs.lemmas.Bool.Decides.{nat_tests}
use Rattle.element_laws.specs.Signals.{Bits, Signals, offered}
use Rattle.element_laws.specs.Histories.{Channel, KeepsOffers, reached}
use Rattle.element_laws.specs.Elements.{Element, input_count, output_count, Contents, reset, flag, every}
use Rattle.element_laws.specs.Elements.Element.{stage, fifo, as_fifo, as_vr, map_by, scan_by, fork, join}
use Rattle.element_laws.specs.Laws.{IsElementRun}
use Rattle.element_laws.specs.SignalLemmas.{offer}
use Rattle.element_laws.specs.PassingLemmas.{PassesOn, map_passes, as_vr_passes, scan_passes}
use Rattle.element_laws.specs.ForkLemmas.{One, branch_among, every_each, flag_valid}
use Rattle.element_laws.specs.ElementLemmas.{branch_run, unserved_at_start}
use Rattle.element_rows.specs.Flat.{Placed, source, channel_count, uses, TakesEarlier, total, sum_below}
use Rattle.element_load.specs.Load.{waits, CanTake, AllCanTake}
use Rattle.element_load.specs.FallLemmas.{Falls, stage_falls, fifo_falls, pass_counts, pass_falls, PassFalls}
use Rattle.element_load.specs.ForkFalls.{fork_falls, spare_after}
use Rattle.element_rows.specs.SumLemmas.{sums_same, sum_split, totals_below, total-append}

module _ {C : Type 0} (before after : C → Contents) (inputs outputs : ℕ → Channel C) where
  -- in no history has each branch of a fork had the word
  spare : (branches : ℕ) → 0 < branches → (history : List C) → IsElementRun (fork branches) before after inputs outputs history
      → every (flag (reached after (reset (fork branches)) history)) branches ≡ true → ⊥
  spare branches some [] run all = let no : false ≡ true = sym (unserved_at_start branches 0) ∙ every_each (flag (reset (fork branches))) branches 0 all some in cc
  spare branches some (cycle ∷ earlier) run all =
      spare_after branches some (flag (before cycle)) (flag (after cycle)) (inputs 0 cycle) (λ k. outputs k cycle) run.0
      (λ full. spare branches some earlier run.2 (ap (λ now. every (flag now) branches) (sym run.1) ∙ full)) all

  fork_moment : (branches : ℕ) (weight : ℕ → ℕ) → 0 < branches → (cycle : C) (earlier : List C) → IsElementRun (fork branches) before after inputs outputs (cycle ∷ earlier)
      → KeepsOffers (inputs 0) (cycle ∷ earlier) → Falls (fork branches) weight (before cycle) (after cycle) (inputs 0 cycle) (λ k. outputs k cycle)
  fork_moment branches weight some cycle earlier run keeps =
      fork_falls branches weight (before cycle) (after cycle) (inputs 0 cycle) (λ k. outputs k cycle)
      (λ k h. record {
        among = branch_among branches (flag (before cycle)) (flag (after cycle)) (inputs 0 cycle) (λ j. outputs j cycle) run.0 k h;
        stands = λ served.
            let one : One (offered (inputs 0 cycle)) =
            flag_valid (inputs 0) (outputs k) (λ c. flag (before c) k) (λ c. flag (after c) k) cycle earlier (branch_run before after inputs outputs (cycle ∷ earlier) branches run k h) keeps served in
            (offer (inputs 0 cycle) one.word one.is).valid;
      })
      (λ full. spare branches some earlier run.2 (ap (λ now. every (flag now) branches) (sym run.1) ∙ full))

  -- an element that passes each word on
  quiet_input : (f : Bits → Bits) (input output : Signals) → PassesOn f input output → waits output ≡ 0 → waits input ≡ 0
  quiet_input f input output passes none = sym (pass_counts f input output passes).offers ∙ none

  pub element_falls : (element : Element) → CanTake element → (weight : ℕ → ℕ) (cycle : C) (earlier : List C) → IsElementRun element before after inputs outputs (cycle ∷ earlier)
      → KeepsOffers (inputs 0) (cycle ∷ earlier) → Falls element weight (before cycle) (after cycle) (inputs 0 cycle) (λ k. outputs k cycle)
  element_falls stage can weight cycle earlier run keeps = stage_falls weight (before cycle) (after cycle) (inputs 0 cycle) (λ k. outputs k cycle) run.0
  element_falls (fifo depth) can weight cycle earlier run keeps = fifo_falls depth can weight (before cycle) (after cycle) (inputs 0 cycle) (λ k. outputs k cycle) run.0
  element_falls as_fifo can weight cycle earlier run keeps =
      let passes : PassesOn (λ w. w) (inputs 0 cycle) (outputs 0 cycle) = map_passes (λ w. w) (inputs 0 cycle) (outputs 0 cycle) run.0 in
      let n : PassFalls (weight 0) (inputs 0 cycle) (outputs 0 cycle) = pass_falls (weight 0) (inputs 0 cycle) (outputs 0 cycle) (pass_counts (λ w. w) (inputs 0 cycle) (outputs 0 cycle) passes) in
      record {
        balance = n.balance;
        covered = n.covered;
        left_covered = n.left_covered;
        still_holds = λ none quiet. refl;
        still_waits = λ none quiet. quiet_input (λ w. w) (inputs 0 cycle) (outputs 0 cycle) passes (quiet 0 (omega arith));
      }
  element_falls as_vr can weight cycle earlier run keeps =
      let passes : PassesOn (λ w. w) (inputs 0 cycle) (outputs 0 cycle) = as_vr_passes (inputs 0 cycle) (outputs 0 cycle) run.0 in
      let n : PassFalls (weight 0) (inputs 0 cycle) (outputs 0 cycle) = pass_falls (weight 0) (inputs 0 cycle) (outputs 0 cycle) (pass_counts (λ w. w) (inputs 0 cycle) (outputs 0 cycle) passes) in
      record {
        balance = n.balance;
        covered = n.covered;
        left_covered = n.left_covered;
        still_holds = λ none quiet. refl;
        still_waits = λ none quiet. quiet_input (λ w. w) (inputs 0 cycle) (outputs 0 cycle) passes (quiet 0 (omega arith));
      }
  element_falls (map_by f) can weight cycle earlier run keeps =
      let passes : PassesOn f (inputs 0 cycle) (outputs 0 cycle) = map_passes f (inputs 0 cycle) (outputs 0 cycle) run.0 in
      let n : PassFalls (weight 0) (inputs 0 cycle) (outputs 0 cycle) = pass_falls (weight 0) (inputs 0 cycle) (outputs 0 cycle) (pass_counts f (inputs 0 cycle) (outputs 0 cycle) passes) in
      record {
        balance = n.balance;
        covered = n.covered;
        left_covered = n.left_covered;
        still_holds = λ none quiet. refl;
        still_waits = λ none quiet. quiet_input f (inputs 0 cycle) (outputs 0 cycle) passes (quiet 0 (omega arith));
      }
  element_falls (scan_by step start) can weight cycle earlier run keeps =
      let passes : PassesOn (step (before cycle).state) (inputs 0 cycle) (outputs 0 cycle) =
      scan_passes step (before cycle).state (after cycle).state (inputs 0 cycle) (outputs 0 cycle) run.0 in
      let n : PassFalls (weight 0) (inputs 0 cycle) (outputs 0 cycle) = pass_falls (weight 0) (inputs 0 cycle) (outputs 0 cycle) (pass_counts (step (before cycle).state) (inputs 0 cycle) (outputs 0 cycle) passes) in
      record {
        balance = n.balance;
        covered = n.covered;
        left_covered = n.left_covered;
        still_holds = λ none quiet. refl;
        still_waits = λ none quiet. quiet_input (step (before cycle).state) (inputs 0 cycle) (outputs 0 cycle) passes (quiet 0 (omega arith));
      }
  element_falls (fork branches) can weight cycle earlier run keeps = fork_moment branches weight can cycle earlier run keeps
  element_falls join can weight cycle earlier run keeps = absurd can

-- ---- sums over the channels of a row

pub one_input : (element : Element) → CanTake element → input_count element ≡ 1
one_input stage can = refl
one_input (fifo depth) can = refl
one_input as_fifo can = refl
one_input as_vr can = refl
one_input (map_by f) can = refl
one_input (scan_by step start) can = refl
one_input (fork branches) can = refl
one_input join can = absurd can

pub one_source : (f : ℕ → ℕ) (xs : List ℕ) → length xs ≡ 1 → total f xs ≡ f (get_or xs 0 0)
one_source f [] e = absurd (omega arith)
one_source f (x ∷ []) e = omega arith
one_source f (x ∷ y ∷ xs) e = absurd (omega arith)

-- the sum over the channels that the elements make
abbrev pub made_sum : (ℕ → ℕ) → ℕ → List Placed → ℕ
made_sum f made [] = 0
made_sum f made (placed ∷ others) = sum_below (λ k. f (made + k)) (output_count placed.element) + made_sum f (made + output_count placed.element) others

pub made_sum-is : (f : ℕ → ℕ) (made : ℕ) (placed : List Placed) → sum_below f (channel_count made placed) ≡ sum_below f made + made_sum f made placed
made_sum-is f made [] = omega arith
made_sum-is f made (placed ∷ others) =
    let rest : sum_below f (channel_count (made + output_count placed.element) others) ≡ sum_below f (made + output_count placed.element) + made_sum f (made + output_count placed.element) others =
    made_sum-is f (made + output_count placed.element) others in
    omega (arith, rest, sum_split f made (output_count placed.element))

made_sum_same : (f g : ℕ → ℕ) (made : ℕ) (placed : List Placed) → ((c : ℕ) → made ≤ c → f c ≡ g c) → made_sum f made placed ≡ made_sum g made placed
made_sum_same f g made [] e = refl
made_sum_same f g made (placed ∷ others) e =
    let here : sum_below (λ k. f (made + k)) (output_count placed.element) ≡ sum_below (λ k. g (made + k)) (output_count placed.element) =
    sums_same (λ k. f (made + k)) (λ k. g (made + k)) (output_count placed.element) (λ k h. e (made + k) (omega arith)) in
    let rest : made_sum f (made + output_count placed.element) others ≡ made_sum g (made + output_count placed.element) others =
    made_sum_same f g (made + output_count placed.element) others (λ c h. e c (omega arith)) in
    omega arith

-- f from a channel on, and nothing before it
abbrev from : ℕ → (ℕ → ℕ) → ℕ → ℕ
from made f c = if nat_lt c made then 0 else f c

from_late : (made : ℕ) (f : ℕ → ℕ) (c : ℕ) → made ≤ c → from made f c ≡ f c
from_late made f c h = ap (λ b. if b then 0 else f c) (let e : nat_lt c made ≡ false = grind (arith, nat_tests) in e)

from_early : (made : ℕ) (f : ℕ → ℕ) (c : ℕ) → c < made → from made f c ≡ 0
from_early made f c h = ap (λ b. if b then 0 else f c) (let e : nat_lt c made ≡ true = grind (arith, nat_tests) in e)

from_below : (made : ℕ) (f : ℕ → ℕ) (c : ℕ) → from made f c ≤ f c
from_below made f c = by_cases (nat_lt c made)
  where
    by_cases : (b : Bool) → (if b then 0 else f c) ≤ f c
    by_cases true = omega arith
    by_cases false = omega arith

-- the channels that an element makes are used by the later elements or the clients
abbrev pub UsedLater : List ℕ → ℕ → List Placed → Type 0
UsedLater clients made [] = Unit {0}
UsedLater clients made (placed ∷ others) =
    ((f : ℕ → ℕ) → sum_below (λ k. f (made + k)) (output_count placed.element) ≤ total f (uses others) + total f clients)
    × UsedLater clients (made + output_count placed.element) others

abbrev Bounded : List ℕ → ℕ → List Placed → Type 0
Bounded clients made placed = (f : ℕ → ℕ) → made_sum f made placed ≤ total f (uses placed) + total f clients

-- f from the element's channels on: the element's own source counts nothing
bounded_here : (clients : List ℕ) (made : ℕ) (placed : Placed) (others : List Placed) → length placed.sources ≡ 1 → source placed 0 < made → Bounded clients made (placed ∷ others)
    → (f : ℕ → ℕ) → made_sum f made (placed ∷ others) ≤ total f (uses others) + total f clients
bounded_here clients made placed others one earlier bound f =
    let all : made_sum (from made f) made (placed ∷ others) ≤ total (from made f) (uses (placed ∷ others)) + total (from made f) clients = bound (from made f) in
    let same : made_sum (from made f) made (placed ∷ others) ≡ made_sum f made (placed ∷ others) = made_sum_same (from made f) f made (placed ∷ others) (from_late made f) in
    let own : total (from made f) placed.sources ≡ 0 = one_source (from made f) placed.sources one ∙ from_early made f (source placed 0) earlier in
    let users : total (from made f) (uses (placed ∷ others)) ≡ total (from made f) placed.sources + total (from made f) (uses others) = total-append (from made f) placed.sources (uses others) in
    let later : total (from made f) (uses others) ≤ total f (uses others) = totals_below (from made f) f (uses others) (from_below made f) in
    let ends : total (from made f) clients ≤ total f clients = totals_below (from made f) f clients (from_below made f) in
    omega arith

pub used_later : (clients : List ℕ) (made : ℕ) (placed : List Placed) → AllCanTake placed → TakesEarlier made placed → Bounded clients made placed → UsedLater clients made placed
used_later clients made [] can earlier bound = tt
used_later clients made (placed ∷ others) can earlier bound =
    let here = bounded_here clients made placed others (earlier.0 ∙ one_input placed.element can.0) (earlier.1 0 (omega (arith, one_input placed.element can.0))) bound in
    ((λ f. omega (arith, here f)), used_later clients (made + output_count placed.element) others can.1 earlier.2 (λ f. omega (arith, here f)))
