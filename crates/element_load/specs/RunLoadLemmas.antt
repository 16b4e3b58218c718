-- The load behind a whole run.
use Rattle.std.specs.Prelude.{◌≡◌, ℕ, zero, suc, ◌+◌, ◌*◌, ◌<◌, ◌≤◌, Bool, List, [], ◌∷◌, length, if◌then◌else◌, refl}
use Rattle.std.proofs.Common.{◌∙◌, ap, arith}
use Rattle.std.proofs.lemmas.List.{length-append}
use Rattle.element_laws.specs.Signals.{transferred}
use Rattle.element_laws.specs.Histories.{Channel, transfers, last_refused, reached}
use Rattle.element_laws.specs.Elements.{Element, output_count, reset, flag}
use Rattle.element_laws.specs.Elements.Element.{stage, fifo, as_fifo, as_vr, map_by, scan_by, fork, join}
use Rattle.element_laws.specs.ElementLemmas.{unserved_at_start}
use Rattle.element_rows.specs.Flat.{total, sum_below}
use Rattle.element_rows.specs.Rows.{Running, places, AreRunning}
use Rattle.element_load.specs.Load.{moves, refusals, stored, owed, all_stored, all_owed, load}
use Rattle.element_load.specs.LoadLaws.{befores, Balances, IsLoaded, contents_after, all_lost, greatest, LoadIs, LoadsOfRuns}
use Rattle.element_load.specs.FallLemmas.{moves-is, refusals-is}
use Rattle.element_load.specs.RowFalls.{balances}
use Rattle.element_load.specs.LineLemmas.{sum_scaled}
use Rattle.element_rows.specs.SumLemmas.{totals_same}
use Rattle.element_load.specs.DrainLemmas.{earlier_loaded}
use Rattle.element_rows.specs.SumLemmas.{sum_of_none}

-- ---- at the start

stored_at_reset : (element : Element) (outputs : ℕ → ℕ) → stored element outputs (reset element) ≡ 0
stored_at_reset stage outputs = omega arith
stored_at_reset (fifo depth) outputs = omega arith
stored_at_reset as_fifo outputs = refl
stored_at_reset as_vr outputs = refl
stored_at_reset (map_by f) outputs = refl
stored_at_reset (scan_by step start) outputs = refl
stored_at_reset (fork branches) outputs = refl
stored_at_reset join outputs = refl

owed_at_reset : (element : Element) (outputs : ℕ → ℕ) → owed element outputs (reset element) ≡ 0
owed_at_reset (fork branches) outputs =
    sum_of_none (λ k. if flag (reset (fork branches)) k then 1 + outputs k else 0) branches
    (λ k h. let counted : Bool → ℕ = λ b. if b then 1 + outputs k else 0 in ap counted (unserved_at_start branches k))
owed_at_reset stage outputs = refl
owed_at_reset (fifo depth) outputs = refl
owed_at_reset as_fifo outputs = refl
owed_at_reset as_vr outputs = refl
owed_at_reset (map_by f) outputs = refl
owed_at_reset (scan_by step start) outputs = refl
owed_at_reset join outputs = refl

all_stored_at_reset : {C : Type 0} (weight : ℕ → ℕ) (made : ℕ) (row : List (Running C)) → all_stored weight made (places row) (contents_after row []) ≡ 0
all_stored_at_reset weight made [] = refl
all_stored_at_reset weight made (r ∷ row) =
    omega (arith, stored_at_reset r.placed.element (λ k. weight (made + k)), all_stored_at_reset weight (made + output_count r.placed.element) row)

all_owed_at_reset : {C : Type 0} (weight : ℕ → ℕ) (made : ℕ) (row : List (Running C)) → all_owed weight made (places row) (contents_after row []) ≡ 0
all_owed_at_reset weight made [] = refl
all_owed_at_reset weight made (r ∷ row) =
    omega (arith, owed_at_reset r.placed.element (λ k. weight (made + k)), all_owed_at_reset weight (made + output_count r.placed.element) row)

-- ---- cycle by cycle

pub begun_with : {C : Type 0} (channels : ℕ → Channel C) (made : ℕ) (row : List (Running C)) (cycle : C) (earlier : List C) → AreRunning channels made row (cycle ∷ earlier)
    → befores row cycle ≡ contents_after row earlier
begun_with channels made [] cycle earlier running = refl
begun_with channels made (r ∷ row) cycle earlier running =
    ap (λ now. now ∷ befores row cycle) running.0.1
    ∙ ap (λ contents. reached r.after (reset r.placed.element) earlier ∷ contents) (begun_with channels (made + output_count r.placed.element) row cycle earlier running.1)

sum_more : (weight old moved new : ℕ → ℕ) (n : ℕ) → ((c : ℕ) → c < n → new c ≡ old c + moved c)
    → sum_below (λ c. weight c * new c) n ≡ sum_below (λ c. weight c * old c) n + sum_below (λ c. weight c * moved c) n
sum_more weight old moved new zero e = refl
sum_more weight old moved new (suc n) e =
    let here : weight n * new n ≡ weight n * (old n + moved n) = ap (λ z. weight n * z) (e n (omega arith)) in
    let before : sum_below (λ c. weight c * new c) n ≡ sum_below (λ c. weight c * old c) n + sum_below (λ c. weight c * moved c) n = sum_more weight old moved new n (λ c h. e c (omega arith)) in
    omega arith

sum_at_most : (weight count : ℕ → ℕ) (n most : ℕ) → ((c : ℕ) → c < n → weight c ≤ most) → sum_below (λ c. weight c * count c) n ≤ most * sum_below count n
sum_at_most weight count zero most e = omega arith
sum_at_most weight count (suc n) most e =
    let here : weight n * count n ≤ most * count n = scaled_by (weight n) most (count n) (e n (omega arith)) in
    let before : sum_below (λ c. weight c * count c) n ≤ most * sum_below count n = sum_at_most weight count n most (λ c h. e c (omega arith)) in
    omega arith
  where
    scaled_by : (a b c : ℕ) → a ≤ b → a * c ≤ b * c
    scaled_by a b c h = grind arith

pub within_greatest : (f : ℕ → ℕ) (n c : ℕ) → c < n → f c ≤ greatest f n
within_greatest f zero c h = absurd (omega arith)
within_greatest f (suc n) c h = grind (arith, within_greatest f n c)

module _ {C : Type 0} (weight : ℕ → ℕ) (channels : ℕ → Channel C) (servers : ℕ) (row : List (Running C)) (clients : List ℕ) where
  count_more : (c : ℕ) (cycle : C) (earlier : List C) → length (transfers (channels c) (cycle ∷ earlier)) ≡ length (transfers (channels c) earlier) + moves (channels c cycle)
  count_more c cycle earlier =
      length-append (transfers (channels c) earlier) (transferred (channels c cycle)) ∙ ap (λ n. length (transfers (channels c) earlier) + n) (moves-is (channels c cycle))

  out_is : (history : List C) → IsLoaded weight channels servers row clients history → (cycle : C) → total (λ c. weight c * moves (channels c cycle)) clients ≡ total (λ c. 2 * moves (channels c cycle)) clients
  out_is history loaded cycle = totals_same (λ c. weight c * moves (channels c cycle)) (λ c. 2 * moves (channels c cycle)) clients (λ c h. ap (λ w. w * moves (channels c cycle)) (loaded.weights.clients_weigh c h))

  run_balance : (history : List C) → IsLoaded weight channels servers row clients history
      → all_stored weight servers (places row) (contents_after row history) + all_lost channels servers row clients history
      ≡ sum_below (λ c. weight c * length (transfers (channels c) history)) servers + all_owed weight servers (places row) (contents_after row history)
  run_balance [] loaded =
      omega (
        arith,
        all_stored_at_reset weight servers row,
        all_owed_at_reset weight servers row,
        sum_of_none (λ c. weight c * length (transfers (channels c) [])) servers (λ c h. (let z : weight c * 0 ≡ 0 = omega arith in z)),
      )
  run_balance (cycle ∷ earlier) loaded =
      let before = begun_with channels servers row cycle earlier loaded.running in
      let stored_same : all_stored weight servers (places row) (befores row cycle) ≡ all_stored weight servers (places row) (contents_after row earlier) = ap (all_stored weight servers (places row)) before in
      let owed_same : all_owed weight servers (places row) (befores row cycle) ≡ all_owed weight servers (places row) (contents_after row earlier) = ap (all_owed weight servers (places row)) before in
      let b : Balances weight channels servers row clients cycle = balances weight channels clients cycle servers row earlier loaded in
      omega (
        arith,
        run_balance earlier (earlier_loaded weight channels servers row clients cycle earlier loaded),
        b.balance,
        stored_same,
        owed_same,
        out_is (cycle ∷ earlier) loaded cycle,
        sum_more weight (λ c. length (transfers (channels c) earlier)) (λ c. moves (channels c cycle)) (λ c. length (transfers (channels c) (cycle ∷ earlier))) servers (λ c h. count_more c cycle earlier),
      )

  -- no more is taken off than is held or stands in line
  pub run_covered : (in_line : ℕ → ℕ) (history : List C) → IsLoaded weight channels servers row clients history → ((c : ℕ) → c < servers → length (last_refused (channels c) history) ≤ in_line c)
      → all_owed weight servers (places row) (contents_after row history) ≤ all_stored weight servers (places row) (contents_after row history) + sum_below (λ c. weight c * in_line c) servers
  run_covered in_line [] loaded lines = omega (arith, all_owed_at_reset weight servers row)
  run_covered in_line (cycle ∷ earlier) loaded lines =
      let b : Balances weight channels servers row clients cycle = balances weight channels clients cycle servers row earlier loaded in
      omega (
        arith,
        b.left_covered,
        sum_scaled weight (λ c. refusals (channels c cycle)) in_line servers (λ c h. let r : length (last_refused (channels c) (cycle ∷ earlier)) ≤ in_line c = lines c h in omega (arith, refusals-is (channels c cycle))),
      )

  load_is : (in_line : ℕ → ℕ) (history : List C) → IsLoaded weight channels servers row clients history → ((c : ℕ) → c < servers → length (last_refused (channels c) history) ≤ in_line c)
      → load weight servers (places row) in_line (contents_after row history) + all_lost channels servers row clients history
      ≡ sum_below (λ c. weight c * (length (transfers (channels c) history) + in_line c)) servers
  load_is in_line history loaded lines =
      omega (
        arith,
        run_balance history loaded,
        run_covered in_line history loaded lines,
        sum_more weight (λ c. length (transfers (channels c) history)) in_line (λ c. length (transfers (channels c) history) + in_line c) servers (λ c h. refl),
      )

  pub load_of_run : (in_line : ℕ → ℕ) (history : List C) → IsLoaded weight channels servers row clients history → ((c : ℕ) → c < servers → length (last_refused (channels c) history) ≤ in_line c)
      → LoadIs weight channels servers row clients in_line history
  load_of_run in_line history loaded lines = record {
    is = load_is in_line history loaded lines;
    within = omega (
      arith,
      load_is in_line history loaded lines,
      sum_at_most weight (λ c. length (transfers (channels c) history) + in_line c) servers (greatest weight servers) (λ c h. within_greatest weight servers c h),
    );
  }

pub loads_of_runs : {C : Type 0} → LoadsOfRuns C
loads_of_runs weight channels servers row clients in_line history loaded lines = load_of_run weight channels servers row clients in_line history loaded lines
