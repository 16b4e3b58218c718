-- The load with the values that stand in line.
use Rattle.std.specs.Prelude.{◌≡◌, ℕ, zero, suc, ◌+◌, ◌-◌, ◌*◌, ◌<◌, ◌≤◌, ◌&&◌, nat_lt, Bool, true, false, List, [], ◌∷◌, if◌then◌else◌, refl}
use Rattle.std.proofs.Common.{sym, ◌∙◌, ap, arith}
use Rattle.std.proofs.lemmas.Bool.Decides.{nat_tests}
use Rattle.element_laws.specs.Signals.{Signals}
use Rattle.element_laws.specs.Histories.{Channel}
use Rattle.element_rows.specs.Flat.{channel_count, total, sum_below}
use Rattle.element_rows.specs.Rows.{Running, places}
use Rattle.element_load.specs.Load.{moves, waits, refusals, all_stored, all_owed, all_spent, load}
use Rattle.element_load.specs.LoadLaws.{befores, afters, Balances, IsLoaded, OffersLine, AreReady, lost, LoadsFall}
use Rattle.element_load.specs.FallLemmas.{waits-split}
use Rattle.element_load.specs.RowFalls.{balances}
use Rattle.element_rows.specs.StreamLemmas.{channels_grow}
use Rattle.element_rows.specs.SumLemmas.{sums_below, sum_of_none, totals_same}

pub total_twice : (f : ℕ → ℕ) (xs : List ℕ) → total (λ c. 2 * f c) xs ≡ 2 * total f xs
total_twice f [] = refl
total_twice f (x ∷ xs) = let rest : total (λ c. 2 * f c) xs ≡ 2 * total f xs = total_twice f xs in omega arith

-- a ready channel moves what is offered
ready_moves : (s : Signals) → s.ready ≡ true → moves s ≡ waits s
ready_moves s r = by_cases s.valid s.ready r
  where
    by_cases : (valid ready : Bool) → ready ≡ true → ◌≡◌ {A = ℕ} (if valid && ready then 1 else 0) (if valid then 1 else 0)
    by_cases true true r = refl
    by_cases true false r = absurd (cc)
    by_cases false ready r = refl

-- ---- lines

waits_line : (s : Signals) (n : ℕ) → s.valid ≡ nat_lt 0 n → waits s ≤ n
waits_line s n e = by_cases s.valid e
  where
    by_cases : (valid : Bool) → valid ≡ nat_lt 0 n → (if valid then 1 else 0) ≤ n
    by_cases true e = grind (arith, nat_tests)
    by_cases false e = omega arith

empty_line : (s : Signals) (n : ℕ) → s.valid ≡ nat_lt 0 n → waits s ≡ 0 → n ≡ 0
empty_line s n e w = by_cases s.valid e w
  where
    by_cases : (valid : Bool) → valid ≡ nat_lt 0 n → ◌≡◌ {A = ℕ} (if valid then 1 else 0) 0 → n ≡ 0
    by_cases true e w = absurd (omega arith)
    by_cases false e w = grind (arith, nat_tests)

scaled : (w a b : ℕ) → a ≤ b → w * a ≤ w * b
scaled w a b h = grind arith

sum_moved : (weight left moved in_line : ℕ → ℕ) (n : ℕ) → ((c : ℕ) → c < n → left c + moved c ≡ in_line c)
    → sum_below (λ c. weight c * left c) n + sum_below (λ c. weight c * moved c) n ≡ sum_below (λ c. weight c * in_line c) n
sum_moved weight left moved in_line zero e = refl
sum_moved weight left moved in_line (suc n) e =
    let here : weight n * (left n + moved n) ≡ weight n * in_line n = ap (λ z. weight n * z) (e n (omega arith)) in
    let before : sum_below (λ c. weight c * left c) n + sum_below (λ c. weight c * moved c) n ≡ sum_below (λ c. weight c * in_line c) n =
    sum_moved weight left moved in_line n (λ c h. e c (omega arith)) in
    omega arith

pub sum_scaled : (weight a b : ℕ → ℕ) (n : ℕ) → ((c : ℕ) → c < n → a c ≤ b c) → sum_below (λ c. weight c * a c) n ≤ sum_below (λ c. weight c * b c) n
sum_scaled weight a b n e = sums_below (λ c. weight c * a c) (λ c. weight c * b c) n (λ c h. scaled (weight c) (a c) (b c) (e c h))

-- the two loads, as numbers
falls_by : (line rest moved before_held after_held before_owed after_owed out spent : ℕ) → rest + moved ≡ line
    → after_held + before_owed + out + spent ≡ before_held + after_owed + moved → before_owed ≤ before_held + line → after_owed ≤ after_held + rest
    → ((rest + after_held) - after_owed) + (out + spent) ≡ (line + before_held) - before_owed
falls_by line rest moved before_held after_held before_owed after_owed out spent e b c d = omega arith

module _ {C : Type 0} (weight : ℕ → ℕ) (channels : ℕ → Channel C) (servers : ℕ) (row : List (Running C)) (clients : List ℕ) (cycle : C) (earlier : List C) (in_line left : ℕ → ℕ)
    (loaded : IsLoaded weight channels servers row clients (cycle ∷ earlier)) (line : OffersLine channels servers in_line left cycle) where
  balanced : Balances weight channels servers row clients cycle
  balanced = balances weight channels clients cycle servers row earlier loaded

  out_is : total (λ c. weight c * moves (channels c cycle)) clients ≡ total (λ c. 2 * moves (channels c cycle)) clients
  out_is = totals_same (λ c. weight c * moves (channels c cycle)) (λ c. 2 * moves (channels c cycle)) clients
      (λ c h. ap (λ w. w * moves (channels c cycle)) (loaded.weights.clients_weigh c h))

  pub loses : load weight servers (places row) left (afters row cycle) + lost channels servers row clients cycle ≡ load weight servers (places row) in_line (befores row cycle)
  loses =
      falls_by (sum_below (λ c. weight c * in_line c) servers) (sum_below (λ c. weight c * left c) servers) (sum_below (λ c. weight c * moves (channels c cycle)) servers)
      (all_stored weight servers (places row) (befores row cycle)) (all_stored weight servers (places row) (afters row cycle))
      (all_owed weight servers (places row) (befores row cycle)) (all_owed weight servers (places row) (afters row cycle))
      (total (λ c. 2 * moves (channels c cycle)) clients) (all_spent (λ c. channels c cycle) servers (places row))
      (sum_moved weight left (λ c. moves (channels c cycle)) in_line servers line.loses)
      (omega (arith, balanced.balance, out_is))
      (omega (arith, balanced.covered, sum_scaled weight (λ c. waits (channels c cycle)) in_line servers (λ c h. waits_line (channels c cycle) (in_line c) (line.offers c h))))
      (omega (
        arith,
        balanced.left_covered,
        sum_scaled weight (λ c. refusals (channels c cycle)) left servers
            (λ c h. omega (arith, waits_line (channels c cycle) (in_line c) (line.offers c h), waits-split (channels c cycle), line.loses c h)),
      ))

  -- where all clients are ready and nothing is lost, nothing is under way
  pub record Rest : Type 0 where
    pub no_line : (c : ℕ) → c < servers → in_line c ≡ 0
    pub waiting : (c : ℕ) → c < channel_count servers (places row) → waits (channels c cycle) ≡ 0
    pub no_load : load weight servers (places row) in_line (befores row cycle) ≡ 0

  pub rests : AreReady channels clients cycle → lost channels servers row clients cycle ≡ 0 → Rest
  rests ready none =
      let spent : all_spent (λ c. channels c cycle) servers (places row) ≡ 0 = omega arith in
      let out : total (λ c. moves (channels c cycle)) clients ≡ 0 = omega (arith, total_twice (λ c. moves (channels c cycle)) clients) in
      let quiet : total (λ c. waits (channels c cycle)) clients ≡ 0 =
      sym (totals_same (λ c. moves (channels c cycle)) (λ c. waits (channels c cycle)) clients (λ c h. ready_moves (channels c cycle) (ready.ready c h))) ∙ out in
      let waiting : (c : ℕ) → c < channel_count servers (places row) → waits (channels c cycle) ≡ 0 = balanced.still_waits spent quiet in
      let empty : (c : ℕ) → c < servers → in_line c ≡ 0 = λ c h. empty_line (channels c cycle) (in_line c) (line.offers c h) (waiting c (omega (arith, channels_grow servers (places row)))) in
      let nothing_in_line : sum_below (λ c. weight c * in_line c) servers ≡ 0 = sum_of_none (λ c. weight c * in_line c) servers (λ c h. ap (λ n. weight c * n) (empty c h) ∙ (let z : weight c * 0 ≡ 0 = omega arith in z)) in
      record { no_line = empty; waiting = waiting; no_load = omega (arith, nothing_in_line, balanced.still_holds spent quiet) }

  pub falls : AreReady channels clients cycle → 0 < load weight servers (places row) in_line (befores row cycle)
      → load weight servers (places row) left (afters row cycle) < load weight servers (places row) in_line (befores row cycle)
  falls ready some = by_cases (lost channels servers row clients cycle) refl
    where
      by_cases : (n : ℕ) → lost channels servers row clients cycle ≡ n → load weight servers (places row) left (afters row cycle) < load weight servers (places row) in_line (befores row cycle)
      by_cases zero e = absurd (omega (arith, (rests ready e).no_load))
      by_cases (suc n) e = omega (arith, loses)

pub loads_fall : {C : Type 0} → LoadsFall C
loads_fall weight channels servers row clients cycle earlier in_line left loaded line = record {
  loses = loses weight channels servers row clients cycle earlier in_line left loaded line;
  falls = falls weight channels servers row clients cycle earlier in_line left loaded line;
}
