-- After as many cycles as the load says, all has arrived.
use Rattle.std.specs.Prelude.{◌≡◌, ℕ, zero, suc, ◌+◌, ◌-◌, ◌*◌, ◌<◌, ◌≤◌, Bool, true, false, List, [], ◌∷◌, if◌then◌else◌, refl}
use Rattle.std.proofs.Common.{sym, ◌∙◌, ap, subst, arith}
use Rattle.element_laws.specs.Signals.{Signals}
use Rattle.element_laws.specs.Histories.{Channel}
use Rattle.element_laws.specs.Elements.{output_count, Contents}
use Rattle.element_laws.specs.ForkLemmas.{earlier_keeps}
use Rattle.element_rows.specs.Flat.{Placed, channel_count, sum_below}
use Rattle.element_rows.specs.Rows.{Running, places, AreRunning}
use Rattle.element_load.specs.Load.{waits, all_stored, all_owed, load}
use Rattle.element_load.specs.LoadLaws.{befores, afters, IsLoaded, OffersLine, AreReady, lost, LoadFalls, Drains, first_load, AllArrive}
use Rattle.element_load.specs.LineLemmas.{loads_fall, Rest, rests}
use Rattle.element_rows.specs.RestLemmas.{rest_is_whole}
use Rattle.element_rows.specs.SumLemmas.{sums_same}

-- ---- one cycle back

earlier_running : {C : Type 0} (channels : ℕ → Channel C) (made : ℕ) (row : List (Running C)) (cycle : C) (earlier : List C) → AreRunning channels made row (cycle ∷ earlier) → AreRunning channels made row earlier
earlier_running channels made [] cycle earlier running = tt
earlier_running channels made (r ∷ row) cycle earlier running = (running.0.2, earlier_running channels (made + output_count r.placed.element) row cycle earlier running.1)

pub earlier_loaded : {C : Type 0} (weight : ℕ → ℕ) (channels : ℕ → Channel C) (servers : ℕ) (row : List (Running C)) (clients : List ℕ) (cycle : C) (earlier : List C)
    → IsLoaded weight channels servers row clients (cycle ∷ earlier) → IsLoaded weight channels servers row clients earlier
earlier_loaded weight channels servers row clients cycle earlier loaded = record {
  flat = loaded.flat;
  can_take = loaded.can_take;
  weights = loaded.weights;
  running = earlier_running channels servers row cycle earlier loaded.running;
  keeps = λ c h. earlier_keeps (channels c) cycle earlier (loaded.keeps c h);
}

-- a cycle begins with what the one before it left
held_on : {C : Type 0} (channels : ℕ → Channel C) (made : ℕ) (row : List (Running C)) (cycle old : C) (earlier : List C) → AreRunning channels made row (cycle ∷ old ∷ earlier) → befores row cycle ≡ afters row old
held_on channels made [] cycle old earlier running = refl
held_on channels made (r ∷ row) cycle old earlier running =
    ap (λ now. now ∷ befores row cycle) running.0.1 ∙ ap (λ contents. r.after old ∷ contents) (held_on channels (made + output_count r.placed.element) row cycle old earlier running.1)

load_same : (weight : ℕ → ℕ) (servers : ℕ) (placed : List Placed) (a b : ℕ → ℕ) (old new : List Contents) → ((c : ℕ) → c < servers → a c ≡ b c) → old ≡ new
    → load weight servers placed a old ≡ load weight servers placed b new
load_same weight servers placed a b old new e same =
    ap (λ n. (n + all_stored weight servers placed old) - all_owed weight servers placed old)
    (sums_same (λ c. weight c * a c) (λ c. weight c * b c) servers (λ c h. ap (λ n. weight c * n) (e c h)))
    ∙ ap (λ contents. (sum_below (λ c. weight c * b c) servers + all_stored weight servers placed contents) - all_owed weight servers placed contents) same

-- the load after a cycle in which it falls if there is any
fallen : (before after gone first count : ℕ) → after + gone ≡ before → (0 < before → after < before) → before ≤ first - count → after ≤ first - suc count
fallen zero after gone first count e falls h = omega arith
fallen (suc before) after gone first count e falls h = let less : after < suc before = falls (omega arith) in omega arith

valid_none : (s : Signals) → waits s ≡ 0 → s.valid ≡ false
valid_none s e = by_cases s.valid e
  where
    by_cases : (valid : Bool) → ◌≡◌ {A = ℕ} (if valid then 1 else 0) 0 → valid ≡ false
    by_cases true e = absurd (omega arith)
    by_cases false e = refl

module _ {C : Type 0} (weight : ℕ → ℕ) (channels : ℕ → Channel C) (servers : ℕ) (row : List (Running C)) (clients : List ℕ) (in_line left : C → ℕ → ℕ) where
  newest_line : (count : ℕ) (cycle : C) (earlier : List C) → Drains channels servers clients in_line left count (cycle ∷ earlier) → OffersLine channels servers (in_line cycle) (left cycle) cycle
  newest_line zero cycle earlier drains = drains.0
  newest_line (suc count) cycle [] drains = absurd drains
  newest_line (suc count) cycle (old ∷ earlier) drains = drains.0

  newest_ready : (count : ℕ) (cycle : C) (earlier : List C) → Drains channels servers clients in_line left count (cycle ∷ earlier) → AreReady channels clients cycle
  newest_ready zero cycle earlier drains = drains.1
  newest_ready (suc count) cycle [] drains = absurd drains
  newest_ready (suc count) cycle (old ∷ earlier) drains = drains.1

  load_falls_by : (count : ℕ) (cycle : C) (earlier : List C) → IsLoaded weight channels servers row clients (cycle ∷ earlier) → Drains channels servers clients in_line left count (cycle ∷ earlier)
      → load weight servers (places row) (in_line cycle) (befores row cycle) ≤ first_load weight servers row in_line count (cycle ∷ earlier) - count
  load_falls_by zero cycle earlier loaded drains = omega arith
  load_falls_by (suc count) cycle [] loaded drains = absurd drains
  load_falls_by (suc count) cycle (old ∷ earlier) loaded drains =
      let loaded_before : IsLoaded weight channels servers row clients (old ∷ earlier) = earlier_loaded weight channels servers row clients cycle (old ∷ earlier) loaded in
      let before : load weight servers (places row) (in_line old) (befores row old) ≤ first_load weight servers row in_line count (old ∷ earlier) - count = load_falls_by count old earlier loaded_before drains.3 in
      let fall : LoadFalls weight channels servers row clients (in_line old) (left old) old =
      loads_fall weight channels servers row clients old earlier (in_line old) (left old) loaded_before (newest_line count old earlier drains.3) in
      let same : load weight servers (places row) (in_line cycle) (befores row cycle) ≡ load weight servers (places row) (left old) (afters row old) =
      load_same weight servers (places row) (in_line cycle) (left old) (befores row cycle) (afters row old) drains.2 (held_on channels servers row cycle old earlier loaded.running) in
      subst (λ n. n ≤ first_load weight servers row in_line count (old ∷ earlier) - suc count) (sym same)
      (fallen (load weight servers (places row) (in_line old) (befores row old)) (load weight servers (places row) (left old) (afters row old)) (lost channels servers row clients old)
      (first_load weight servers row in_line count (old ∷ earlier)) count fall.loses (fall.falls (newest_ready count old earlier drains.3)) before)

pub all_arrive : {C : Type 0} → AllArrive C
all_arrive weight channels servers row clients in_line left count cycle earlier loaded drains enough =
    let line = newest_line weight channels servers row clients in_line left count cycle earlier drains in
    let none : load weight servers (places row) (in_line cycle) (befores row cycle) ≡ 0 =
    omega (arith, load_falls_by weight channels servers row clients in_line left count cycle earlier loaded drains) in
    let fall : LoadFalls weight channels servers row clients (in_line cycle) (left cycle) cycle = loads_fall weight channels servers row clients cycle earlier (in_line cycle) (left cycle) loaded line in
    let rest : Rest weight channels servers row clients cycle earlier (in_line cycle) (left cycle) loaded line =
    rests weight channels servers row clients cycle earlier (in_line cycle) (left cycle) loaded line (newest_ready weight channels servers row clients in_line left count cycle earlier drains)
    (omega (arith, fall.loses, none)) in
    let silent : (c : ℕ) → c < channel_count servers (places row) → (channels c cycle).valid ≡ false = λ c h. valid_none (channels c cycle) (rest.waiting c h) in
    record {
      no_line = rest.no_line;
      silent = silent;
      whole = rest_is_whole channels servers row cycle earlier loaded.flat.earlier loaded.running loaded.keeps silent;
    }
