-- How the load of a session falls over its cycles.
use Rattle.std.specs.Prelude.{◌≡◌, ℕ, zero, suc, ◌+◌, ◌-◌, ◌*◌, ◌<◌, ◌≤◌, ◌==◌, ◌&&◌, ◌||◌, not, nat_lt, if◌then◌else◌, Bool, true, false, List, [], ◌∷◌, length, refl}
use Rattle.std.proofs.Common.{sym, ◌∙◌, ap, subst, arith, length-append}
use Rattle.std.proofs.lemmas.Bool.Decides.{nat_tests}
use Rattle.element_laws.specs.Signals.{Signals, Bits, transferred, refused}
use Rattle.element_laws.specs.Elements.{Contents}
use Rattle.element_laws.specs.Histories.{Channel, transfers, last_refused}
use Rattle.element_rows.specs.Flat.{Placed, total, sum_below, among}
use Rattle.element_rows.specs.Rows.{Running, places}
use Rattle.element_rows.specs.RestLemmas.{rest_is_whole}
use Rattle.element_rows.specs.SumLemmas.{sums_same, none_in_sum, sum_of_none, totals_same}
use Rattle.element_load.specs.Load.{moves, waits, all_stored, all_owed, load}
use Rattle.element_load.specs.LoadLaws.{befores, IsLoaded, AreReady, lost, greatest, contents_after}
use Rattle.element_load.specs.DrainLemmas.{earlier_loaded}
use Rattle.element_load.specs.LineLemmas.{total_twice, Rest, rests}
use Rattle.element_load.specs.RunLoadLemmas.{begun_with, within_greatest, loads_of_runs}
use Rattle.session_load.specs.Session.{Queues, session_load, session_lost, SessionFalls}
use Rattle.session_load.specs.SessionLemmas.{sessions_fall}
use Rattle.session_runs.specs.Runs.{Account, left_by, IsSession, all_puts, puts_on, handed_on, Quiet, HasSettled, SessionsSettle}

-- ---- one channel in one cycle

length_moved : (s : Signals) → length (transferred s) ≡ moves s
length_moved s = by_cases s.word (s.valid && s.ready)
  where
    by_cases : (word : Bits) (moved : Bool) → length (if moved then word ∷ [] else []) ≡ (if moved then 1 else 0)
    by_cases word true = refl
    by_cases word false = refl

refused_stays : (s : Signals) (in_line left : ℕ) → s.valid ≡ nat_lt 0 in_line → left + moves s ≡ in_line → length (refused s) ≤ left
refused_stays s in_line left offers loses = by_cases s.word s.valid s.ready offers loses
  where
    by_cases : (word : Bits) (valid ready : Bool) → valid ≡ nat_lt 0 in_line → left + (if valid && ready then 1 else 0) ≡ in_line → length (if valid && not ready then word ∷ [] else []) ≤ left
    by_cases word true true offers loses = omega arith
    by_cases word true false offers loses = grind (arith, nat_tests)
    by_cases word false ready offers loses = omega arith

not_valid : (s : Signals) → waits s ≡ 0 → s.valid ≡ false
not_valid s e = by_cases s.valid e
  where
    by_cases : (valid : Bool) → ◌≡◌ {A = ℕ} (if valid then 1 else 0) 0 → valid ≡ false
    by_cases true e = absurd (omega arith)
    by_cases false e = refl

-- ---- sums

sum_put : (weight old puts new : ℕ → ℕ) (n : ℕ) → ((c : ℕ) → c < n → new c ≡ old c + puts c)
    → sum_below (λ c. (1 + weight c) * new c) n ≡ sum_below (λ c. (1 + weight c) * old c) n + sum_below (λ c. (1 + weight c) * puts c) n
sum_put weight old puts new zero e = refl
sum_put weight old puts new (suc n) e =
    let here : (1 + weight n) * new n ≡ (1 + weight n) * (old n + puts n) = ap (λ z. (1 + weight n) * z) (e n (omega arith)) in
    let before = sum_put weight old puts new n (λ c h. e c (omega (arith, h))) in
    omega (arith, here, before)

scaled_by : (a b c : ℕ) → a ≤ b → (1 + a) * c ≤ (1 + b) * c
scaled_by a b c h = grind arith

sum_bounded : (weight count : ℕ → ℕ) (n most : ℕ) → ((c : ℕ) → c < n → weight c ≤ most) → sum_below (λ c. (1 + weight c) * count c) n ≤ (1 + most) * sum_below count n
sum_bounded weight count zero most e = omega arith
sum_bounded weight count (suc n) most e =
    let here = scaled_by (weight n) most (count n) (e n (omega arith)) in
    let before = sum_bounded weight count n most (λ c h. e c (omega (arith, h))) in
    omega (arith, here, before)

total_of_nothing : (xs : List ℕ) → total (λ c. 0) xs ≡ 0
total_of_nothing [] = refl
total_of_nothing (x ∷ xs) = let rest : total (λ c. 0) xs ≡ 0 = total_of_nothing xs in omega (arith, rest)

none_in_total : (f : ℕ → ℕ) (xs : List ℕ) → total f xs ≡ 0 → (c : ℕ) → among c xs ≡ true → f c ≡ 0
none_in_total f [] e c h = absurd (cc)
none_in_total f (x ∷ xs) e c h = by_cases (c == x) refl h (none_in_total f xs (omega (arith, e)) c)
  where
    by_cases : (b : Bool) → (c == x) ≡ b → (b || among c xs) ≡ true → (among c xs ≡ true → f c ≡ 0) → f c ≡ 0
    by_cases true same h rest = ap f (let e : c ≡ x = grind (arith, nat_tests) in e) ∙ (let z : f x ≡ 0 = omega arith in z)
    by_cases false other h rest = rest h

-- a product that is nothing
no_product : (w x : ℕ) → (1 + w) * x ≡ 0 → x ≡ 0
no_product w x e = omega (arith, e)

load_same : (weight : ℕ → ℕ) (servers : ℕ) (placed : List Placed) (a b : ℕ → ℕ) (old new : List Contents) → ((c : ℕ) → c < servers → a c ≡ b c) → old ≡ new
    → load weight servers placed a old ≡ load weight servers placed b new
load_same weight servers placed a b old new e same =
    ap (λ n. (n + all_stored weight servers placed old) - all_owed weight servers placed old)
    (sums_same (λ c. weight c * a c) (λ c. weight c * b c) servers (λ c h. ap (λ n. weight c * n) (e c h)))
    ∙ ap (λ contents. (sum_below (λ c. weight c * b c) servers + all_stored weight servers placed contents) - all_owed weight servers placed contents) same

-- the load behind a cycle in which it falls if there is any
fallen : (before after lost first count : ℕ) → after + lost ≡ before → (0 < before → after < before) → before ≤ first - count → after ≤ first - suc count
fallen zero after lost first count e falls h = omega arith
fallen (suc before) after lost first count e falls h = let less : after < suc before = falls (omega arith) in omega arith

-- ---- a session

module _ {C : Type 0} (weight : ℕ → ℕ) (channels : ℕ → Channel C) (servers : ℕ) (row : List (Running C)) (clients : List ℕ) (account : Account C) where
  abbrev load_behind : List C → ℕ
  load_behind history = session_load weight servers (places row) clients (left_by account history) (contents_after row history)

  -- a word that was refused in the newest cycle still stands in its ring
  refused_left : (cycle : C) (earlier : List C) → IsSession channels servers clients account (cycle ∷ earlier) → (c : ℕ) → c < servers → length (last_refused (channels c) earlier) ≤ (account.old cycle).to_server c
  refused_left cycle [] session c lt = omega arith
  refused_left cycle (before ∷ earlier) session c lt =
      let line = session.2.0.line in
      let begun = session.1.to_server c lt in
      let stays : length (refused (channels c before)) ≤ (account.new before).to_server c = refused_stays (channels c before) (account.in_line before c) ((account.new before).to_server c) (line.offers c lt) (line.loses c lt) in
      subst (λ n. length (refused (channels c before)) ≤ n) (sym begun) stays

  module _ (cycle : C) (earlier : List C) (loaded : IsLoaded weight channels servers row clients (cycle ∷ earlier)) (session : IsSession channels servers clients account (cycle ∷ earlier)) where
    one_cycle : SessionFalls weight channels servers row clients (account.old cycle) (account.new cycle) (account.handed cycle) cycle
    one_cycle =
        sessions_fall weight channels servers row clients cycle earlier (account.old cycle) (account.new cycle) (account.in_line cycle) (account.handed cycle) loaded (refused_left cycle earlier session) session.0

    -- what is put adds to the load
    with_puts : session_load weight servers (places row) clients (account.old cycle) (befores row cycle) ≡ load_behind earlier + sum_below (λ c. (1 + weight c) * account.puts cycle c) servers
    with_puts =
        let left : Queues = left_by account earlier in
        let begins = session.1 in
        let waiting = sum_put weight left.waiting (account.puts cycle) (account.old cycle).waiting servers begins.waiting in
        let line = load_same weight servers (places row) (account.old cycle).to_server left.to_server (befores row cycle) (contents_after row earlier) begins.to_server (begun_with channels servers row cycle earlier loaded.running) in
        let out = totals_same (account.old cycle).to_client left.to_client clients begins.to_client in
        omega (arith, waiting, line, out)

    puts_weigh : sum_below (λ c. (1 + weight c) * account.puts cycle c) servers ≤ (1 + greatest weight servers) * sum_below (account.puts cycle) servers
    puts_weigh = sum_bounded weight (account.puts cycle) servers (greatest weight servers) (λ c h. within_greatest weight servers c h)

  begins_with_none : IsLoaded weight channels servers row clients [] → load_behind [] ≡ 0
  begins_with_none loaded =
      let is = (loads_of_runs weight channels servers row clients (λ c. 0) [] loaded (λ c h. omega arith)).is in
      let none : sum_below (λ c. weight c * (0 + 0)) servers ≡ 0 = sum_of_none (λ c. weight c * (0 + 0)) servers (λ c h. let z : weight c * (0 + 0) ≡ 0 = omega arith in z) in
      let no_wait : sum_below (λ c. (1 + weight c) * 0) servers ≡ 0 = sum_of_none (λ c. (1 + weight c) * 0) servers (λ c h. let z : (1 + weight c) * 0 ≡ 0 = omega arith in z) in
      omega (arith, is, none, no_wait, total_of_nothing clients)

  -- no more than came in
  load_bounded : (history : List C) → IsLoaded weight channels servers row clients history → IsSession channels servers clients account history → load_behind history ≤ (1 + greatest weight servers) * all_puts account servers history
  load_bounded [] loaded session = omega (arith, begins_with_none loaded)
  load_bounded (cycle ∷ earlier) loaded session =
      let before = load_bounded earlier (earlier_loaded weight channels servers row clients cycle earlier loaded) session.2 in
      let falls = (one_cycle cycle earlier loaded session).loses in
      omega (arith, before, falls, with_puts cycle earlier loaded session, puts_weigh cycle earlier loaded session)

  -- and less for each quiet cycle
  load_drains : (count : ℕ) (history : List C) → IsLoaded weight channels servers row clients history → IsSession channels servers clients account history → Quiet account servers count history
      → load_behind history ≤ (1 + greatest weight servers) * all_puts account servers history - count
  load_drains zero history loaded session quiet = omega (arith, load_bounded history loaded session)
  load_drains (suc count) [] loaded session quiet = absurd quiet
  load_drains (suc count) (cycle ∷ earlier) loaded session quiet =
      let before = load_drains count earlier (earlier_loaded weight channels servers row clients cycle earlier loaded) session.2 quiet.1 in
      let none : sum_below (account.puts cycle) servers ≡ 0 = quiet.0 in
      let same : (1 + greatest weight servers) * all_puts account servers (cycle ∷ earlier) ≡ (1 + greatest weight servers) * all_puts account servers earlier =
      ap (λ n. (1 + greatest weight servers) * n) (let e : sum_below (account.puts cycle) servers + all_puts account servers earlier ≡ all_puts account servers earlier = omega (arith, none) in e) in
      let no_put : (1 + greatest weight servers) * sum_below (account.puts cycle) servers ≡ 0 = ap (λ n. (1 + greatest weight servers) * n) none ∙ (let z : (1 + greatest weight servers) * 0 ≡ 0 = omega arith in z) in
      let fall = one_cycle cycle earlier loaded session in
      let begun : session_load weight servers (places row) clients (account.old cycle) (befores row cycle) ≤ (1 + greatest weight servers) * all_puts account servers earlier - count =
      omega (arith, before, with_puts cycle earlier loaded session, puts_weigh cycle earlier loaded session, no_put) in
      subst (λ n. load_behind (cycle ∷ earlier) ≤ n - suc count) (sym same)
      (fallen (session_load weight servers (places row) clients (account.old cycle) (befores row cycle)) (load_behind (cycle ∷ earlier))
      (session_lost channels servers row clients (account.old cycle) (account.new cycle) (account.handed cycle) cycle) ((1 + greatest weight servers) * all_puts account servers earlier) count fall.loses fall.falls begun)

  -- ---- what came in and went out

  all_come_in : (history : List C) → IsSession channels servers clients account history → (c : ℕ) → c < servers
      → (left_by account history).waiting c + (left_by account history).to_server c + length (transfers (channels c) history) ≡ puts_on account c history
  all_come_in [] session c lt = refl
  all_come_in (cycle ∷ earlier) session c lt =
      let before = all_come_in earlier session.2 c lt in
      let one = session.0 in
      omega (
        arith,
        before,
        session.1.waiting c lt,
        session.1.to_server c lt,
        one.takes c lt,
        one.line.loses c lt,
        length-append (transfers (channels c) earlier) (transferred (channels c cycle)),
        length_moved (channels c cycle),
      )

  all_go_out : (history : List C) → IsSession channels servers clients account history → (c : ℕ) → among c clients ≡ true
      → handed_on account c history + (left_by account history).to_client c ≡ length (transfers (channels c) history)
  all_go_out [] session c is = refl
  all_go_out (cycle ∷ earlier) session c is =
      let before = all_go_out earlier session.2 c is in
      let one = session.0 in
      omega (arith, before, session.1.to_client c is, one.hands c is, length-append (transfers (channels c) earlier) (transferred (channels c cycle)), length_moved (channels c cycle))

  -- ---- where no load is left

  module _ (cycle : C) (earlier : List C) (loaded : IsLoaded weight channels servers row clients (cycle ∷ earlier)) (session : IsSession channels servers clients account (cycle ∷ earlier))
      (none : session_load weight servers (places row) clients (account.old cycle) (befores row cycle) ≡ 0) where
    no_more : session_load weight servers (places row) clients (account.new cycle) (contents_after row (cycle ∷ earlier)) ≡ 0
    no_more = omega (arith, none, (one_cycle cycle earlier loaded session).loses)

    no_loss : session_lost channels servers row clients (account.old cycle) (account.new cycle) (account.handed cycle) cycle ≡ 0
    no_loss = omega (arith, none, (one_cycle cycle earlier loaded session).loses)

    no_client : (c : ℕ) → among c clients ≡ true → (account.old cycle).to_client c ≡ 0
    no_client c is = none_in_total (account.old cycle).to_client clients (omega (arith, none)) c is

    ready : AreReady channels clients cycle
    ready = record { ready = λ c is. session.0.has_room c is (no_client c is) }

    still : lost channels servers row clients cycle ≡ 0
    still = omega (arith, no_loss, total_twice (λ c. moves (channels c cycle)) clients)

    at_rest : Rest weight channels servers row clients cycle earlier (account.in_line cycle) (account.new cycle).to_server loaded session.0.line
    at_rest = rests weight channels servers row clients cycle earlier (account.in_line cycle) (account.new cycle).to_server loaded session.0.line ready still

    no_wait : (c : ℕ) → c < servers → (account.new cycle).waiting c ≡ 0
    no_wait c lt = no_product (weight c) ((account.new cycle).waiting c) (none_in_sum (λ d. (1 + weight d) * (account.new cycle).waiting d) servers (omega (arith, no_more)) c lt)

    no_line : (c : ℕ) → c < servers → (account.new cycle).to_server c ≡ 0
    no_line c lt = omega (arith, at_rest.no_line c lt, session.0.line.loses c lt)

    no_out : (c : ℕ) → among c clients ≡ true → (account.new cycle).to_client c ≡ 0
    no_out c is = none_in_total (account.new cycle).to_client clients (omega (arith, no_more)) c is

    pub settled : HasSettled channels servers row clients account cycle earlier
    settled = record {
      none_waits = no_wait;
      none_in_line = no_line;
      none_out = no_out;
      all_in = λ c lt. omega (arith, all_come_in (cycle ∷ earlier) session c lt, no_wait c lt, no_line c lt);
      all_handed = λ c is. omega (arith, all_go_out (cycle ∷ earlier) session c is, no_out c is);
      whole = rest_is_whole channels servers row cycle earlier loaded.flat.earlier loaded.running loaded.keeps (λ c h. not_valid (channels c cycle) (at_rest.waiting c h));
    }

pub sessions_do_settle : {C : Type 0} → SessionsSettle C
sessions_do_settle weight channels servers row clients account zero cycle earlier loaded session quiet enough = absurd (omega (arith, enough))
sessions_do_settle weight channels servers row clients account (suc count) cycle earlier loaded session quiet enough =
    let drained = load_drains weight channels servers row clients account count earlier (earlier_loaded weight channels servers row clients cycle earlier loaded) session.2 quiet.1 in
    let no_puts : sum_below (account.puts cycle) servers ≡ 0 = quiet.0 in
    let same : (1 + greatest weight servers) * all_puts account servers (cycle ∷ earlier) ≡ (1 + greatest weight servers) * all_puts account servers earlier =
    ap (λ n. (1 + greatest weight servers) * n) (let e : sum_below (account.puts cycle) servers + all_puts account servers earlier ≡ all_puts account servers earlier = omega (arith, no_puts) in e) in
    let no_put : (1 + greatest weight servers) * sum_below (account.puts cycle) servers ≡ 0 = ap (λ n. (1 + greatest weight servers) * n) no_puts ∙ (let z : (1 + greatest weight servers) * 0 ≡ 0 = omega arith in z) in
    let none : session_load weight servers (places row) clients (account.old cycle) (befores row cycle) ≡ 0 =
    omega (arith, drained, same, enough, no_put, with_puts weight channels servers row clients account cycle earlier loaded session, puts_weigh weight channels servers row clients account cycle earlier loaded session) in
    settled weight channels servers row clients account cycle earlier loaded session none
