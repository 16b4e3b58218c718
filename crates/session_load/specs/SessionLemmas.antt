-- The load of a session in one cycle.
use Rattle.std.specs.Prelude.{◌≡◌, ℕ, zero, suc, ◌+◌, ◌-◌, ◌*◌, ◌<◌, ◌≤◌, ◌==◌, ◌||◌, Bool, true, false, List, [], ◌∷◌, length, refl}
use Rattle.std.proofs.Common.{sym, ◌∙◌, ap, subst, arith}
use Rattle.std.proofs.lemmas.Bool.Decides.{nat_tests}
use Rattle.element_laws.specs.Histories.{Channel, last_refused}
use Rattle.element_rows.specs.Flat.{among, total, sum_below}
use Rattle.element_rows.specs.Rows.{Running, places}
use Rattle.element_rows.specs.SumLemmas.{sum_of_none, none_in_sum, totals_same}
use Rattle.element_load.specs.Load.{moves, all_stored, all_owed, load}
use Rattle.element_load.specs.LoadLaws.{IsLoaded, AreReady, LoadFalls, lost, befores, afters, contents_after}
use Rattle.element_load.specs.LineLemmas.{loads_fall, Rest, rests, total_twice}
use Rattle.element_load.specs.RunLoadLemmas.{run_covered, begun_with}
use Rattle.element_load.specs.DrainLemmas.{earlier_loaded}
use Rattle.session_load.specs.Session.{Queues, SessionCycle, session_load, session_lost, SessionsFall}

-- ---- sums over the clients

total-sum : (f g : ℕ → ℕ) (xs : List ℕ) → total (λ c. f c + g c) xs ≡ total f xs + total g xs
total-sum f g [] = refl
total-sum f g (x ∷ xs) = let rest : total (λ c. f c + g c) xs ≡ total f xs + total g xs = total-sum f g xs in omega arith

none_in_total : (f : ℕ → ℕ) (xs : List ℕ) → total f xs ≡ 0 → (c : ℕ) → among c xs ≡ true → f c ≡ 0
none_in_total f [] e c h = absurd (cc)
none_in_total f (x ∷ xs) e c h = by_cases (c == x) refl h (none_in_total f xs (omega arith) c)
  where
    by_cases : (b : Bool) → (c == x) ≡ b → (b || among c xs) ≡ true → (among c xs ≡ true → f c ≡ 0) → f c ≡ 0
    by_cases true same h rest = ap f (let e : c ≡ x = grind (arith, nat_tests) in e) ∙ (let z : f x ≡ 0 = omega arith in z)
    by_cases false other h rest = rest h

total_of_nothing : (xs : List ℕ) → total (λ c. 0) xs ≡ 0
total_of_nothing [] = refl
total_of_nothing (x ∷ xs) = let rest : total (λ c. 0) xs ≡ 0 = total_of_nothing xs in omega arith

-- ---- values that are taken

-- the weights of what waits: of what goes on waiting, one for each value taken, and its weight
sum_waiting : (weight old new : ℕ → ℕ) (n : ℕ) → ((c : ℕ) → c < n → new c ≤ old c)
    → sum_below (λ c. (1 + weight c) * old c) n ≡ sum_below (λ c. (1 + weight c) * new c) n + sum_below (λ c. old c - new c) n + sum_below (λ c. weight c * (old c - new c)) n
sum_waiting weight old new zero less = refl
sum_waiting weight old new (suc n) less =
    let here : new n ≤ old n = less n (omega arith) in
    let split : old n ≡ new n + (old n - new n) = omega arith in
    let one : (1 + weight n) * old n ≡ (1 + weight n) * (new n + (old n - new n)) = ap (λ z. (1 + weight n) * z) split in
    let before = sum_waiting weight old new n (λ c h. less c (omega arith)) in
    spread (weight n) (new n) (old n - new n) (sum_below (λ c. (1 + weight c) * old c) n) (sum_below (λ c. (1 + weight c) * new c) n) (sum_below (λ c. old c - new c) n)
    (sum_below (λ c. weight c * (old c - new c)) n) ((1 + weight n) * old n) before one
  where
    spread : (w new taken a b s t x : ℕ) → a ≡ b + s + t → x ≡ (1 + w) * (new + taken) → a + x ≡ (b + (1 + w) * new) + (s + taken) + (t + w * taken)
    spread w new taken a b s t x e f = omega arith

sum_line : (weight ring taken in_line : ℕ → ℕ) (n : ℕ) → ((c : ℕ) → c < n → ring c + taken c ≡ in_line c)
    → sum_below (λ c. weight c * ring c) n + sum_below (λ c. weight c * taken c) n ≡ sum_below (λ c. weight c * in_line c) n
sum_line weight ring taken in_line zero e = refl
sum_line weight ring taken in_line (suc n) e =
    let here : weight n * (ring n + taken n) ≡ weight n * in_line n = ap (λ z. weight n * z) (e n (omega arith)) in
    let before : sum_below (λ c. weight c * ring c) n + sum_below (λ c. weight c * taken c) n ≡ sum_below (λ c. weight c * in_line c) n = sum_line weight ring taken in_line n (λ c h. e c (omega arith)) in
    omega arith

module _ {C : Type 0} (weight : ℕ → ℕ) (channels : ℕ → Channel C) (servers : ℕ) (row : List (Running C)) (clients : List ℕ) (cycle : C) (earlier : List C)
    (old new : Queues) (in_line handed : ℕ → ℕ) (loaded : IsLoaded weight channels servers row clients (cycle ∷ earlier))
    (refused_left : (c : ℕ) → c < servers → length (last_refused (channels c) earlier) ≤ old.to_server c)
    (session : SessionCycle channels servers clients old new in_line handed cycle) where
  taken : ℕ → ℕ
  taken c = old.waiting c - new.waiting c

  -- the row's load with the values taken
  line_load : load weight servers (places row) in_line (befores row cycle)
      ≡ load weight servers (places row) old.to_server (befores row cycle) + sum_below (λ c. weight c * (old.waiting c - new.waiting c)) servers
  line_load =
      let covered : all_owed weight servers (places row) (contents_after row earlier)
      ≤ all_stored weight servers (places row) (contents_after row earlier) + sum_below (λ c. weight c * old.to_server c) servers =
      run_covered weight channels servers row clients old.to_server earlier (earlier_loaded weight channels servers row clients cycle earlier loaded) refused_left in
      let same = begun_with channels servers row cycle earlier loaded.running in
      let here : all_owed weight servers (places row) (befores row cycle) ≤ all_stored weight servers (places row) (befores row cycle) + sum_below (λ c. weight c * old.to_server c) servers =
      subst (λ contents. all_owed weight servers (places row) contents ≤ all_stored weight servers (places row) contents + sum_below (λ c. weight c * old.to_server c) servers) (sym same) covered in
      omega (arith, here, sum_line weight old.to_server (λ c. old.waiting c - new.waiting c) in_line servers (λ c h. omega (arith, session.takes c h, session.takes_on c h)))

  row_falls : LoadFalls weight channels servers row clients in_line new.to_server cycle
  row_falls = loads_fall weight channels servers row clients cycle earlier in_line new.to_server loaded session.line

  client_sum : total new.to_client clients + total handed clients ≡ total old.to_client clients + total (λ c. moves (channels c cycle)) clients
  client_sum =
      sym (total-sum new.to_client handed clients)
      ∙ totals_same (λ c. new.to_client c + handed c) (λ c. old.to_client c + moves (channels c cycle)) clients session.hands
      ∙ total-sum old.to_client (λ c. moves (channels c cycle)) clients

  loses : session_load weight servers (places row) clients new (afters row cycle) + session_lost channels servers row clients old new handed cycle
      ≡ session_load weight servers (places row) clients old (befores row cycle)
  loses =
      omega (arith, sum_waiting weight old.waiting new.waiting servers session.takes_on, line_load, row_falls.loses, client_sum, total_twice (λ c. moves (channels c cycle)) clients)

  rest : session_lost channels servers row clients old new handed cycle ≡ 0 → session_load weight servers (places row) clients old (befores row cycle) ≡ 0
  rest none =
      let no_hand : total handed clients ≡ 0 = omega arith in
      let empty : (c : ℕ) → among c clients ≡ true → old.to_client c + moves (channels c cycle) ≡ 0 = λ c h. session.hands_some c h (none_in_total handed clients no_hand c h) in
      let ready : AreReady channels clients cycle = record { ready = λ c h. session.has_room c h (omega (arith, empty c h)) } in
      let still : lost channels servers row clients cycle ≡ 0 = omega (arith, total_twice (λ c. moves (channels c cycle)) clients) in
      let r : Rest weight channels servers row clients cycle earlier in_line new.to_server loaded session.line =
      rests weight channels servers row clients cycle earlier in_line new.to_server loaded session.line ready still in
      let no_take : sum_below (λ c. old.waiting c - new.waiting c) servers ≡ 0 = omega arith in
      let waits_not : (c : ℕ) → c < servers → old.waiting c ≡ 0 =
      λ c h. omega (arith, none_in_sum (λ d. old.waiting d - new.waiting d) servers no_take c h, session.takes_some c h (r.no_line c h)) in
      let no_wait : sum_below (λ c. (1 + weight c) * old.waiting c) servers ≡ 0 =
      sum_of_none (λ c. (1 + weight c) * old.waiting c) servers (λ c h. ap (λ z. (1 + weight c) * z) (waits_not c h) ∙ (let z : (1 + weight c) * 0 ≡ 0 = omega arith in z)) in
      let no_client : total old.to_client clients ≡ 0 = totals_same old.to_client (λ c. 0) clients (λ c h. omega (arith, empty c h)) ∙ total_of_nothing clients in
      omega (arith, r.no_load, line_load, no_wait, no_client)

  falls : 0 < session_load weight servers (places row) clients old (befores row cycle)
      → session_load weight servers (places row) clients new (afters row cycle) < session_load weight servers (places row) clients old (befores row cycle)
  falls some = by_cases (session_lost channels servers row clients old new handed cycle) refl
    where
      by_cases : (n : ℕ) → session_lost channels servers row clients old new handed cycle ≡ n
          → session_load weight servers (places row) clients new (afters row cycle) < session_load weight servers (places row) clients old (befores row cycle)
      by_cases zero e = absurd (omega (arith, rest e))
      by_cases (suc n) e = omega (arith, loses)

pub sessions_fall : {C : Type 0} → SessionsFall C
sessions_fall weight channels servers row clients cycle earlier old new in_line handed loaded refused_left session = record {
  loses = loses weight channels servers row clients cycle earlier old new in_line handed loaded refused_left session;
  falls = falls weight channels servers row clients cycle earlier old new in_line handed loaded refused_left session;
}
