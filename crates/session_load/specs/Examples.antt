-- Three values put before a pipe of two stages, in a session. Each example holds by computing.
use Rattle.std.specs.Prelude.{◌≡◌, ℕ, zero, suc, ◌+◌, ◌<◌, ◌==◌, ◌||◌, nat_lt, Bool, true, false, [], ◌∷◌, length, map, refl}
use Rattle.std.proofs.Common.{ap, sym, ◌∙◌, arith}
use Rattle.std.proofs.lemmas.Bool.Decides.{nat_tests}
use Rattle.element_rows.specs.Flat.{among}
use Rattle.element_rows.specs.Examples.{pipe}
use Rattle.element_load.specs.Load.{weight, moves}
use Rattle.element_load.specs.LoadLaws.{befores}
use Rattle.element_load.specs.Examples.{channels, row, started, run}
use Rattle.session_load.specs.Session.{Queues, SessionCycle, session_load}

-- before the first cycle all three wait
abbrev put : Queues
put = record { waiting = λ c. 3; to_server = λ c. 0; to_client = λ c. 0 }

-- behind it two stand in the ring, since the first stage has taken one
abbrev taken : Queues
taken = record { waiting = λ c. 0; to_server = λ c. 2; to_client = λ c. 0 }

-- 3 * (1 + 4), which is less than the 3 * (2 + 4) cycles in which all must have come out
load_at_first : session_load (weight 1 pipe (2 ∷ [])) 1 pipe (2 ∷ []) put (befores row started) ≡ 15
load_at_first = refl

-- what waits is taken, three at once, and the first stage takes one: it falls by four
load_then : map (λ cycle. session_load (weight 1 pipe (2 ∷ [])) 1 pipe (2 ∷ []) (record { waiting = λ c. 0; to_server = λ c. length cycle.line; to_client = λ c. 0 }) (befores row cycle)) (run 6)
    ≡ 0 ∷ 2 ∷ 5 ∷ 9 ∷ 11 ∷ 12 ∷ []
load_then = refl

-- the one to-client channel is ready and hands nothing yet
only_two : (c : ℕ) → among c (2 ∷ []) ≡ true → c ≡ 2
only_two c h = by_cases (c == 2) refl h
  where
    by_cases : (b : Bool) → (c == 2) ≡ b → (b || false) ≡ true → c ≡ 2
    by_cases true e h = grind (arith, nat_tests)
    by_cases false e h = absurd (cc)

-- this is a cycle of a session, so what the law says of it is not empty
first_cycle : SessionCycle channels 1 (2 ∷ []) put taken (λ c. 3) (λ c. 0) started
first_cycle = record {
  takes = λ c h. refl;
  takes_on = λ c h. omega arith;
  takes_some = λ c h e. refl;
  line = record { offers = offers; loses = loses };
  has_room = λ c h e. ap (λ d. (channels d started).ready) (only_two c h);
  hands = λ c h. ap (λ m. 0 + m) (sym (still c h)) ∙ refl;
  hands_some = λ c h e. ap (λ m. 0 + m) (still c h);
}
  where
    offers : (c : ℕ) → c < 1 → (channels c started).valid ≡ nat_lt 0 3
    offers zero h = refl
    offers (suc c) h = absurd (omega arith)

    loses : (c : ℕ) → c < 1 → 2 + moves (channels c started) ≡ 3
    loses zero h = refl
    loses (suc c) h = absurd (omega arith)

    still : (c : ℕ) → among c (2 ∷ []) ≡ true → moves (channels c started) ≡ 0
    still c h = ap (λ d. moves (channels d started)) (only_two c h)
