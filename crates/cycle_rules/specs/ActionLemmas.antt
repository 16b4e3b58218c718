-- How a run of cycles and a list of actions go on by one.
use Rattle.std.specs.Prelude.{◌≡◌, ℕ, zero, suc, ◌+◌, ◌-◌, ◌<◌, ◌≤◌, List, [], ◌∷◌, length, drop, refl}
use Rattle.std.proofs.Common.{sym, ◌∙◌, ap, get_or, arith}
use Rattle.cycle_rules.specs.Circuit.{Circuit}
use Rattle.cycle_rules.specs.Simulation.{Simulation, after_cycle, after_cycles, after_action, after_actions, cycles_of_action, cycles_in}
use Rattle.cycle_rules.specs.declared.action.Action.{Action}

-- what is left of a list from an index on is the item there and what is left after it
pub drop_at : {A : Type 0} (xs : List A) (i : ℕ) (x : A) → i < length xs → x ≡ get_or xs i x → drop i xs ≡ x ∷ drop (i + 1) xs
drop_at [] i x h e = absurd (omega arith)
drop_at (y ∷ ys) zero x h e = ap (λ z. z ∷ ys) (sym e)
drop_at (y ∷ ys) (suc i) x h e =
    drop_at ys i x (omega arith) e ∙ ap (λ k. x ∷ drop k (y ∷ ys)) (let f : suc (i + 1) ≡ suc i + 1 = omega arith in f)

pub drop_all : {A : Type 0} (xs : List A) → drop (length xs) xs ≡ []
drop_all [] = refl
drop_all (x ∷ xs) = drop_all xs

pub after_cycles_more : {S : Type 0} (circuit : Circuit S) (count turn : ℕ) (old new : Simulation S) → turn < count → new ≡ after_cycle circuit old
    → after_cycles circuit (count - (turn + 1)) new ≡ after_cycles circuit (count - turn) old
unfolding after_cycles
after_cycles_more circuit count turn old new h e =
    ap (λ sim. after_cycles circuit (count - (turn + 1)) sim) e
    ∙ ap (λ n. after_cycles circuit n old) (let f : suc (count - (turn + 1)) ≡ count - turn = omega arith in f)

pub after_cycles_none : {S : Type 0} (circuit : Circuit S) (count turn : ℕ) (sim : Simulation S) → count ≤ turn → after_cycles circuit (count - turn) sim ≡ sim
unfolding after_cycles
after_cycles_none circuit count turn sim h = ap (λ n. after_cycles circuit n sim) (let f : count - turn ≡ 0 = omega arith in f)

pub after_actions_more : {S : Type 0} (circuit : Circuit S) (actions : List Action) (i : ℕ) (action : Action) (old new : Simulation S) → i < length actions → action ≡ get_or actions i action
    → new ≡ after_action circuit action old → after_actions circuit (drop (i + 1) actions) new ≡ after_actions circuit (drop i actions) old
unfolding after_actions
after_actions_more circuit actions i action old new h is e =
    ap (λ sim. after_actions circuit (drop (i + 1) actions) sim) e ∙ sym (ap (λ left. after_actions circuit left old) (drop_at actions i action h is))

pub after_actions_none : {S : Type 0} (circuit : Circuit S) (actions : List Action) (sim : Simulation S) → after_actions circuit (drop (length actions) actions) sim ≡ sim
unfolding after_actions
after_actions_none circuit actions sim = ap (λ left. after_actions circuit left sim) (drop_all actions)

pub cycles_in_more : (actions : List Action) (i : ℕ) (action : Action) → i < length actions → action ≡ get_or actions i action
    → cycles_in (drop i actions) ≡ cycles_of_action action + cycles_in (drop (i + 1) actions)
cycles_in_more actions i action h is = ap cycles_in (drop_at actions i action h is)
