-- That a circuit which keeps its values in order stays in order, cycle by cycle and action by action.
use Rattle.std.specs.Prelude.{◌≡◌, ℕ, zero, suc, ◌+◌, ◌-◌, min, nat_lt, Bool, true, false, if◌then◌else◌, List, [], ◌∷◌, ◌++◌, length, map, take, drop, Option, option_to_list, refl}
use Rattle.std.proofs.Common.{sym, ◌∙◌, ap, subst, append_assoc}
use Rattle.cycle_rules.specs.Circuit.{Bits, Circuit}
use Rattle.cycle_rules.specs.Cycle.{word_handed, transfers_from}
use Rattle.cycle_rules.specs.Rings.{after_pop, after_push}
use Rattle.cycle_rules.specs.declared.limits.TheConstants.{RING_VALUES, SESSION_VALUES}
use Rattle.cycle_rules.specs.declared.transfer.Transfer.{Transfer}
use Rattle.cycle_rules.specs.Lists.{first, zip_with}
use Rattle.cycle_rules.specs.PipeSimulation.{PipeSimulation, simulation_of, at_start}
use Rattle.cycle_rules.specs.Order.{words_of, KeepsOrder, InOrder, EndsInOrder, StaysInOrder, HandsInOrder}
use Rattle.cycle_rules.specs.Simulation.{Simulation, takes, after_cycle, after_cycles, after_action, after_actions}
use Rattle.cycle_rules.specs.declared.action.Action.{Action}
use Rattle.cycle_rules.specs.declared.action.Action.TheVariants.{Put, Ready, Run}

pub append_nil : {A : Type 0} (xs : List A) → xs ++ [] ≡ xs
append_nil [] = refl
append_nil (x ∷ xs) = ap (λ ys. x ∷ ys) (append_nil xs)

pub map-append' : {A B : Type 0} (f : A → B) (xs ys : List A) → map f (xs ++ ys) ≡ map f xs ++ map f ys
map-append' f [] ys = refl
map-append' f (x ∷ xs) ys = ap (λ zs. f x ∷ zs) (map-append' f xs ys)

-- the words of the entries of one channel are its values
pub words_of-transfers : (cycle channel : ℕ) (values : List Bits) → words_of (transfers_from cycle channel (values ∷ [])) ≡ values
words_of-transfers cycle channel values = ap words_of (append_nil (map (λ word. record { cycle = cycle; channel = channel; word = word }) values)) ∙ entries values
  where
    entries : (values : List Bits) → words_of (map (λ word. record { cycle = cycle; channel = channel; word = word }) values) ≡ values
    entries [] = refl
    entries (v ∷ vs) = ap (λ ws. v ∷ ws) (entries vs)

-- a ring is its oldest word, where that goes, and what is then left
pub first_taken : (taken : Bool) (ring : List Bits) → (if taken then option_to_list (first ring) else []) ++ (if taken then drop 1 ring else ring) ≡ ring
first_taken true [] = refl
first_taken true (x ∷ xs) = refl
first_taken false ring = refl

given_word : (room : Bool) (ring : List Bits) (word : Option Bits) → (if room then ring ++ option_to_list word else ring) ≡ ring ++ (if room then option_to_list word else [])
given_word true ring word = refl
given_word false ring word = sym (append_nil ring)

pub words_of-append : (old new : List Transfer) → words_of (old ++ new) ≡ words_of old ++ words_of new
words_of-append old new = map-append' (λ m. m.word) old new

-- Taken, handed, the ring on the way out, what the circuit holds, the ring on the way in, and what enters; then what the
-- circuit takes and what is left, what it gives and what it holds then, what is handed and what is left.
order_step : {A : Type 0} (taken handed leaving holds entering enters takes left gives holds' hands leaves : List A) →
    taken ≡ handed ++ (leaving ++ (holds ++ entering)) → entering ++ enters ≡ takes ++ left → holds ++ takes ≡ gives ++ holds' → leaving ++ gives ≡ hands ++ leaves →
    taken ++ enters ≡ (handed ++ hands) ++ (leaves ++ (holds' ++ left))
order_step taken handed leaving holds entering enters takes left gives holds' hands leaves p q r s =
    let one : (handed ++ (leaving ++ (holds ++ entering))) ++ enters ≡ handed ++ (leaving ++ (holds ++ (entering ++ enters))) = simp append_assoc in
    let two : handed ++ (leaving ++ (holds ++ (takes ++ left))) ≡ handed ++ (leaving ++ ((holds ++ takes) ++ left)) = simp append_assoc in
    let three : handed ++ (leaving ++ ((gives ++ holds') ++ left)) ≡ handed ++ ((leaving ++ gives) ++ (holds' ++ left)) = simp append_assoc in
    let four : handed ++ ((hands ++ leaves) ++ (holds' ++ left)) ≡ (handed ++ hands) ++ (leaves ++ (holds' ++ left)) = simp append_assoc in
    ap (λ z. z ++ enters) p ∙ one ∙ ap (λ z. handed ++ (leaving ++ (holds ++ z))) q ∙ two ∙ ap (λ z. handed ++ (leaving ++ (z ++ left))) r
    ∙ three ∙ ap (λ z. handed ++ (z ++ (holds' ++ left))) s ∙ four

-- what a cycle makes of one channel each way
module _ {S : Type 0} (circuit : Circuit S) (held : S → List Bits) (law : KeepsOrder circuit held) where
  abbrev enters : PipeSimulation S → List Bits
  enters one = take (min (SESSION_VALUES - length one.taken) (RING_VALUES - length one.entering)) one.waiting

  abbrev ring_in : PipeSimulation S → List Bits
  ring_in one = one.entering ++ enters one

  abbrev has_room : PipeSimulation S → Bool
  has_room one = nat_lt (length one.leaving) RING_VALUES

  abbrev is_taken : PipeSimulation S → Bool
  is_taken one = law.ready one.state (first (ring_in one)) (has_room one)

  abbrev offered : PipeSimulation S → Option Bits
  offered one = law.word one.state (first (ring_in one)) (has_room one)

  abbrev pub cycle_one : PipeSimulation S → PipeSimulation S
  cycle_one one = record {
    waiting = drop (length (enters one)) one.waiting;
    entering = after_pop (ring_in one) (is_taken one);
    state = circuit.next one.state (first (ring_in one) ∷ []) (has_room one ∷ []);
    leaving = after_pop (after_push one.leaving (offered one)) one.switch;
    switch = one.switch;
    cycles = one.cycles + 1;
    taken = one.taken ++ transfers_from one.cycles 0 (enters one ∷ []);
    handed = one.handed ++ transfers_from one.cycles 0 (word_handed (after_push one.leaving (offered one)) one.switch ∷ []);
  }

  -- a cycle, by what the circuit answers
  abbrev remade : PipeSimulation S → List Bool → List (Option Bits) → Simulation S
  remade one readies words = record {
    waiting = drop (length (enters one)) one.waiting ∷ [];
    machine = record {
      to_server = zip_with after_pop (ring_in one ∷ []) readies;
      state = circuit.next one.state (first (ring_in one) ∷ []) (has_room one ∷ []);
      to_client = zip_with after_pop (zip_with after_push (one.leaving ∷ []) words) (one.switch ∷ []);
    };
    switches = one.switch ∷ [];
    cycles = one.cycles + 1;
    taken = one.taken ++ transfers_from one.cycles 0 (enters one ∷ []);
    handed = one.handed ++ transfers_from one.cycles 0 (zip_with word_handed (zip_with after_push (one.leaving ∷ []) words) (one.switch ∷ []));
  }

  pub cycle-one : (one : PipeSimulation S) → after_cycle circuit (simulation_of one) ≡ simulation_of (cycle_one one)
  cycle-one one =
      ap (λ readies. remade one readies (circuit.words one.state (first (ring_in one) ∷ []) (has_room one ∷ []))) (law.one_ready one.state (first (ring_in one)) (has_room one))
      ∙ ap (λ words. remade one (is_taken one ∷ []) words) (law.one_word one.state (first (ring_in one)) (has_room one))

  -- a cycle keeps the order
  pub cycle_in_order : (one : PipeSimulation S) → InOrder held one → InOrder held (cycle_one one)
  cycle_in_order one before =
      words_of-append one.taken (transfers_from one.cycles 0 (enters one ∷ []))
      ∙ ap (λ ws. words_of one.taken ++ ws) (words_of-transfers one.cycles 0 (enters one))
      ∙ order_step (words_of one.taken) (words_of one.handed) one.leaving (held one.state) one.entering (enters one)
      (if is_taken one then option_to_list (first (ring_in one)) else []) (after_pop (ring_in one) (is_taken one))
      (if has_room one then option_to_list (offered one) else []) (held (circuit.next one.state (first (ring_in one) ∷ []) (has_room one ∷ [])))
      (word_handed (after_push one.leaving (offered one)) one.switch) (after_pop (after_push one.leaving (offered one)) one.switch)
      before
      (sym (first_taken (is_taken one) (ring_in one)))
      (law.keeps one.state (first (ring_in one)) (has_room one))
      (sym (given_word (has_room one) one.leaving (offered one)) ∙ sym (first_taken one.switch (after_push one.leaving (offered one))))
      ∙ ap (λ ws. (words_of one.handed ++ ws) ++ (after_pop (after_push one.leaving (offered one)) one.switch
      ++ (held (circuit.next one.state (first (ring_in one) ∷ []) (has_room one ∷ [])) ++ after_pop (ring_in one) (is_taken one))))
      (sym (words_of-transfers one.cycles 0 (word_handed (after_push one.leaving (offered one)) one.switch)))
      ∙ ap (λ ws. ws ++ (after_pop (after_push one.leaving (offered one)) one.switch
      ++ (held (circuit.next one.state (first (ring_in one) ∷ []) (has_room one ∷ [])) ++ after_pop (ring_in one) (is_taken one))))
      (sym (words_of-append one.handed (transfers_from one.cycles 0 (word_handed (after_push one.leaving (offered one)) one.switch ∷ []))))

  pub cycles_in_order : (count : ℕ) (one : PipeSimulation S) → InOrder held one → (end : PipeSimulation S) × (after_cycles circuit count (simulation_of one) ≡ simulation_of end) × InOrder held end
  unfolding after_cycles
  cycles_in_order zero one before = (one, refl, before)
  cycles_in_order (suc count) one before =
      let rest = cycles_in_order count (cycle_one one) (cycle_in_order one before) in
      (rest.0, ap (λ sim. after_cycles circuit count sim) (cycle-one one) ∙ rest.1, rest.2)

  abbrev put_one : ℕ → Bits → PipeSimulation S → PipeSimulation S
  put_one zero word one = record one { waiting = one.waiting ++ word ∷ [] }
  put_one (suc channel) word one = one

  put-one : (channel : ℕ) (word : Bits) (one : PipeSimulation S) → after_action circuit (Put channel word) (simulation_of one) ≡ simulation_of (put_one channel word one)
  put-one zero word one = refl
  put-one (suc channel) word one = refl

  put_in_order : (channel : ℕ) (word : Bits) (one : PipeSimulation S) → InOrder held one → InOrder held (put_one channel word one)
  put_in_order zero word one before = before
  put_in_order (suc channel) word one before = before

  abbrev switch_one : ℕ → Bool → PipeSimulation S → PipeSimulation S
  switch_one zero on one = record one { switch = on }
  switch_one (suc channel) on one = one

  switch-one : (channel : ℕ) (on : Bool) (one : PipeSimulation S) → after_action circuit (Ready channel on) (simulation_of one) ≡ simulation_of (switch_one channel on one)
  switch-one zero on one = refl
  switch-one (suc channel) on one = refl

  switch_in_order : (channel : ℕ) (on : Bool) (one : PipeSimulation S) → InOrder held one → InOrder held (switch_one channel on one)
  switch_in_order zero on one before = before
  switch_in_order (suc channel) on one before = before

  step_in_order : (action : Action) (one : PipeSimulation S) → InOrder held one → (end : PipeSimulation S) × (after_action circuit action (simulation_of one) ≡ simulation_of end) × InOrder held end
  step_in_order (Put channel word) one before = (put_one channel word one, put-one channel word one, put_in_order channel word one before)
  step_in_order (Ready channel on) one before = (switch_one channel on one, switch-one channel on one, switch_in_order channel on one before)
  step_in_order (Run cycles) one before = cycles_in_order cycles one before

  pub steps_in_order : (actions : List Action) (one : PipeSimulation S) → InOrder held one → EndsInOrder circuit held actions one
  unfolding after_actions
  steps_in_order [] one before = record { end = one; reached = refl; in_order = before }
  steps_in_order (action ∷ actions) one before =
      let here = step_in_order action one before in
      let rest = steps_in_order actions here.0 here.2 in
      record { end = rest.end; reached = ap (λ sim. after_actions circuit actions sim) here.1 ∙ rest.reached; in_order = rest.in_order }

  pub stays_in_order : StaysInOrder circuit held
  stays_in_order state actions empty = steps_in_order actions (at_start state) (sym (append_nil (held state) ∙ empty))

-- so what was handed is a prefix of what was taken
pub hands_in_order : {S : Type 0} (circuit : Circuit S) (held : S → List Bits) (actions : List Action) (old : PipeSimulation S) → EndsInOrder circuit held actions old
    → HandsInOrder (after_actions circuit actions (simulation_of old))
hands_in_order circuit held actions old ends =
    subst HandsInOrder (sym ends.reached) (let made : HandsInOrder (simulation_of ends.end) = record { others = ends.end.leaving ++ (held ends.end.state ++ ends.end.entering); prefix = ends.in_order } in made)
