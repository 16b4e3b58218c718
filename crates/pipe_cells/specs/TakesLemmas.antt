-- How the values of a cycle are taken one by one.
use Rattle.std.specs.Prelude.{◌≡◌, ◌⊎◌, ℕ, zero, suc, ◌+◌, ◌-◌, ◌<◌, ◌≤◌, min, nat_lt, ◌&&◌, true, false, Some, None, List, [], ◌∷◌, ◌++◌, length, take, drop, refl}
use Rattle.std.proofs.Common.{sym, ◌∙◌, ap, inl, inr, append_assoc, length-append, subst, arith}
use Rattle.std.proofs.lemmas.Bool.{cases_lt}
use Rattle.std.proofs.lemmas.Bool.Decides.{nat_tests}
use Rattle.cycle_rules.specs.Circuit.{Bits}
use Rattle.cycle_rules.specs.Cycle.{transfers_from}
use Rattle.cycle_rules.specs.Lists.{first}
use Rattle.cycle_rules.specs.OrderLemmas.{append_nil}
use Rattle.cycle_rules.specs.declared.limits.TheConstants.{RING_VALUES, SESSION_VALUES}
use Rattle.cycle_rules.specs.declared.transfer.Transfer.{Transfer}
use Rattle.pipe_cells.specs.PipeRings.{PipeRings, may_take, with_take, values_taken, TakesAll}

-- where no value can be taken, all stays
nothing : (waiting : List Bits) (ports : PipeRings) (values : List Bits) → values ≡ [] → values ≡ values_taken waiting ports → TakesAll waiting ports waiting ports
nothing waiting ports values none is =
    let e : values_taken waiting ports ≡ [] = sym is ∙ none in
    record {
      waiting_left = sym (ap (λ v. drop (length v) waiting) e);
      ports_after = sym (ap (λ (v : List Bits). let made : PipeRings = record ports { entering = ports.entering ++ v; taken = ports.taken ++ transfers_from ports.cycles 0 (v ∷ []) } in made) e
          ∙ ap (λ (v : List Bits). let made : PipeRings = record ports { entering = v; taken = ports.taken ++ [] } in made) (append_nil ports.entering)
          ∙ ap (λ (v : List Transfer). let made : PipeRings = record ports { taken = v } in made) (append_nil ports.taken));
    }

pub none_waits : (waiting : List Bits) (ports : PipeRings) → waiting ≡ [] → TakesAll waiting ports waiting ports
none_waits [] ports e = nothing [] ports (take (min (SESSION_VALUES - length ports.taken) (RING_VALUES - length ports.entering)) []) (take_nil (min (SESSION_VALUES - length ports.taken) (RING_VALUES - length ports.entering))) refl
  where
    take_nil : (k : ℕ) → take k (let none : List Bits = [] in none) ≡ []
    take_nil zero = refl
    take_nil (suc k) = refl
none_waits (w ∷ ws) ports e = absurd (cc e)

take_zero : (k : ℕ) (ws : List Bits) → k ≡ 0 → take k ws ≡ []
take_zero k ws e = ap (λ k. take k ws) e

pub no_place : (waiting : List Bits) (ports : PipeRings) → (SESSION_VALUES ≤ length ports.taken) ⊎ (RING_VALUES ≤ length ports.entering) → TakesAll waiting ports waiting ports
no_place waiting ports (inl full) = nothing waiting ports _ (take_zero (min (SESSION_VALUES - length ports.taken) (RING_VALUES - length ports.entering)) waiting (omega arith)) refl
no_place waiting ports (inr full) = nothing waiting ports _ (take_zero (min (SESSION_VALUES - length ports.taken) (RING_VALUES - length ports.entering)) waiting (omega arith)) refl

-- one more place is used
places : (t n : ℕ) → t < SESSION_VALUES → n < RING_VALUES → min (SESSION_VALUES - t) (RING_VALUES - n) ≡ suc (min (SESSION_VALUES - (t + 1)) (RING_VALUES - (n + 1)))
places t n session room = omega arith

first_of_values : (w : Bits) (ws : List Bits) (ports : PipeRings) → length ports.taken < SESSION_VALUES → length ports.entering < RING_VALUES
    → values_taken (w ∷ ws) ports ≡ w ∷ values_taken ws (with_take ports w)
first_of_values w ws ports session room =
    ap (λ k. take k (w ∷ ws)) (places (length ports.taken) (length ports.entering) session room)
    ∙ sym (ap (λ t. w ∷ take (min (SESSION_VALUES - t) (RING_VALUES - length (ports.entering ++ w ∷ []))) ws) (length-append ports.taken (record { cycle = ports.cycles; channel = 0; word = w } ∷ []))
    ∙ ap (λ n. w ∷ take (min (SESSION_VALUES - (length ports.taken + 1)) (RING_VALUES - n)) ws) (length-append ports.entering (w ∷ [])))

-- one more is taken, and then what the rest of the cycle takes
pub one_take : (w : Bits) (ws : List Bits) (ports : PipeRings) (waiting' : List Bits) (ports' : PipeRings) → length ports.taken < SESSION_VALUES → length ports.entering < RING_VALUES
    → TakesAll ws (with_take ports w) waiting' ports' → TakesAll (w ∷ ws) ports waiting' ports'
one_take w ws ports waiting' ports' session room rest =
    let here : values_taken (w ∷ ws) ports ≡ w ∷ values_taken ws (with_take ports w) = first_of_values w ws ports session room in
    record {
      waiting_left = rest.waiting_left ∙ sym (ap (λ vs. drop (length vs) (w ∷ ws)) here);
      ports_after = rest.ports_after
          ∙ ap (λ (vs : List Bits). let made : PipeRings = record ports { entering = vs; taken = (ports.taken ++ record { cycle = ports.cycles; channel = 0; word = w } ∷ []) ++ transfers_from ports.cycles 0 (values_taken ws (with_take ports w) ∷ []) } in made)
          (append_assoc ports.entering (w ∷ []) (values_taken ws (with_take ports w)))
          ∙ ap (λ (ms : List Transfer). let made : PipeRings = record ports { entering = ports.entering ++ (w ∷ values_taken ws (with_take ports w)); taken = ms } in made)
          (append_assoc ports.taken (record { cycle = ports.cycles; channel = 0; word = w } ∷ []) (transfers_from ports.cycles 0 (values_taken ws (with_take ports w) ∷ [])))
          ∙ sym (ap (λ (vs : List Bits). let made : PipeRings = record ports { entering = ports.entering ++ vs; taken = ports.taken ++ transfers_from ports.cycles 0 (vs ∷ []) } in made) here);
    }

at_front : (old : List Bits) (w : Bits) → first old ≡ Some w → old ≡ w ∷ drop 1 old
at_front [] w e = absurd (cc e)
at_front (x ∷ xs) w e = cc

nothing_at_front : (old : List Bits) → first old ≡ None → old ≡ []
nothing_at_front [] e = refl
nothing_at_front (x ∷ xs) e = absurd (cc e)

open_place : (t n : ℕ) → true ≡ (nat_lt t SESSION_VALUES && nat_lt n RING_VALUES) → (t < SESSION_VALUES) × (n < RING_VALUES)
open_place t n e = (grind (arith, nat_tests), grind (arith, nat_tests))

closed_place : (t n : ℕ) → false ≡ (nat_lt t SESSION_VALUES && nat_lt n RING_VALUES) → (SESSION_VALUES ≤ t) ⊎ (RING_VALUES ≤ n)
closed_place t n e = elim (cases_lt t SESSION_VALUES) [ inl h ↦ inr (grind (arith, nat_tests)) | inr h ↦ inl h ]

-- a step of the loop: the first that waits is put, and goes from those that wait
pub takes_more : (old new : List Bits) (w : Bits) (before after : PipeRings) (waiting' : List Bits) (ports' : PipeRings) → first old ≡ Some w → new ≡ drop 1 old
    → true ≡ may_take before → after ≡ with_take before w → TakesAll new after waiting' ports' → TakesAll old before waiting' ports'
takes_more old new w before after waiting' ports' front gone place put rest =
    let room = open_place (length before.taken) (length before.entering) place in
    let whole : w ∷ new ≡ old = ap (λ ws. w ∷ ws) gone ∙ sym (at_front old w front) in
    subst (λ ws. TakesAll ws before waiting' ports') whole
    (one_take w new before waiting' ports' room.0 room.1 (subst (λ p. TakesAll new p waiting' ports') put rest))

-- the ends of the loop
pub takes_none : (old : List Bits) (ports : PipeRings) → first old ≡ None → TakesAll old ports old ports
takes_none old ports e = none_waits old ports (nothing_at_front old e)
