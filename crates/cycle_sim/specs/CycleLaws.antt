-- A cycle from its begin to its end.
use Rattle.std.specs.Prelude.{◌≡◌, ℕ, zero, suc, ◌-◌, ◌<◌, ◌≤◌, Bool, true, false, List, [], ◌∷◌, Option, Some, None, IsSome, length, map, refl}
use Rattle.std.proofs.Common.{sym, ◌∙◌, ap, subst, arith, inl, inr, get_or}
use Rattle.std.proofs.lemmas.Bool.{cases_lt}
use Rattle.std.proofs.lemmas.List.{get_or_past}
use Rattle.netlist.specs.declared.net.Net.{Net}
use Rattle.netlist.specs.declared.net.Net.TheVariants.{Input, Register, Not}
use Rattle.netlist.specs.Nets.{Bits, word_at, width_at, is_input, is_register, is_computed}
use Rattle.netlist.specs.Plans.{Plan, net_at, next_of, IsPlan, IsComplete}
use Rattle.netlist.specs.PlanLaws.{register_within}
use Rattle.netlist.specs.Settled.{equation, input_place, AreInputs}
use Rattle.netlist.specs.InputPlaces.{input_place_within}
use Rattle.netlist.specs.Runs.{reset_of, taken_from, registers_after}
use Rattle.cycle_sim.specs.Changes.{is_marked}
use Rattle.cycle_sim.specs.Wired.{AreUsers}
use Rattle.cycle_sim.specs.Turns.{HeldBefore, WaitsFor, HasState, Begun, Turning}
use Rattle.cycle_sim.specs.Passes.{turning_none}
use Rattle.cycle_sim.specs.Clocks.{IsCalm, IsReleased}
use Rattle.cycle_sim.specs.Offers.{KeepsInputs, IsOffered}
use Rattle.cycle_sim.specs.Simulated.{rest_word, IsFirst, IsBehind, IsReady, HasRegisters}

-- the word of a register behind a cycle
map_default : {X Y : Type 0} (f : X → Y) (xs : List X) (d : X) (i : ℕ) → get_or (map f xs) i (f d) ≡ f (get_or xs i d)
map_default f [] d i = refl
map_default f (x ∷ xs) d zero = refl
map_default f (x ∷ xs) d (suc i) = map_default f xs d i

pub register_taken : (plan : Plan) (words : List Bits) (register : ℕ) → word_at (registers_after plan (Some words)) register ≡ taken_from words (next_of plan register)
register_taken plan words register = map_default (taken_from words) plan.nexts None register

-- and at the start
pub register_reset : (plan : Plan) (register : ℕ) → word_at (registers_after plan None) register ≡ reset_of (net_at plan.nets register)
register_reset plan register = map_default reset_of plan.nets (Not 0) register

reset_rests : (net : Net) (width : ℕ) → is_register net ≡ true → rest_word net width ≡ reset_of net
reset_rests (Register reset) width e = refl
reset_rests (Input width') width e = absurd (grind (arith, e))
reset_rests net width e = absurd (grind (arith, e))

input_no_register : (net : Net) → is_input net ≡ true → is_register net ≡ false
input_no_register (Input width) e = refl
input_no_register (Register reset) e = absurd (grind (arith, e))
input_no_register net e = absurd (grind (arith, e))

some_next : (o : Option ℕ) → IsSome o → (next : ℕ) × (o ≡ Some next)
some_next None h = absurd (grind (arith, h))
some_next (Some next) h = (next, refl)

-- what a cycle begins with: registers have their words, inputs those of the cycle before
pub record HasBegun (plan : Plan) (last : Option (List Bits)) (words : List Bits) (marks waiting : List Bool) : Type 0 where
  pub begun : Begun plan last words marks waiting
  pub registers : HasRegisters plan last words
  pub inputs : KeepsInputs plan last words
  pub was : (i : ℕ) → i < length plan.nets → is_computed (net_at plan.nets i) ≡ true → HeldBefore plan last i

pub begun_first : (plan : Plan) (words : List Bits) (marks waiting : List Bool) → IsFirst plan words marks waiting → HasBegun plan None words marks waiting
begun_first plan words marks waiting f = record {
  begun = f.begun;
  registers = record { each = λ r e. f.rest.each r (register_within plan.nets r e) ∙ reset_rests (net_at plan.nets r) (width_at plan.widths r) e ∙ sym (register_reset plan r) };
  inputs = record { each = λ i l e. tt };
  was = λ i l c. tt;
}

pub begun_behind : (plan : Plan) (before words : List Bits) (marks0 marks waiting : List Bool) → IsComplete plan → IsBehind plan before marks0 → IsReleased plan before words marks waiting (length plan.nets) → HasBegun plan (Some before) words marks waiting
begun_behind plan before words marks0 marks waiting complete b r = record {
  begun = r.begun;
  registers = record {
    each = λ q e.
        let next = some_next (next_of plan q) (complete.all.each q e) in
        r.taken q next.0 next.1 (register_within plan.nets q e) ∙ sym (register_taken plan before q ∙ ap (taken_from before) next.1);
  };
  inputs = record { each = λ i l e. sym (r.others i (input_no_register (net_at plan.nets i) e)) };
  was = b.settled;
}

outer_word : (net : Net) (given held word : Bits) → is_computed net ≡ false → (is_input net ≡ true → word ≡ given) → (is_register net ≡ true → word ≡ held) → word ≡ equation net given held []
outer_word (Input width) given held word c i r = i refl
outer_word (Register reset) given held word c i r = r refl
outer_word net given held word c i r = absurd (grind (arith, c))

register_no_input : (net : Net) → is_register net ≡ true → is_input net ≡ false
register_no_input (Register reset) e = refl
register_no_input (Input width) e = absurd (grind (arith, e))
register_no_input net e = absurd (grind (arith, e))

-- the pass begins with what the inputs and the registers have
pub turning_begun : (plan : Plan) (users : List (List ℕ)) → IsPlan plan → AreUsers plan users → (inputs : List Bits) (last : Option (List Bits)) (start : ℕ) (begun offered : List Bits) (marks0 waiting0 marks waiting : List Bool) → AreInputs plan inputs
    → HasBegun plan last begun marks0 waiting0 → IsOffered plan inputs begun offered (length inputs) → Begun plan last offered marks waiting
    → Turning plan inputs (registers_after plan last) last start offered marks waiting 0 start
turning_begun plan users h u inputs last start begun offered marks0 waiting0 marks waiting a b o now =
    turning_none plan users h u inputs (registers_after plan last) last start offered marks waiting now b.was
    (λ i l c. outer_word (net_at plan.nets i) (word_at inputs (input_place plan.nets i)) (word_at (registers_after plan last) i) (word_at offered i) c
    (λ e. o.given i l e (subst (λ k. input_place plan.nets i < k) (sym a.one_each) (input_place_within plan.nets i l e)))
    (λ e. o.others i (register_no_input (net_at plan.nets i) e) ∙ b.registers.each i e))

register_equation : (net : Net) (given held : Bits) → is_register net ≡ true → equation net given held [] ≡ held
register_equation (Register reset) given held e = refl
register_equation (Input width) given held e = absurd (grind (arith, e))
register_equation net given held e = absurd (grind (arith, e))

register_outer : (net : Net) → is_register net ≡ true → is_computed net ≡ false
register_outer (Register reset) e = refl
register_outer (Input width) e = absurd (grind (arith, e))
register_outer net e = absurd (grind (arith, e))

calm_one : (plan : Plan) (inputs : List Bits) (last : Option (List Bits)) (words : List Bits) (register next : ℕ) (waits : Bool) → next_of plan register ≡ Some next → word_at words register ≡ word_at (registers_after plan last) register
    → WaitsFor last words next waits → waits ≡ false → word_at words next ≡ word_at words register
calm_one plan inputs None words register next waits e is w free = let no : true ≡ false = sym w ∙ free in absurd (grind (arith, no))
calm_one plan inputs (Some before) words register next waits e is w free = sym (w free) ∙ sym (is ∙ register_taken plan before register ∙ ap (taken_from before) e)

module _ (plan : Plan) (h : IsPlan plan) (inputs : List Bits) (last : Option (List Bits)) (start : ℕ) (words : List Bits) (marks waiting : List Bool) (steps : ℕ) (s : HasState plan words marks waiting)
    (t : Turning plan inputs (registers_after plan last) last start words marks waiting (length plan.nets) steps) where
  -- behind the pass a register that does not wait has the word of its next net
  pub calm_after : IsCalm plan words waiting
  calm_after = record {
    each = λ r n e free.
        let one = (h.set_nexts r n e).is_one in
        let lt = register_within plan.nets r one in
        let is = t.outer r lt (register_outer (net_at plan.nets r) one) ∙ register_equation (net_at plan.nets r) (word_at inputs (input_place plan.nets r)) (word_at (registers_after plan last) r) one in
        calm_one plan inputs last words r n (is_marked waiting r) e is (t.waits r n e) free;
  }

  pub behind_after : IsBehind plan words marks
  behind_after = record {
    none = record {
      none = λ k l.
          elim (cases_lt k (length plan.nets)) [
            | inl lt ↦ t.clear k lt
            | inr ge ↦ get_or_past marks k false (subst (λ m. m ≤ k) (sym s.mark_count) ge)
          ];
    };
    settled = λ i l c. t.settled i l l c;
  }

  pub ready_after : IsReady plan words marks waiting true
  ready_after = record { calm = calm_after; first = λ e. absurd (grind (arith, e)); behind = λ e. behind_after }
