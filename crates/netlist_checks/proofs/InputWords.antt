-- Words that are those of inputs and of registers, by a walk over all nets.
use Rattle.std.specs.Prelude.{◌≡◌, ℕ, ◌+◌, ◌<◌, ◌≤◌, true, List, length, count_by}
use Rattle.std.proofs.Common.{sym, ◌∙◌, ap, subst, arith, inl, inr}
use Rattle.std.proofs.lemmas.Bool.{cases_eq}
use Rattle.std.proofs.lemmas.List.{take_all}
use Rattle.netlist.specs.declared.net.Net.TheVariants.{Input, Register}
use Rattle.netlist.specs.Nets.{Bits, word_at, width_at, is_input}
use Rattle.netlist.specs.Plans.{Plan, net_at, IsPlan}
use Rattle.netlist.specs.PlanLaws.{net_at-stands, stands_within}
use Rattle.netlist.specs.Settled.{input_place, AreInputs, AreHeld}

pub inputs_from : (plan : Plan) (inputs : List Bits) (given end : ℕ) → IsPlan plan → end ≡ length plan.nets → given ≡ input_place plan.nets end → given ≡ length inputs
    → ((place : ℕ) → place < end → is_input (net_at plan.nets place) ≡ true → length (word_at inputs (input_place plan.nets place)) ≡ width_at plan.widths place) → AreInputs plan inputs
inputs_from plan inputs given end h all e same wide = record {
  one_each = sym same ∙ e ∙ ap (input_place plan.nets) all ∙ ap (count_by is_input) (take_all (length plan.nets) plan.nets (omega arith));
  wide = λ place width s.
      wide place (subst (λ k. place < k) (sym all) (stands_within plan.nets place (Input width) s)) (ap is_input (net_at-stands plan.nets place (Input width) s))
      ∙ (h.fit place (Input width) s).own;
}

pub held_from : (plan : Plan) (held : List Bits) (end : ℕ) → IsPlan plan → length plan.nets ≤ end → ((place : ℕ) → place < end → length (word_at held place) ≡ width_at plan.widths place) → AreHeld plan held
held_from plan held end h all wide = record {
  wide = λ place reset s. wide place (let l = stands_within plan.nets place (Register reset) s in omega arith) ∙ (h.fit place (Register reset) s).own;
}

pub wide_next : (plan : Plan) (inputs : List Bits) (at given : ℕ) → given ≡ input_place plan.nets at → (is_input (net_at plan.nets at) ≡ true → length (word_at inputs given) ≡ width_at plan.widths at)
    → ((place : ℕ) → place < at → is_input (net_at plan.nets place) ≡ true → length (word_at inputs (input_place plan.nets place)) ≡ width_at plan.widths place)
    → (place : ℕ) → place < at + 1 → is_input (net_at plan.nets place) ≡ true → length (word_at inputs (input_place plan.nets place)) ≡ width_at plan.widths place
wide_next plan inputs at given e here before place l i =
    elim (cases_eq place at) [
      | inl same ↦
          subst (λ k. length (word_at inputs (input_place plan.nets k)) ≡ width_at plan.widths k) (sym same)
          (ap (λ k. length (word_at inputs k)) (sym e) ∙ here (ap (λ k. is_input (net_at plan.nets k)) (sym same) ∙ i))
      | inr ne ↦ before place (omega (arith, ne)) i
    ]
