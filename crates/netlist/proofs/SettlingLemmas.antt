-- The loop over all nets, in order.
use Rattle.std.proofs.Common.{◌≡◌, ℕ, ◌+◌, ◌<◌, ◌++◌, ◌∷◌, [], List, length, arith, sym, ◌∙◌, ap, subst, inl, inr}
use Rattle.std.proofs.lemmas.Bool.{cases_eq}
use Rattle.std.proofs.lemmas.List.{get_or_append_left, get_or_push}
use Rattle.netlist.specs.Nets.{Bits, word_at, width_at}
use Rattle.netlist.specs.Plans.{Plan, net_at, IsPlan}
use Rattle.netlist.specs.PlanLaws.{stands_at}
use Rattle.netlist.specs.Settled.{equation, input_place, AreInputs, AreHeld}
use Rattle.netlist.specs.SettledLaws.{length-equation, given_at}

pub wide_more : (plan : Plan) (inputs held words : List Bits) (word : Bits) (n : ℕ) → IsPlan plan → AreInputs plan inputs → AreHeld plan held → n < length plan.nets → length words ≡ n
    → ((j : ℕ) → j < n → length (word_at words j) ≡ width_at plan.widths j)
    → word ≡ equation (net_at plan.nets n) (word_at inputs (input_place plan.nets n)) (word_at held n) words
    → (j : ℕ) → j < n + 1 → length (word_at (words ++ word ∷ []) j) ≡ width_at plan.widths j
wide_more plan inputs held words word n h i r lt count wide is j l =
    let net = net_at plan.nets n in
    let s = stands_at plan.nets n lt in
    let f = h.fit n net s in
    elim (cases_eq j n) [
      | inl e ↦
          let here : length word ≡ width_at plan.widths n =
          ap length is ∙ length-equation net n plan.widths (word_at inputs (input_place plan.nets n)) (word_at held n) words f.fits (given_at plan inputs held i r n net s) wide ∙ sym f.own in
          subst (λ k. length (word_at (words ++ word ∷ []) k) ≡ width_at plan.widths k) (sym e) (ap length (get_or_push words word [] n count) ∙ here)
      | inr ne ↦
          let lt' : j < n = omega (arith, ne) in
          ap length (get_or_append_left words (word ∷ []) [] j (subst (λ k. j < k) (sym count) lt')) ∙ wide j lt'
    ]
