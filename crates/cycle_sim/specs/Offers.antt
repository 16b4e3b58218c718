-- The inputs of a cycle are put, one after another.
use Rattle.std.specs.Prelude.{◌≡◌, ℕ, ◌+◌, ◌-◌, ◌<◌, ◌≤◌, Bool, true, false, List, Option, Some, None, length, refl}
use Rattle.std.proofs.Common.{sym, ◌∙◌, ap, subst, arith, inl, inr, get_or, set}
use Rattle.std.proofs.lemmas.Bool.{cases_eq}
use Rattle.netlist.specs.declared.net.Net.{Net}
use Rattle.netlist.specs.declared.net.Net.TheVariants.{Input, Register}
use Rattle.netlist.specs.Nets.{Bits, word_at, width_at, is_input, is_computed}
use Rattle.netlist.specs.Plans.{Plan, Stands, FitsAt, net_at, is_register_at, IsPlan}
use Rattle.netlist.specs.PlanLaws.{stands_at}
use Rattle.netlist.specs.Settled.{input_place, AreInputs}
use Rattle.cycle_sim.specs.Changes.{marks_put}
use Rattle.cycle_sim.specs.ChangeLaws.{word_at-set_same, word_at-set_other}
use Rattle.cycle_sim.specs.Wired.{users_at, is_other_at, AreUsers, AreInputPlaces, IsInputPlace}
use Rattle.cycle_sim.specs.Turns.{IsKept, HasState, Begun, begun-put}

-- the inputs have the words that they had in the cycle before
pub record KeepsInputs (plan : Plan) (last : Option (List Bits)) (words : List Bits) : Type 0 where
  pub each : (i : ℕ) → i < length plan.nets → is_input (net_at plan.nets i) ≡ true → IsKept last words i

-- the first inputs have their words of this cycle, and no other net has changed
pub record IsOffered (plan : Plan) (inputs old words : List Bits) (number : ℕ) : Type 0 where
  pub given : (i : ℕ) → i < length plan.nets → is_input (net_at plan.nets i) ≡ true → input_place plan.nets i < number → word_at words i ≡ word_at inputs (input_place plan.nets i)
  pub later : (i : ℕ) → i < length plan.nets → is_input (net_at plan.nets i) ≡ true → number ≤ input_place plan.nets i → word_at words i ≡ word_at old i
  pub others : (i : ℕ) → is_input (net_at plan.nets i) ≡ false → word_at words i ≡ word_at old i

pub offered_none : (plan : Plan) (inputs old : List Bits) → IsOffered plan inputs old old 0
offered_none plan inputs old = record { given = λ i l e m. absurd (omega arith); later = λ i l e m. refl; others = λ i e. refl }

pub offered_more : (plan : Plan) (inputs old words words' : List Bits) (places : List ℕ) (number at : ℕ) (w : Bits) → AreInputPlaces plan.nets places → length words ≡ length plan.nets
    → number < length places → at ≡ get_or places number 0 → w ≡ word_at inputs number → words' ≡ set words at w → IsOffered plan inputs old words number → IsOffered plan inputs old words' (number + 1)
offered_more plan inputs old words words' places number at w p count lt is e made o =
    let here : IsInputPlace plan.nets number at = subst (λ k. IsInputPlace plan.nets number k) (sym is) (p.each number lt) in
    let within : at < length words = subst (λ k. at < k) (sym count) here.within in
    let only : (i : ℕ) → i < length plan.nets → is_input (net_at plan.nets i) ≡ true → input_place plan.nets i ≡ number → i ≡ at = λ i l q m. sym (p.all i l q) ∙ ap (λ k. get_or places k 0) m ∙ sym is in
    record {
      given = λ i l q m.
          ap (λ ws. word_at ws i) made
          ∙ elim (cases_eq i at) [
            | inl same ↦ ap (word_at (set words at w)) same ∙ word_at-set_same words at w within ∙ e ∙ ap (word_at inputs) (sym here.numbered ∙ ap (input_place plan.nets) (sym same))
            | inr ne ↦ word_at-set_other words at w i ne ∙ o.given i l q (below i (input_place plan.nets i) m (λ k. ne (only i l q k)))
          ];
      later = λ i l q m.
          ap (λ ws. word_at ws i) made
          ∙ word_at-set_other words at w i (λ same. let no : input_place plan.nets i ≡ number = ap (input_place plan.nets) same ∙ here.numbered in omega (arith, no, m))
          ∙ o.later i l q (omega arith);
      others = λ i q.
          ap (λ ws. word_at ws i) made
          ∙ word_at-set_other words at w i (λ same. let no : true ≡ false = sym here.is_one ∙ ap (λ k. is_input (net_at plan.nets k)) (sym same) ∙ q in absurd (grind (arith, no)))
          ∙ o.others i q;
    }
  where
    below : (i place : ℕ) → place < number + 1 → (place ≡ number → ⊥) → place < number
    below i place m ne = omega (arith, ne, m)

pub input_outer : (net : Net) → is_input net ≡ true → is_computed net ≡ false
input_outer (Input width) e = refl
input_outer (Register reset) e = refl
input_outer net e = absurd (grind (arith, e))

-- the words that are put keep what holds before the pass
pub begun_offered : (plan : Plan) (users : List (List ℕ)) → IsPlan plan → AreUsers plan users → (last : Option (List Bits)) (inputs old words words' : List Bits) (marks marks' waiting waiting' : List Bool) (places : List ℕ) (number at : ℕ) (w : Bits)
    → AreInputPlaces plan.nets places → HasState plan words marks waiting → number < length places → at ≡ get_or places number 0 → KeepsInputs plan last old → IsOffered plan inputs old words number
    → words' ≡ set words at w → marks' ≡ marks_put (is_other_at plan.nets) (users_at users at) (word_at words at) w marks → waiting' ≡ marks_put (is_register_at plan.nets) (users_at users at) (word_at words at) w waiting
    → Begun plan last words marks waiting → Begun plan last words' marks' waiting'
begun_offered plan users h u last inputs old words words' marks marks' waiting waiting' places number at w p s lt is keeps o e1 e2 e3 b =
    let here : IsInputPlace plan.nets number at = subst (λ k. IsInputPlace plan.nets number k) (sym is) (p.each number lt) in
    let within : at < length words = subst (λ k. at < k) (sym s.count) here.within in
    let same : word_at words at ≡ word_at old at = o.later at here.within here.is_one (at_least number (input_place plan.nets at) here.numbered) in
    let kept : IsKept last words at = kept_same last old words at (sym same) (keeps.each at here.within here.is_one) in
    let made = begun-put plan users h u last words marks waiting at w s b within (input_outer (net_at plan.nets at) here.is_one) kept in
    subst (λ x. Begun plan last x marks' waiting') (sym e1)
    (subst (λ y. Begun plan last (set words at w) y waiting') (sym e2)
    (subst (λ z. Begun plan last (set words at w) (marks_put (is_other_at plan.nets) (users_at users at) (word_at words at) w marks) z) (sym e3) made))
  where
    at_least : (n m : ℕ) → m ≡ n → n ≤ m
    at_least n m e = omega arith

    kept_same : (last : Option (List Bits)) (old words : List Bits) (i : ℕ) → word_at old i ≡ word_at words i → IsKept last old i → IsKept last words i
    kept_same None old words i e k = tt
    kept_same (Some before) old words i e k = k ∙ e

input_wide : (plan : Plan) (inputs : List Bits) (place : ℕ) (net : Net) → AreInputs plan inputs → Stands plan.nets place net → is_input net ≡ true → FitsAt plan.widths place net → length (word_at inputs (input_place plan.nets place)) ≡ width_at plan.widths place
input_wide plan inputs place (Input width) a s e f = a.wide place width s ∙ sym f.own
input_wide plan inputs place (Register reset) a s e f = absurd (grind (arith, e))
input_wide plan inputs place net a s e f = absurd (grind (arith, e))

-- the word that is put at an input has its width
pub offer_wide : (plan : Plan) (inputs : List Bits) (places : List ℕ) (number at : ℕ) (w : Bits) → IsPlan plan → AreInputs plan inputs → AreInputPlaces plan.nets places → number < length places → at ≡ get_or places number 0 → w ≡ word_at inputs number
    → length w ≡ width_at plan.widths at
offer_wide plan inputs places number at w h a p lt is e =
    let here : IsInputPlace plan.nets number at = subst (λ k. IsInputPlace plan.nets number k) (sym is) (p.each number lt) in
    let s = stands_at plan.nets at here.within in
    ap length (e ∙ ap (word_at inputs) (sym here.numbered)) ∙ input_wide plan inputs at (net_at plan.nets at) a s here.is_one (h.fit at (net_at plan.nets at) s)
