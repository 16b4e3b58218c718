-- Laws of the places of inputs.
use Rattle.std.specs.Prelude.{◌≡◌, ℕ, ◌+◌, ◌<◌, if◌then◌else◌, Bool, true, List, length, count_by, cond}
use Rattle.std.proofs.Common.{sym, ◌∙◌, arith, inl, inr}
use Rattle.std.proofs.lemmas.Bool.{cases_Bool, cond-true, cond-false}
use Rattle.std.proofs.lemmas.List.Sums.{count_by_more_yes, count_by_more_no, sum_by_more_le}
use Rattle.netlist.specs.declared.net.Net.{Net}
use Rattle.netlist.specs.declared.net.Net.TheVariants.{Not}
use Rattle.netlist.specs.Nets.{is_input}
use Rattle.netlist.specs.Plans.{net_at}
use Rattle.netlist.specs.Settled.{input_place}

-- behind an input the next one has the next place
pub input_place_next : (nets : List Net) (at : ℕ) → at < length nets → input_place nets (at + 1) ≡ (if is_input (net_at nets at) then input_place nets at + 1 else input_place nets at)
input_place_next nets at lt =
    elim (cases_Bool (is_input (net_at nets at))) [
      | inl yes' ↦ count_by_more_yes is_input nets at (Not 0) lt yes' ∙ sym (cond-true (is_input (net_at nets at)) (input_place nets at + 1) (input_place nets at) yes')
      | inr no' ↦ count_by_more_no is_input nets at (Not 0) lt no' ∙ sym (cond-false (is_input (net_at nets at)) (input_place nets at + 1) (input_place nets at) no')
    ]

one_if : (b : Bool) → b ≡ true → ◌≡◌ {A = ℕ} (cond b 1 0) 1
one_if b e = cond-true b 1 0 e

-- the place of an input is below their count
pub input_place_within : (nets : List Net) (at : ℕ) → at < length nets → is_input (net_at nets at) ≡ true → input_place nets at < count_by is_input nets
input_place_within nets at lt e =
    let le = sum_by_more_le (λ n. cond (is_input n) 1 0) nets at (Not 0) lt in
    omega (arith, le, one_if (is_input (net_at nets at)) e)
