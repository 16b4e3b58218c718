-- Numbers that are counted up.
use Rattle.std.proofs.Common.{◌≡◌, ℕ, suc, ◌+◌, ◌-◌, ◌<◌, List, [], ◌∷◌, ◌++◌, ap, sym, ◌∙◌, arith}
use Rattle.std.proofs.lemmas.List.{append_assoc}
use Rattle.flat_design.specs.Laying.{count_up}

pub count_more : (n m k : ℕ) → m ≡ suc k → count_up n m ≡ n ∷ count_up (n + 1) k
count_more n m k e = ap (count_up n) e

pub number_more : (numbers after : List ℕ) (n count : ℕ) → n < count → after ≡ numbers ++ n ∷ [] → after ++ count_up (n + 1) (count - (n + 1)) ≡ numbers ++ count_up n (count - n)
number_more numbers after n count lt e =
    ap (λ xs. xs ++ count_up (n + 1) (count - (n + 1))) e ∙ append_assoc numbers (n ∷ []) (count_up (n + 1) (count - (n + 1)))
    ∙ ap (λ xs. numbers ++ xs) (sym (count_more n (count - n) (count - (n + 1)) (omega arith)))
