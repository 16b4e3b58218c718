-- The digits of a number, put one before another.
use Rattle.std.proofs.Common.{◌≡◌, ℕ, zero, suc, ◌+◌, ◌-◌, ◌/◌, ◌%◌, ◌<◌, ◌≤◌, ◌^◌, List, [], ◌∷◌, ◌++◌, length, drop, set, length-set, arith, ap, sym, ◌∙◌, subst, append-nil, append_assoc}
use Rattle.std.specs.Fmt.{decimal}
use Rattle.std.proofs.Math.Nat.{pow-suc}
use Rattle.std.proofs.lemmas.Fmt.{decimal_step_wide, decimal_digit}
use Rattle.std.proofs.lemmas.List.{drop-set, drop_all}

-- a number of more than one digit has a digit before its last one
pub digits_before : (n at : ℕ) → 10 ≤ n → n < 10 ^ suc at → 1 ≤ at
digits_before n zero more within = absurd (omega (arith, pow-suc 10 0))
digits_before n (suc k) more within = omega arith

-- which are those of the tenth
fewer_digits : (n at : ℕ) → n < 10 ^ suc at → n / 10 < 10 ^ at
fewer_digits n at within = omega (arith, pow-suc 10 at)

-- The digits of what is left, and after them those that are written, are those of the number.
pub record ArePut (number rest at : ℕ) (digits : List ℕ) : Type 0 where
  pub room : at < length digits
  pub within : rest < 10 ^ suc at
  pub same : decimal rest ++ drop (at + 1) digits ≡ decimal number

-- At first all the number is left.
pub none_put : (number : ℕ) (digits : List ℕ) → number < 2 ^ 128 → length digits ≡ 39 → ArePut number number 38 digits
none_put number digits small long =
    let end : drop 39 digits ≡ [] = drop_all 39 digits (omega (arith, long)) in
    record {
      room = omega (arith, long);
      within = omega arith;
      same = ap (λ z. decimal number ++ z) end ∙ append-nil (decimal number);
    }

-- one digit more
pub digit_put : (number rest at : ℕ) (digits : List ℕ) → rest < 2 ^ 128 → 10 ≤ rest → ArePut number rest at digits → ArePut number (rest / 10) (at - 1) (set digits at (48 + rest % 10))
digit_put number rest at digits small more before =
    let some : 1 ≤ at = digits_before rest at more before.within in
    let next : at - 1 + 1 ≡ at = omega arith in
    let before_it : suc (at - 1) ≡ at = omega arith in
    record {
      room = omega (arith, before.room, length-set digits at (48 + rest % 10));
      within = subst (λ k. rest / 10 < 10 ^ k) (sym before_it) (fewer_digits rest at before.within);
      same =
          ap (λ i. decimal (rest / 10) ++ drop i (set digits at (48 + rest % 10))) next
          ∙ ap (λ z. decimal (rest / 10) ++ z) (drop-set digits at (48 + rest % 10) before.room)
          ∙ sym (append_assoc (decimal (rest / 10)) ((48 + rest % 10) ∷ []) (drop (at + 1) digits))
          ∙ ap (λ z. z ++ drop (at + 1) digits) (sym (decimal_step_wide rest more (omega arith)))
          ∙ before.same;
    }

-- the first digit
pub first_put : (number rest at : ℕ) (digits : List ℕ) → rest < 10 → ArePut number rest at digits → drop at (set digits at (48 + rest)) ≡ decimal number
first_put number rest at digits few before =
    drop-set digits at (48 + rest) before.room ∙ ap (λ z. z ++ drop (at + 1) digits) (sym (decimal_digit rest few)) ∙ before.same
