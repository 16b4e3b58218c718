-- The decimal digits of a number, as they are printed, mean that number.
use Rattle.std.proofs.Common.{◌≡◌, ℕ, ◌<◌, ◌≤◌, Bool, true, false, eqb, ◌&&◌, List, [], ◌∷◌, ◌++◌, ◌+◌, ◌-◌, ◌*◌, ◌/◌, ◌%◌, ◌^◌, length, get_or, refl, arith, ◌∙◌, ap, length-append}
use Rattle.std.proofs.Math.Dec.{leb, ltb}
use Rattle.std.proofs.lemmas.Bool.{le-leb, lt-ltb, ne_eqb}
use Rattle.std.proofs.lemmas.Fmt.{decimal_by_steps_wide}
use Rattle.std.proofs.lemmas.List.{get_or_append_left}
use Rattle.std.proofs.lemmas.List.Folds.{list_all-append}
use Rattle.std.proofs.lemmas.Nat.{div-add-mod'}
use Rattle.std.specs.Char.{is_ascii_digit}
use Rattle.std.specs.Fmt.{decimal}
use Rattle.std.specs.List.{list_all}
use Rattle.design_lex.specs.Digits.{digit_of, value_from, value, has_leading_zero}

-- digits are those of a number: there is one at least, they mean the number, and a zero stands in front of no other
pub record AreDigitsOf (n : ℕ) (digits : List ℕ) : Type 0 where
  pub some : 0 < length digits
  pub all : list_all is_ascii_digit digits ≡ true
  pub same : value 10 digits ≡ n
  pub first : 0 < n → eqb (get_or digits 0 0) 48 ≡ false
  pub leading : has_leading_zero digits ≡ false

-- the glyph of a digit is a digit
glyph_is_digit : (d : ℕ) → d < 10 → is_ascii_digit (48 + d) ≡ true
glyph_is_digit d h =
    let low : leb 48 (48 + d) ≡ true = le-leb 48 (48 + d) (omega arith) in
    let high : leb (48 + d) 57 ≡ true = le-leb (48 + d) 57 (omega arith) in
    rw (low, high) refl

-- and means it
glyph_means : (d : ℕ) → d < 10 → digit_of (48 + d) ≡ d
glyph_means d h =
    let low : ltb (48 + d) 97 ≡ true = lt-ltb (48 + d) 97 (omega arith) in
    let less : 48 + d - 48 ≡ d = omega arith in
    rw low less

-- one more digit at the end
value_from-push : (base front : ℕ) (digits : List ℕ) (d : ℕ) → value_from base front (digits ++ (d ∷ [])) ≡ value_from base front digits * base + digit_of d
value_from-push base front [] d = refl
value_from-push base front (e ∷ digits) d = value_from-push base (front * base + digit_of e) digits d

-- a number below ten
one_digit : (n : ℕ) → n < 10 → AreDigitsOf n ((48 + n) ∷ [])
one_digit n h =
    record {
      some = omega arith;
      all = rw (glyph_is_digit n h) refl;
      same = let e : 0 * 10 + digit_of (48 + n) ≡ n = omega (arith, glyph_means n h) in e;
      first = λ some. ne_eqb (48 + n) 48 (λ e. omega (arith, e));
      leading = no_other (eqb (48 + n) 48);
    }
  where
    no_other : (b : Bool) → (b && false) ≡ false
    no_other true = refl
    no_other false = refl

-- a number with a digit more
digit_more : (n : ℕ) (digits : List ℕ) → 10 ≤ n → AreDigitsOf (n / 10) digits → AreDigitsOf n (digits ++ ((48 + n % 10) ∷ []))
digit_more n digits h d =
    let small : n % 10 < 10 = omega arith in
    let front : 0 < n / 10 = omega arith in
    let head : get_or (digits ++ ((48 + n % 10) ∷ [])) 0 0 ≡ get_or digits 0 0 = get_or_append_left digits ((48 + n % 10) ∷ []) 0 0 d.some in
    let no_zero : eqb (get_or (digits ++ ((48 + n % 10) ∷ [])) 0 0) 48 ≡ false = ap (λ (b : ℕ). eqb b 48) head ∙ d.first front in
    record {
      some = simp length-append (omega arith);
      all = rw (list_all-append, d.all, glyph_is_digit (n % 10) small) refl;
      same = value_from-push 10 0 digits (48 + n % 10) ∙ rw (d.same, glyph_means (n % 10) small) (div-add-mod' n 10);
      first = λ some. no_zero;
      leading = rw no_zero refl;
    }

-- the digits that a number is printed with
pub decimal_digits : (n : ℕ) → n < 10 ^ 64 → AreDigitsOf n (decimal n)
decimal_digits n h = decimal_by_steps_wide AreDigitsOf one_digit digit_more n h
