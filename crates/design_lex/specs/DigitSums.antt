-- How the value of digits grows from digit to digit.
use Rattle.std.proofs.Common.{◌≡◌, ℕ, ◌<◌, ◌≤◌, List, [], ◌∷◌, Option, Some, None, Bool, true, false, cond, ◌⊎◌, inl, inr, ◌+◌, ◌*◌, length, drop, min, refl, arith, ap, add-one, get_or, lit≤}
use Rattle.design_lex.specs.declared.limits.TheConstants.{TOO_WIDE}
use Rattle.std.proofs.Math.Dec.{ltb}
use Rattle.std.proofs.Math.Seq.{drop-cons}
use Rattle.std.proofs.lemmas.Bool.{ltb-true, ltb-false, lt-ltb, le-ltb, cases_lt}
use Rattle.std.proofs.lemmas.List.{drop_all}
use Rattle.design_lex.specs.Digits.{value_from, value_below, digit_of}
use Rattle.std.proofs.Math.Nat.{mul-le-mul_left}

-- a digit more never makes less
pub value_from-grows : (base front : ℕ) (digits : List ℕ) → 1 ≤ base → front ≤ value_from base front digits
value_from-grows base front [] h = omega arith
value_from-grows base front (d ∷ digits) h =
    let step : front * 1 ≤ front * base = mul-le-mul_left front h in
    omega (arith, value_from-grows base (front * base + digit_of d) digits h)

-- a number that is given is the one, and below the bound
pub below_some : (bound n m : ℕ) → Some m ≡ value_below bound n → (m ≡ n) × (m < bound)
below_some bound n m e =
    let go : (b : Bool) → ltb n bound ≡ b → Some m ≡ cond b (Some n) None → (m ≡ n) × (m < bound) = λ b t e.
    elim b as (λ b. ltb n bound ≡ b → Some m ≡ cond b (Some n) None → (m ≡ n) × (m < bound)) [ true ↦ λ t e. let same : m ≡ n = cc in let small : n < bound = ltb-true n bound t in (same, omega arith) | false ↦ λ t e. cc ] t e
    in go (ltb n bound) refl e

-- a number that is not given is not below the bound
pub below_none : (bound n : ℕ) → None ≡ value_below bound n → bound ≤ n
below_none bound n e =
    let go : (b : Bool) → ltb n bound ≡ b → ◌≡◌ {A = Option ℕ} None (cond b (Some n) None) → bound ≤ n = λ b t e.
    elim b as (λ b. ltb n bound ≡ b → ◌≡◌ {A = Option ℕ} None (cond b (Some n) None) → bound ≤ n) [ true ↦ λ t e. cc | false ↦ λ t e. ltb-false n bound t ] t e
    in go (ltb n bound) refl e

-- a value that is too great stays too great
pub too_great : (base front bound : ℕ) (digits : List ℕ) → 1 ≤ base → bound ≤ front → None ≡ value_below bound (value_from base front digits)
too_great base front bound digits h k =
    let grows = value_from-grows base front digits h in
    let le : bound ≤ value_from base front digits = omega arith in
    let far : ltb (value_from base front digits) bound ≡ false = le-ltb (value_from base front digits) bound le in
    rw far refl

-- a small value is given
pub small_value : (front bound : ℕ) → front < bound → Some front ≡ value_below bound front
small_value front bound h = let near : ltb front bound ≡ true = lt-ltb front bound h in rw near refl

-- above the greatest width, widths are alike
capped_by : (front other : ℕ) (digits : List ℕ) → (other ≡ front) ⊎ ((TOO_WIDE ≤ front) × (TOO_WIDE ≤ other)) → min TOO_WIDE (value_from 10 other digits) ≡ min TOO_WIDE (value_from 10 front digits)
capped_by front other digits (inl e) = ap (λ n. min TOO_WIDE (value_from 10 n digits)) e
capped_by front other digits (inr h) =
    let a : front ≤ value_from 10 front digits = value_from-grows 10 front digits (lit≤ tt) in
    let b : other ≤ value_from 10 other digits = value_from-grows 10 other digits (lit≤ tt) in
    omega arith

-- a width that is capped on the way comes out as one that is capped at its end
pub capped : (front : ℕ) (digits : List ℕ) → min TOO_WIDE (value_from 10 (min front TOO_WIDE) digits) ≡ min TOO_WIDE (value_from 10 front digits)
capped front digits =
    elim (cases_lt front TOO_WIDE) [ inl h ↦ (let e : min front TOO_WIDE ≡ front = omega arith in capped_by front (min front TOO_WIDE) digits (inl e)) | inr h ↦ (let e : TOO_WIDE ≤ min front TOO_WIDE = omega arith in capped_by front (min front TOO_WIDE) digits (inr (h, e))) ]

-- the value so far goes on to the next digit
pub value_more : (base front i : ℕ) (digits : List ℕ) → i < length digits → value_from base front (drop i digits) ≡ value_from base (front * base + digit_of (get_or digits i 0)) (drop (i + 1) digits)
value_more base front i digits h = rw (add-one, drop-cons digits i 0 h) refl

-- behind the last digit stands the value
pub value_ended : (base front i : ℕ) (digits : List ℕ) → length digits ≤ i → value_from base front (drop i digits) ≡ front
value_ended base front i digits h = rw (drop_all i digits h) refl
