-- How the numbers of digits are computed, digit by digit.
use Rattle.std.proofs.Common.{◌≡◌, ℕ, ◌<◌, ◌≤◌, true, false, ◌&&◌, Option, Some, None, List, [], ◌∷◌, ◌++◌, ◌+◌, ◌-◌, ◌*◌, ◌%◌, ◌^◌, ◌⊎◌, inl, inr, zero, suc, min, length, take, drop, set, get_or, refl, subst, arith, sym, ◌∙◌, ap, lit≤}
use Rattle.std.proofs.Math.Dec.{ltb, leb}
use Rattle.std.proofs.Math.Nat.{mul_comm, mul_assoc, mul-add, mul-le-mul_left}
use Rattle.std.proofs.lemmas.Bool.{lt-ltb, le-ltb, le-leb, leb-true, lt-leb, cases_lt}
use Rattle.std.proofs.lemmas.List.{take_more, take_more_set, take_all, length-take-le}
use Rattle.std.proofs.lemmas.Nat.{pow-add}
use Rattle.std.specs.Char.{is_ascii_digit}
use Rattle.std.specs.List.{list_all}
use Rattle.design_lex.specs.CutLaw.{answers, both}
use Rattle.design_lex.specs.Digits.{value, value_from, value_below, digit_of}
use Rattle.design_lex.specs.DigitSums.{value_from-grows, value_more}
use Rattle.esi_base.specs.BitLists.{joined-below}
use Rattle.esi_base.specs.Parts.{whole, whole-append}
use Rattle.verilog_lex.specs.Numbers.{octet_before, digit_count, is_width, width_in}
use Rattle.verilog_lex.specs.Octet.{is_hex_digit}

-- ---- capped numbers

-- above a bound, numbers are alike
capped_by : (bound front other : ℕ) (digits : List ℕ) → (other ≡ front) ⊎ ((bound ≤ front) × (bound ≤ other)) → min bound (value_from 10 other digits) ≡ min bound (value_from 10 front digits)
capped_by bound front other digits (inl e) = ap (λ n. min bound (value_from 10 n digits)) e
capped_by bound front other digits (inr h) =
    let a : front ≤ value_from 10 front digits = value_from-grows 10 front digits (lit≤ tt) in
    let b : other ≤ value_from 10 other digits = value_from-grows 10 other digits (lit≤ tt) in
    omega arith

-- a number that is capped on the way comes out as one that is capped at its end
capped : (bound front : ℕ) (digits : List ℕ) → min bound (value_from 10 (min front bound) digits) ≡ min bound (value_from 10 front digits)
capped bound front digits =
    elim (cases_lt front bound) [
      | inl h ↦ (let e : min front bound ≡ front = omega arith in capped_by bound front (min front bound) digits (inl e))
      | inr h ↦ (let e : bound ≤ min front bound = omega arith in capped_by bound front (min front bound) digits (inr (h, e)))
    ]

-- one digit more
pub capped_more : (bound front next i all : ℕ) (digits : List ℕ) → i < length digits → next ≡ min (front * 10 + digit_of (get_or digits i 0)) bound
    → min bound (value_from 10 front (drop i digits)) ≡ all → min bound (value_from 10 next (drop (i + 1) digits)) ≡ all
capped_more bound front next i all digits h e same =
    rw e (capped bound (front * 10 + digit_of (get_or digits i 0)) (drop (i + 1) digits) ∙ (ap (min bound) (sym (value_more 10 front i digits h)) ∙ same))

-- a number that is capped at a bound is below it where the number is
pub below_capped : (bound v n : ℕ) → n ≡ min bound v → value_below bound n ≡ value_below bound v
below_capped bound v n e =
    elim (cases_lt v bound) [
      | inl l ↦ (let same : n ≡ v = omega arith in ap (value_below bound) same)
      | inr l ↦ (let far : ltb v bound ≡ false = le-ltb v bound l in
          let no : ltb n bound ≡ false = le-ltb n bound (omega arith) in
          rw (no, far) refl)
    ]

-- a number that is capped above the widths is a width where the number is
pub width_capped : (v n : ℕ) → n ≡ min 1025 v → width_in n ≡ width_in v
width_capped v n e =
    elim (cases_lt v 1025) [
      | inl l ↦ (let same : n ≡ v = omega arith in ap width_in same)
      | inr l ↦ (let far : leb v 1024 ≡ false = lt-leb v 1024 (omega arith) in
          let no : leb n 1024 ≡ false = lt-leb n 1024 (omega arith) in
          let some : leb 1 v ≡ true = le-leb 1 v (omega arith) in
          let low : leb 1 n ≡ true = le-leb 1 n (omega arith) in
          rw (low, no, some, far) refl)
    ]

-- such a width has its bounds
pub width_within : (n w : ℕ) → Some w ≡ width_in n → (1 ≤ w) × (w ≤ 1024)
width_within n w e =
    elim (answers (is_width n)) [
      | inl t ↦ (let here : width_in n ≡ Some n = rw t refl in
          let same : w ≡ n = some_is w n (e ∙ here) in
          let p = both (leb 1 n) (leb n 1024) t in
          let low : 1 ≤ n = leb-true 1 n p.0 in
          let high : n ≤ 1024 = leb-true n 1024 p.1 in
          (omega arith, omega arith))
      | inr t ↦ absurd (let none : width_in n ≡ None = rw t refl in some_no_none w (e ∙ none))
    ]
  where
    some_is : (x y : ℕ) → let r : Option ℕ = Some x in let s : Option ℕ = Some y in r ≡ s → x ≡ y
    some_is x y e = cc

    some_no_none : (x : ℕ) → let r : Option ℕ = Some x in let s : Option ℕ = None in r ≡ s → ⊥
    some_no_none x e = cc

-- ---- hexadecimal digits

-- a hexadecimal digit is below 16
pub hex_small : (b : ℕ) → is_hex_digit b ≡ true → digit_of b < 16
hex_small b h =
    elim (answers (is_ascii_digit b)) [
      | inl d ↦ (let p = both (leb 48 b) (leb b 57) d in
          let high : b ≤ 57 = leb-true b 57 p.1 in
          let low : ltb b 97 ≡ true = lt-ltb b 97 (omega arith) in
          rw low (omega arith))
      | inr d ↦ (let letter : (leb 97 b && leb b 102) ≡ true = (rw d at h) in
          let p = both (leb 97 b) (leb b 102) letter in
          let below : 97 ≤ b = leb-true 97 b p.0 in
          let high : b ≤ 102 = leb-true b 102 p.1 in
          let low : ltb b 97 ≡ false = le-ltb b 97 below in
          rw low (omega arith))
    ]

-- the value with a digit more at the end
value_push : (front : ℕ) (digits : List ℕ) (d : ℕ) → value_from 16 front (digits ++ d ∷ []) ≡ value_from 16 front digits * 16 + digit_of d
value_push front [] d = refl
value_push front (e ∷ digits) d = value_push (front * 16 + digit_of e) digits d

-- the value of the digits in front of a place, by the two that stand right before it
two_before : (digits : List ℕ) (end : ℕ) → 1 ≤ end → end ≤ length digits → value 16 (take end digits) ≡ 256 * value 16 (take (end - 2) digits) + octet_before digits end
two_before digits zero h k = absurd (omega arith)
two_before [] (suc zero) h k = absurd (omega arith)
two_before (d ∷ digits) (suc zero) h k = let e : 0 * 16 + digit_of d ≡ 256 * 0 + digit_of d = omega arith in e
two_before digits (suc (suc end)) h k =
    let one : take (suc end) digits ≡ take end digits ++ get_or digits end 0 ∷ [] = ap (λ (n : ℕ). take n digits) (let e : suc end ≡ end + 1 = omega arith in e) ∙ take_more digits end 0 (omega arith) in
    let two : take (suc (suc end)) digits ≡ take (suc end) digits ++ get_or digits (suc end) 0 ∷ [] = ap (λ (n : ℕ). take n digits) (let e : suc (suc end) ≡ suc end + 1 = omega arith in e) ∙ take_more digits (suc end) 0 (omega arith) in
    let less : suc (suc end) - 2 ≡ end = omega arith in
    let last : suc (suc end) - 1 ≡ suc end = omega arith in
    let far : ltb (suc (suc end)) 2 ≡ false = le-ltb (suc (suc end)) 2 (omega arith) in
    let v : ℕ = value 16 (take end digits) in
    let sum : (v * 16 + digit_of (get_or digits end 0)) * 16 + digit_of (get_or digits (suc end) 0) ≡ 256 * v + (16 * digit_of (get_or digits end 0) + digit_of (get_or digits (suc end) 0)) = omega arith in
    rw (two, one, value_push, value_push, far, less, last) sum

-- a number and one above it
joined_more : (w p v x : ℕ) → w + p * (256 * v + x) ≡ w + p * (x + 256 * 0) + p * 256 * v
joined_more w p v x =
    let a : p * (256 * v + x) ≡ p * (256 * v) + p * x = mul-add p (256 * v) x in
    let b : p * (256 * v) ≡ p * 256 * v = sym (mul_assoc p 256 v) in
    let c : x + 256 * 0 ≡ x = omega arith in
    rw c (omega (arith, a, b))

-- The octets so far, and above them the digits in front of them.
pub octets_more : (digits out : List ℕ) (at x : ℕ) → at < length out → 2 * at < length digits → x ≡ octet_before digits (length digits - 2 * at)
    → whole 8 (take at out) + 2 ^ (8 * at) * value 16 (take (length digits - 2 * at) digits) ≡ value 16 digits
    → whole 8 (take (at + 1) (set out at x)) + 2 ^ (8 * (at + 1)) * value 16 (take (length digits - 2 * (at + 1)) digits) ≡ value 16 digits
octets_more digits out at x h k e same =
    let end : ℕ = length digits - 2 * at in
    let v : ℕ = value 16 (take (end - 2) digits) in
    let less : length digits - 2 * (at + 1) ≡ end - 2 = omega arith in
    let before : value 16 (take end digits) ≡ 256 * v + x = two_before digits end (omega arith) (omega arith) ∙ ap (λ n. 256 * v + n) (sym e) in
    let len : length (take at out) ≡ at = length-take-le at out (omega arith) in
    let here : whole 8 (take (at + 1) (set out at x)) ≡ whole 8 (take at out) + 2 ^ (8 * at) * (x + 256 * 0) =
    ap (whole 8) (take_more_set out at x h) ∙ (whole-append 8 (take at out) (x ∷ []) ∙ ap (λ n. whole 8 (take at out) + 2 ^ (8 * n) * (x + 256 * 0)) len) in
    let power : 2 ^ (8 * (at + 1)) ≡ 2 ^ (8 * at) * 256 = ap (λ n. 2 ^ n) (let m : 8 * (at + 1) ≡ 8 * at + 8 = omega arith in m) ∙ pow-add 2 (8 * at) 8 in
    rw (less, here, power) (sym (joined_more (whole 8 (take at out)) (2 ^ (8 * at)) v x) ∙ (ap (λ n. whole 8 (take at out) + 2 ^ (8 * at) * n) (sym before) ∙ same))

pub octets_begun : (digits out : List ℕ) → whole 8 (take 0 out) + 2 ^ (8 * 0) * value 16 (take (length digits - 2 * 0) digits) ≡ value 16 digits
octets_begun digits out =
    let all : take (length digits - 2 * 0) digits ≡ digits = take_all (length digits - 2 * 0) digits (omega arith) in
    rw all (let e : 0 + 1 * value 16 digits ≡ value 16 digits = omega arith in e)

pub octets_done : (digits out : List ℕ) (at : ℕ) → length digits ≤ 2 * at → whole 8 (take at out) + 2 ^ (8 * at) * value 16 (take (length digits - 2 * at) digits) ≡ value 16 digits → whole 8 (take at out) ≡ value 16 digits
octets_done digits out at h same =
    let none : length digits - 2 * at ≡ 0 = omega arith in
    let zero_left : 2 ^ (8 * at) * value 16 (take (length digits - 2 * at) digits) ≡ 0 = rw none (let e : 2 ^ (8 * at) * 0 ≡ 0 = omega arith in e) in
    omega (arith, zero_left, same)

-- ---- whether a number fits

-- the value of digits behind a front
front_value : (front : ℕ) (digits : List ℕ) → value_from 16 front digits ≡ front * 2 ^ (4 * length digits) + value_from 16 0 digits
front_value front [] = let e : front ≡ front * 1 + 0 = omega arith in e
front_value front (d ∷ digits) =
    let p : ℕ = 2 ^ (4 * length digits) in
    let v : ℕ = value_from 16 0 digits in
    let power : 2 ^ (4 * suc (length digits)) ≡ p * 16 = ap (λ n. 2 ^ n) (let m : 4 * suc (length digits) ≡ 4 * length digits + 4 = omega arith in m) ∙ pow-add 2 (4 * length digits) 4 in
    front_value (front * 16 + digit_of d) digits
    ∙ (shift front (digit_of d) p v
    ∙ (ap (λ n. front * (p * 16) + n) (sym (front_value (0 * 16 + digit_of d) digits)) ∙ ap (λ n. front * n + value_from 16 (0 * 16 + digit_of d) digits) (sym power)))
  where
    shift : (f d p v : ℕ) → (f * 16 + d) * p + v ≡ f * (p * 16) + ((0 * 16 + d) * p + v)
    shift f d p v =
        let a : (f * 16 + d) * p ≡ p * (f * 16) + p * d = mul_comm (f * 16 + d) p ∙ mul-add p (f * 16) d in
        let b : p * (f * 16) ≡ f * (p * 16) = sym (mul_assoc p f 16) ∙ (ap (λ n. n * 16) (mul_comm p f) ∙ mul_assoc f p 16) in
        let c : (0 * 16 + d) * p ≡ p * d = ap (λ n. n * p) (let e : 0 * 16 + d ≡ d = omega arith in e) ∙ mul_comm d p in
        rw (a, b, c) (omega arith)

-- digits are below the power of their count
value_small : (digits : List ℕ) → list_all is_hex_digit digits ≡ true → value 16 digits < 2 ^ (4 * length digits)
value_small [] h = let e : 0 < 1 = omega arith in e
value_small (d ∷ digits) h =
    let p = both (is_hex_digit d) (list_all is_hex_digit digits) h in
    let e : 0 * 16 + digit_of d ≡ digit_of d = omega arith in
    let small : digit_of d < 2 ^ 4 = hex_small d p.0 in
    let len : 4 * suc (length digits) ≡ 4 + 4 * length digits = omega arith in
    rw (e, len, front_value (digit_of d) digits) (joined-below 4 (4 * length digits) (digit_of d) (value 16 digits) small (value_small digits p.1))

-- The number fits where its first digit does.
pub first_fits : (width d : ℕ) (digits : List ℕ) → 1 ≤ width → list_all is_hex_digit (d ∷ digits) ≡ true → suc (length digits) ≡ digit_count width
    → ltb (digit_of d) (2 ^ ((width + 3) % 4 + 1)) ≡ ltb (value 16 (d ∷ digits)) (2 ^ width)
first_fits width d digits low h count =
    let p = both (is_hex_digit d) (list_all is_hex_digit digits) h in
    let r : ℕ = (width + 3) % 4 + 1 in
    let e : 0 * 16 + digit_of d ≡ digit_of d = omega arith in
    let is : width ≡ r + 4 * length digits = omega arith in
    let all : value 16 (d ∷ digits) ≡ digit_of d * 2 ^ (4 * length digits) + value 16 digits = ap (λ n. value_from 16 n digits) e ∙ front_value (digit_of d) digits in
    let power : 2 ^ width ≡ 2 ^ r * 2 ^ (4 * length digits) = ap (λ n. 2 ^ n) is ∙ pow-add 2 r (4 * length digits) in
    elim (cases_lt (digit_of d) (2 ^ r)) [
      | inl l ↦ (let below : value 16 (d ∷ digits) < 2 ^ width = subst (λ n. n < 2 ^ width) (sym all) (subst (λ n. digit_of d * 2 ^ (4 * length digits) + value 16 digits < 2 ^ n) (sym is) (joined-below r (4 * length digits) (digit_of d) (value 16 digits) l (value_small digits p.1))) in
          lt-ltb (digit_of d) (2 ^ r) l ∙ sym (lt-ltb (value 16 (d ∷ digits)) (2 ^ width) below))
      | inr g ↦ (let times : 2 ^ (4 * length digits) * 2 ^ r ≤ 2 ^ (4 * length digits) * digit_of d = mul-le-mul_left (2 ^ (4 * length digits)) g in
          let above : 2 ^ width ≤ value 16 (d ∷ digits) = omega (arith, all, power, times, mul_comm (2 ^ (4 * length digits)) (2 ^ r), mul_comm (2 ^ (4 * length digits)) (digit_of d)) in
          le-ltb (digit_of d) (2 ^ r) g ∙ sym (le-ltb (value 16 (d ∷ digits)) (2 ^ width) above))
    ]

-- The same of digits, of which there is one.
pub number_fits : (width : ℕ) (digits : List ℕ) → 1 ≤ width → list_all is_hex_digit digits ≡ true → length digits ≡ digit_count width
    → ltb (digit_of (get_or digits 0 0)) (2 ^ ((width + 3) % 4 + 1)) ≡ ltb (value 16 digits) (2 ^ width)
number_fits width [] low h count = absurd (omega arith)
number_fits width (d ∷ digits) low h count = first_fits width d digits low h count
