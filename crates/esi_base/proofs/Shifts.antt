-- Parts of numbers that are moved up or down, and of ones.
use Rattle.std.proofs.Common.{◌≡◌, ℕ, ◌+◌, ◌-◌, ◌*◌, ◌/◌, ◌%◌, ◌^◌, ◌≤◌, bit_and, sym, ◌∙◌, ap, arith}
use Rattle.std.proofs.lemmas.Nat.{shr-shr, shl-shr, pow-add, mod-pow-add, field_of, mul-mod_first, and_mask, mod_low}
use Rattle.std.proofs.lemmas.Nat.Bits.{ones_shr}
use Rattle.std.proofs.Math.Pow.{mod-mod-pow, pow_mono, ones_split, ones_lt}
use Rattle.std.proofs.Math.Nat.{mul_assoc, mul-mod_left, mod-eq_of_lt, div-eq_of_lt, lt_of_lt_of_le}
use Rattle.esi_base.specs.Parts.{part, part-and}

-- two neighbouring parts have all bits from one within the first on
pub field_of_two : (w n q r at : ℕ) → r ≤ w → w * q + r ≡ at → (part w n (q + 1) * 2 ^ w + part w n q) / 2 ^ r % 2 ^ w ≡ n / 2 ^ at % 2 ^ w
field_of_two w n q r at l e =
    let m = n / 2 ^ (w * q) in
    ap (λ k. (k % 2 ^ w * 2 ^ w + m % 2 ^ w) / 2 ^ r % 2 ^ w) (sym (shr-shr n (w * q) w ∙ ap (λ j. n / 2 ^ j) (let d : w * q + w ≡ w * (q + 1) = omega arith in d)))
    ∙ ap (λ k. k / 2 ^ r % 2 ^ w) (sym (mod-pow-add m w w))
    ∙ ap (λ j. m % 2 ^ j / 2 ^ r % 2 ^ w) (let d : w + w ≡ ((w - r) + w) + r = omega arith in d)
    ∙ ap (λ k. k % 2 ^ w) (field_of m ((w - r) + w) r)
    ∙ mod-mod-pow (m / 2 ^ r) (w - r) w
    ∙ ap (λ k. k % 2 ^ w) (shr-shr n (w * q) r ∙ ap (λ j. n / 2 ^ j) e)

pub part-shr : (w n from k : ℕ) → part w (n / 2 ^ from) k ≡ n / 2 ^ (from + w * k) % 2 ^ w
part-shr w n from k = ap (λ m. m % 2 ^ w) (shr-shr n from (w * k))

-- the bits below a width are those under a mask of ones
pub part-mod : (w n width k : ℕ) → part w (n % 2 ^ width) k ≡ bit_and (part w n k) (part w (2 ^ width - 1) k)
part-mod w n width k = ap (λ m. part w m k) (sym (and_mask n width)) ∙ part-and w n (2 ^ width - 1) k

pub part_above : (w n by k : ℕ) → by ≤ w * k → part w (n * 2 ^ by) k ≡ n / 2 ^ (w * k - by) % 2 ^ w
part_above w n by k l =
    ap (λ m. m % 2 ^ w)
    (ap (λ j. n * 2 ^ by / 2 ^ j) (let d : w * k ≡ by + (w * k - by) = omega arith in d)
    ∙ sym (shr-shr (n * 2 ^ by) by (w * k - by))
    ∙ ap (λ m. m / 2 ^ (w * k - by)) (shl-shr n by))

part_within : (w n by k : ℕ) → w * k ≤ by → part w (n * 2 ^ by) k ≡ n * 2 ^ (by - w * k) % 2 ^ w
part_within w n by k l =
    ap (λ m. m % 2 ^ w)
    (ap (λ m. m / 2 ^ (w * k))
    (ap (λ j. n * 2 ^ j) (let d : by ≡ (by - w * k) + w * k = omega arith in d)
    ∙ ap (λ m. n * m) (pow-add 2 (by - w * k) (w * k))
    ∙ sym (mul_assoc n (2 ^ (by - w * k)) (2 ^ (w * k))))
    ∙ shl-shr (n * 2 ^ (by - w * k)) (w * k))

pub part_at : (w n by k : ℕ) → w * k ≤ by → part w (n * 2 ^ by) k ≡ part w n 0 * 2 ^ (by - w * k) % 2 ^ w
part_at w n by k l =
    part_within w n by k l
    ∙ sym (mul-mod_first n (2 ^ (by - w * k)) (2 ^ w))
    ∙ ap (λ m. m % 2 ^ w * 2 ^ (by - w * k) % 2 ^ w)
    (sym (let d : w * 0 ≡ 0 = omega arith in ap (λ j. n / 2 ^ j) d ∙ let e : n / 1 ≡ n = omega arith in e))

pub part_below : (w n by k : ℕ) → w * k + w ≤ by → part w (n * 2 ^ by) k ≡ 0
part_below w n by k l =
    part_within w n by k (omega arith)
    ∙ ap (λ j. n * 2 ^ j % 2 ^ w) (let d : by - w * k ≡ (by - w * k - w) + w = omega arith in d)
    ∙ ap (λ m. n * m % 2 ^ w) (pow-add 2 (by - w * k - w) w)
    ∙ ap (λ m. m % 2 ^ w) (sym (mul_assoc n (2 ^ (by - w * k - w)) (2 ^ w)))
    ∙ mul-mod_left (n * 2 ^ (by - w * k - w)) (2 ^ w)

pub ones_past : (w width k : ℕ) → width ≤ w * k → part w (2 ^ width - 1) k ≡ 0
ones_past w width k l =
    ap (λ m. m % 2 ^ w) (div-eq_of_lt (lt_of_lt_of_le (ones_lt width) (pow_mono l)))
    ∙ let e : 0 % 2 ^ w ≡ 0 = omega arith in e

ones_of : (w width k : ℕ) → w * k ≤ width → part w (2 ^ width - 1) k ≡ (2 ^ (width - w * k) - 1) % 2 ^ w
ones_of w width k l = ap (λ m. m % 2 ^ w) (ones_shr width (w * k) l)

pub ones_at : (w width k : ℕ) → w * k ≤ width → width - w * k ≤ w → part w (2 ^ width - 1) k ≡ 2 ^ (width - w * k) - 1
ones_at w width k l h = ones_of w width k l ∙ mod-eq_of_lt (lt_of_lt_of_le (ones_lt (width - w * k)) (pow_mono h))

pub ones_whole : (w width k : ℕ) → w * k + w ≤ width → part w (2 ^ width - 1) k ≡ 2 ^ w - 1
ones_whole w width k h =
    ones_of w width k (omega arith)
    ∙ ap (λ j. (2 ^ j - 1) % 2 ^ w) (let d : width - w * k ≡ (width - w * k - w) + w = omega arith in d)
    ∙ ap (λ m. m % 2 ^ w) (ones_split (width - w * k - w) w)
    ∙ mod_low (2 ^ (width - w * k - w) - 1) w (2 ^ w - 1) (ones_lt w)
