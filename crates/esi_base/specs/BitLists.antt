-- Laws of lists of bits: numbers of lists that are joined, cut or taken bit by bit.
use Rattle.std.specs.Prelude.{◌≡◌, ℕ, zero, suc, ◌+◌, ◌-◌, ◌*◌, ◌/◌, ◌%◌, ◌^◌, ◌<◌, ◌≤◌, ◌==◌, ◌&&◌, ◌||◌, Bool, true, false, not, List, [], ◌∷◌, ◌++◌, length, map, replicate, take, drop, slice_get, slice_range, Some, bit_and, bit_or, bit_xor, ◌↔◌, refl}
use Rattle.std.specs.Bool.{xor}
use Rattle.std.specs.Cmp.{booleans_Decides}
use Rattle.std.specs.Cmp.Lexicographic.{pointwise_decides}
use Rattle.std.proofs.Common.{sym, ◌∙◌, ap, arith}
use Rattle.std.proofs.lemmas.Nat.{shr-shr, pow_pos, pow-add, mul-le, field_of, shr_high, mod_low, and_shr, and_mod, or_shr, or_mod, xor_shr, xor_mod}
use Rattle.std.proofs.lemmas.Option.{same_Some}
use Rattle.std.proofs.Math.Pow.{mod-mod-pow}
use Rattle.std.proofs.Math.Nat.{mul_comm, mul_assoc, mul-add, pow-suc, suc-mul}
use Rattle.esi_base.specs.Bits.{bit_value, number_of, bits_of, zip_bits, same_bits, length-bits_of}

double : (k : ℕ) → 2 ^ suc k ≡ 2 * 2 ^ k
double k = pow-suc 2 k ∙ mul_comm (2 ^ k) 2

bit_value-le : (b : Bool) → bit_value b ≤ 1
bit_value-le true = omega arith
bit_value-le false = omega arith

pub number_of-below : (bits : List Bool) → number_of bits < 2 ^ length bits
number_of-below [] = omega arith
number_of-below (b ∷ bs) = omega (arith, bit_value-le b, number_of-below bs, double (length bs))

moved_up : (q a b : ℕ) → 2 * (a + q * b) ≡ 2 * a + 2 * q * b
moved_up q a b = mul-add 2 a (q * b) ∙ ap (λ m. 2 * a + m) (sym (mul_assoc 2 q b))

-- the bits of a second list stand above those of the first
pub number_of-append : (low high : List Bool) → number_of (low ++ high) ≡ number_of low + 2 ^ length low * number_of high
number_of-append [] high = sym (let e : 0 + 1 * number_of high ≡ number_of high = omega arith in e)
number_of-append (b ∷ low) high =
    ap (λ m. bit_value b + 2 * m) (number_of-append low high)
    ∙ ap (λ m. bit_value b + m) (moved_up (2 ^ length low) (number_of low) (number_of high))
    ∙ ap (λ q. bit_value b + (2 * number_of low + q * number_of high)) (sym (double (length low)))
    ∙ omega arith

lowest_bit : (b : Bool) (n : ℕ) → ((bit_value b + 2 * n) % 2 == 1) ≡ b
lowest_bit true n = ap (λ m. m == 1) (let e : (1 + 2 * n) % 2 ≡ 1 = omega arith in e)
lowest_bit false n = ap (λ m. m == 1) (let e : (0 + 2 * n) % 2 ≡ 0 = omega arith in e)

other_bits : (b : Bool) (n : ℕ) → (bit_value b + 2 * n) / 2 ≡ n
other_bits true n = omega arith
other_bits false n = omega arith

-- a list of bits is that of its number
pub bits_of-number_of : (bits : List Bool) → bits_of (length bits) (number_of bits) ≡ bits
bits_of-number_of [] = refl
bits_of-number_of (b ∷ bs) =
    ap (λ c. c ∷ bits_of (length bs) ((bit_value b + 2 * number_of bs) / 2)) (lowest_bit b (number_of bs))
    ∙ ap (λ n. b ∷ bits_of (length bs) n) (other_bits b (number_of bs))
    ∙ ap (λ cs. b ∷ cs) (bits_of-number_of bs)

-- as many bits with the same number are the same
pub same_from_number_of : (xs ys : List Bool) → length xs ≡ length ys → number_of xs ≡ number_of ys → xs ≡ ys
same_from_number_of xs ys h e = sym (bits_of-number_of xs) ∙ ap (λ k. bits_of k (number_of xs)) h ∙ ap (λ n. bits_of (length ys) n) e ∙ bits_of-number_of ys

bits_of-mod_add : (width j n : ℕ) → bits_of width (n % 2 ^ (j + width)) ≡ bits_of width n
bits_of-mod_add zero j n = refl
bits_of-mod_add (suc width) j n =
    let further : j + suc width ≡ (j + width) + 1 = omega arith in
    ap (λ k. bits_of (suc width) (n % 2 ^ k)) further
    ∙ ap (λ m. (m == 1) ∷ bits_of width (n % 2 ^ ((j + width) + 1) / 2)) (mod-mod-pow n (j + width) 1)
    ∙ ap (λ m. (n % 2 == 1) ∷ bits_of width m) (field_of n (j + width) 1)
    ∙ ap (λ bs. (n % 2 == 1) ∷ bs) (bits_of-mod_add width j (n / 2))

-- the bits below a place are those of the number modulo its power
pub bits_of-mod : (width k n : ℕ) → width ≤ k → bits_of width (n % 2 ^ k) ≡ bits_of width n
bits_of-mod width k n h = ap (λ j. bits_of width (n % 2 ^ j)) (let e : k ≡ (k - width) + width = omega arith in e) ∙ bits_of-mod_add width (k - width) n

bit_further : (n k : ℕ) → n / 2 / 2 ^ k ≡ n / 2 ^ suc k
bit_further n k = shr-shr n 1 k ∙ ap (λ j. n / 2 ^ j) (let e : 1 + k ≡ suc k = omega arith in e)

-- the lower bits of a number, then the ones above them
pub bits_of-add : (low high n : ℕ) → bits_of (low + high) n ≡ bits_of low n ++ bits_of high (n / 2 ^ low)
bits_of-add zero high n = ap (λ k. bits_of k n) (let e : 0 + high ≡ high = omega arith in e) ∙ ap (λ m. bits_of high m) (let e : n ≡ n / 1 = omega arith in e)
bits_of-add (suc low) high n =
    ap (λ k. bits_of k n) (let e : suc low + high ≡ suc (low + high) = omega arith in e)
    ∙ ap (λ bs. (n % 2 == 1) ∷ bs) (bits_of-add low high (n / 2) ∙ ap (λ m. bits_of low (n / 2) ++ bits_of high m) (bit_further n low))

-- one number above the bits of another one
pub bits_of-joined : (width low_width high low : ℕ) → low < 2 ^ low_width → bits_of (low_width + width) (high * 2 ^ low_width + low) ≡ bits_of low_width low ++ bits_of width high
bits_of-joined width low_width high low h =
    bits_of-add low_width width (high * 2 ^ low_width + low)
    ∙ ap (λ n. bits_of low_width (high * 2 ^ low_width + low) ++ bits_of width n) (shr_high high low_width low h)
    ∙ ap (λ bs. bs ++ bits_of width high)
    (sym (bits_of-mod low_width low_width (high * 2 ^ low_width + low) (omega arith)) ∙ ap (λ n. bits_of low_width n) (mod_low high low_width low h))

-- and that number fits both widths together
pub joined-below : (width low_width high low : ℕ) → high < 2 ^ width → low < 2 ^ low_width → high * 2 ^ low_width + low < 2 ^ (width + low_width)
joined-below width low_width high low h l =
    let room : suc high * 2 ^ low_width ≤ 2 ^ width * 2 ^ low_width = mul-le (suc high) (2 ^ low_width) (2 ^ width) (2 ^ low_width) (omega arith) (omega arith) in
    omega (arith, room, suc-mul high (2 ^ low_width), pow-add 2 width low_width)

pub take-bits_of : (k width n : ℕ) → k ≤ width → take k (bits_of width n) ≡ bits_of k n
take-bits_of zero width n h = refl
take-bits_of (suc k) zero n h = absurd (omega arith)
take-bits_of (suc k) (suc width) n h = ap (λ bs. (n % 2 == 1) ∷ bs) (take-bits_of k width (n / 2) (omega arith))

pub drop-bits_of : (k width n : ℕ) → k ≤ width → drop k (bits_of width n) ≡ bits_of (width - k) (n / 2 ^ k)
drop-bits_of zero width n h = ap (λ j. bits_of j n) (let e : width ≡ width - 0 = omega arith in e) ∙ ap (λ m. bits_of (width - 0) m) (let e : n ≡ n / 1 = omega arith in e)
drop-bits_of (suc k) zero n h = absurd (omega arith)
drop-bits_of (suc k) (suc width) n h =
    drop-bits_of k width (n / 2) (omega arith)
    ∙ ap (λ m. bits_of (width - k) m) (bit_further n k)
    ∙ ap (λ j. bits_of j (n / 2 ^ suc k)) (let e : width - k ≡ suc width - suc k = omega arith in e)

-- the bits from one place up to another one
pub slice_range-bits_of : (width n low end : ℕ) → low ≤ end → end ≤ width → slice_range (bits_of width n) low end ≡ bits_of (end - low) (n / 2 ^ low)
slice_range-bits_of width n low end h l =
    ap (λ bs. take (end - low) bs) (drop-bits_of low width n (omega arith))
    ∙ take-bits_of (end - low) (width - low) (n / 2 ^ low) (omega arith)

-- the test that two lists of bits are the same tells it
pub same_bits-true : (xs ys : List Bool) → (same_bits xs ys ≡ true) ↔ (xs ≡ ys)
same_bits-true = pointwise_decides booleans_Decides

-- where an operation on numbers works bit by bit, so do the bits of its answer
module _ (op : ℕ → ℕ → ℕ) (f : Bool → Bool → Bool) (lowest : (a b : ℕ) → (op a b % 2 == 1) ≡ f (a % 2 == 1) (b % 2 == 1)) (further : (a b : ℕ) → op a b / 2 ≡ op (a / 2) (b / 2)) where
  bits_of-op : (width a b : ℕ) → bits_of width (op a b) ≡ zip_bits f (bits_of width a) (bits_of width b)
  bits_of-op zero a b = refl
  bits_of-op (suc width) a b =
      ap (λ c. c ∷ bits_of width (op a b / 2)) (lowest a b)
      ∙ ap (λ n. f (a % 2 == 1) (b % 2 == 1) ∷ bits_of width n) (further a b)
      ∙ ap (λ bs. f (a % 2 == 1) (b % 2 == 1) ∷ bs) (bits_of-op width (a / 2) (b / 2))

and_of_bits : (a b : ℕ) → a < 2 → b < 2 → (bit_and a b == 1) ≡ ((a == 1) && (b == 1))
and_of_bits zero zero h l = refl
and_of_bits zero (suc zero) h l = refl
and_of_bits (suc zero) zero h l = refl
and_of_bits (suc zero) (suc zero) h l = refl
and_of_bits (suc (suc a)) b h l = absurd (omega arith)
and_of_bits a (suc (suc b)) h l = absurd (omega arith)

or_of_bits : (a b : ℕ) → a < 2 → b < 2 → (bit_or a b == 1) ≡ ((a == 1) || (b == 1))
or_of_bits zero zero h l = refl
or_of_bits zero (suc zero) h l = refl
or_of_bits (suc zero) zero h l = refl
or_of_bits (suc zero) (suc zero) h l = refl
or_of_bits (suc (suc a)) b h l = absurd (omega arith)
or_of_bits a (suc (suc b)) h l = absurd (omega arith)

xor_of_bits : (a b : ℕ) → a < 2 → b < 2 → (bit_xor a b == 1) ≡ xor (a == 1) (b == 1)
unfolding mathlib.Core.Bool.xor
xor_of_bits zero zero h l = refl
xor_of_bits zero (suc zero) h l = refl
xor_of_bits (suc zero) zero h l = refl
xor_of_bits (suc zero) (suc zero) h l = refl
xor_of_bits (suc (suc a)) b h l = absurd (omega arith)
xor_of_bits a (suc (suc b)) h l = absurd (omega arith)

pub bits_of-and : (width a b : ℕ) → bits_of width (bit_and a b) ≡ zip_bits ◌&&◌ (bits_of width a) (bits_of width b)
bits_of-and =
    bits_of-op bit_and ◌&&◌
    (λ a b. ap (λ n. n == 1) (and_mod a b 1) ∙ and_of_bits (a % 2) (b % 2) (omega arith) (omega arith))
    (λ a b. and_shr a b 1)

pub bits_of-or : (width a b : ℕ) → bits_of width (bit_or a b) ≡ zip_bits ◌||◌ (bits_of width a) (bits_of width b)
bits_of-or =
    bits_of-op bit_or ◌||◌
    (λ a b. ap (λ n. n == 1) (or_mod a b 1) ∙ or_of_bits (a % 2) (b % 2) (omega arith) (omega arith))
    (λ a b. or_shr a b 1)

pub bits_of-xor : (width a b : ℕ) → bits_of width (bit_xor a b) ≡ zip_bits xor (bits_of width a) (bits_of width b)
bits_of-xor =
    bits_of-op bit_xor xor
    (λ a b. ap (λ n. n == 1) (xor_mod a b 1) ∙ xor_of_bits (a % 2) (b % 2) (omega arith) (omega arith))
    (λ a b. xor_shr a b 1)

ones_further : (width : ℕ) → (2 ^ suc width - 1) / 2 ≡ 2 ^ width - 1
ones_further width = omega (arith, double width, pow_pos width)

ones_lowest : (width : ℕ) → (2 ^ suc width - 1) % 2 ≡ 1
ones_lowest width = omega (arith, double width, pow_pos width)

pub bits_of-ones : (width : ℕ) → bits_of width (2 ^ width - 1) ≡ replicate width true
bits_of-ones zero = refl
bits_of-ones (suc width) =
    ap (λ n. (n == 1) ∷ bits_of width ((2 ^ suc width - 1) / 2)) (ones_lowest width)
    ∙ ap (λ n. true ∷ bits_of width n) (ones_further width)
    ∙ ap (λ bs. true ∷ bs) (bits_of-ones width)

xor-true : (b : Bool) → xor b true ≡ not b
unfolding mathlib.Core.Bool.xor
xor-true true = refl
xor-true false = refl

pub zip_bits-xor_ones : (bits : List Bool) → zip_bits xor bits (replicate (length bits) true) ≡ map not bits
zip_bits-xor_ones [] = refl
zip_bits-xor_ones (b ∷ bs) = ap (λ c. c ∷ zip_bits xor bs (replicate (length bs) true)) (xor-true b) ∙ ap (λ cs. not b ∷ cs) (zip_bits-xor_ones bs)

-- each bit of a number the other way
pub bits_of-not : (width n : ℕ) → bits_of width (bit_xor n (2 ^ width - 1)) ≡ map not (bits_of width n)
bits_of-not width n =
    bits_of-xor width n (2 ^ width - 1)
    ∙ ap (λ bs. zip_bits xor (bits_of width n) bs) (bits_of-ones width ∙ ap (λ k. replicate k true) (sym (length-bits_of width n)))
    ∙ zip_bits-xor_ones (bits_of width n)

pub length-zip_bits : (f : Bool → Bool → Bool) (xs ys : List Bool) → length xs ≡ length ys → length (zip_bits f xs ys) ≡ length xs
length-zip_bits f [] ys h = refl
length-zip_bits f (x ∷ xs) [] h = absurd (omega arith)
length-zip_bits f (x ∷ xs) (y ∷ ys) h = ap suc (length-zip_bits f xs ys (omega arith))

-- a list of one bit is known by it
pub one_bit : (bits : List Bool) (b : Bool) → length bits ≡ 1 → slice_get bits 0 ≡ Some b → bits ≡ b ∷ []
one_bit [] b h e = absurd (omega arith)
one_bit (c ∷ []) b h e = ap (λ d. d ∷ []) (same_Some c b e)
one_bit (c ∷ d ∷ bits) b h e = absurd (omega arith)
