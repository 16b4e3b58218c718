-- Words as lists of bits, the least significant bit first.
use Rattle.std.specs.Prelude.{◌≡◌, ℕ, zero, suc, ◌+◌, ◌-◌, ◌*◌, ◌/◌, ◌%◌, ◌^◌, ◌<◌, ◌==◌, if◌then◌else◌, Bool, false, List, [], ◌∷◌, length, replicate, slice_get, Some, refl}
use Rattle.std.specs.Cmp.Lexicographic.{pointwise}
use Rattle.std.specs.Bool.{beq}
use Rattle.std.proofs.Common.{sym, ◌∙◌, ap, arith}
use Rattle.std.proofs.lemmas.Nat.{shr-shr, mod-pow-add}
use Rattle.esi_base.specs.Parts.{field_in_part}

abbrev pub bit_value : Bool → ℕ
bit_value b = if b then 1 else 0

-- the number that the bits are in base 2
abbrev pub number_of : List Bool → ℕ
number_of [] = 0
number_of (b ∷ bs) = bit_value b + 2 * number_of bs

-- bit by bit, as far as both lists go
abbrev pub zip_bits : (Bool → Bool → Bool) → List Bool → List Bool → List Bool
zip_bits f [] bs = []
zip_bits f (a ∷ as') [] = []
zip_bits f (a ∷ as') (b ∷ bs) = f a b ∷ zip_bits f as' bs

-- the test that two lists of bits are the same
abbrev pub same_bits : List Bool → List Bool → Bool
same_bits = pointwise beq

-- the lowest bits of a number, as many as the width says
abbrev pub bits_of : ℕ → ℕ → List Bool
bits_of zero n = []
bits_of (suc width) n = (n % 2 == 1) ∷ bits_of width (n / 2)

pub length-bits_of : (width n : ℕ) → length (bits_of width n) ≡ width
length-bits_of zero n = refl
length-bits_of (suc width) n = ap suc (length-bits_of width (n / 2))

pub bits_of-zero : (width : ℕ) → bits_of width 0 ≡ replicate width false
bits_of-zero zero = refl
bits_of-zero (suc width) = ap (λ bs. false ∷ bs) (bits_of-zero width)

bit_value-test : (n : ℕ) → bit_value (n % 2 == 1) ≡ n % 2
bit_value-test n = grind arith

pub number_of-bits_of : (width n : ℕ) → number_of (bits_of width n) ≡ n % 2 ^ width
number_of-bits_of zero n = sym (let e : n % 1 ≡ 0 = omega arith in e)
number_of-bits_of (suc width) n =
    ap (λ m. m + 2 * number_of (bits_of width (n / 2))) (bit_value-test n)
    ∙ ap (λ m. n % 2 + 2 * m) (number_of-bits_of width (n / 2))
    ∙ sym (ap (λ k. n % 2 ^ k) (let e : suc width ≡ width + 1 = omega arith in e) ∙ mod-pow-add n width 1 ∙ omega arith)

bit_further : (n k : ℕ) → n / 2 / 2 ^ k ≡ n / 2 ^ suc k
bit_further n k = shr-shr n 1 k ∙ ap (λ j. n / 2 ^ j) (let e : 1 + k ≡ suc k = omega arith in e)

pub slice_get-bits_of : (width n k : ℕ) → k < width → slice_get (bits_of width n) k ≡ Some (n / 2 ^ k % 2 == 1)
slice_get-bits_of zero n k h = absurd (omega arith)
slice_get-bits_of (suc width) n zero h = ap (λ m. Some (m % 2 == 1)) (let e : n ≡ n / 2 ^ 0 = omega arith in e)
slice_get-bits_of (suc width) n (suc k) h =
    slice_get-bits_of width (n / 2) k (omega arith) ∙ ap (λ m. Some (m % 2 == 1)) (bit_further n k)

-- a bit of a limb is the bit of the number at the limb's place and the bit's
pub bit_in_limb : (n at : ℕ) → n / 2 ^ (64 * (at / 64)) % 2 ^ 64 / 2 ^ (at % 64) % 2 ≡ n / 2 ^ at % 2
bit_in_limb n at = field_in_part n 64 (at / 64) (at % 64) (63 - at % 64) 1 at (omega arith) (omega arith)
