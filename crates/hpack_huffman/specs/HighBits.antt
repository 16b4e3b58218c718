-- Bits of numbers, the most significant first: numbers that are cut and joined.
use Rattle.std.specs.Prelude.{ℕ, zero, suc, ◌≡◌, ◌+◌, ◌*◌, ◌/◌, ◌%◌, ◌^◌, ◌<◌, ◌==◌, List, [], ◌∷◌, ◌++◌, length, refl}
use Rattle.std.proofs.Common.{sym, ◌∙◌, ap, arith, append_assoc, length-append}
use Rattle.std.proofs.lemmas.Nat.{shr-shr, pow_pos, div-mul-add, div-add-mod'}
use Rattle.std.proofs.Math.Nat.{mul-add-div_right, mul_assoc, mul_comm, pow-suc}
use Rattle.hpack_huffman.specs.Code.{high_bits, bits_of}

pub length-high_bits : (width n : ℕ) → length (high_bits width n) ≡ width
length-high_bits zero n = refl
length-high_bits (suc width) n = ap suc (length-high_bits width n)

-- The high bits of a number are those of the number without its low ones.
pub high_split : (a b n : ℕ) → high_bits (a + b) n ≡ high_bits a (n / 2 ^ b) ++ high_bits b n
high_split zero b n = ap (λ k. high_bits k n) (let e : 0 + b ≡ b = omega arith in e)
high_split (suc a) b n =
    ap (λ k. high_bits k n) (let e : suc a + b ≡ suc (a + b) = omega arith in e)
    ∙ ap (λ m. (m % 2 == 1) ∷ high_bits (a + b) n) (sym (shr-shr n b a ∙ ap (λ k. n / 2 ^ k) (let e : b + a ≡ a + b = omega arith in e)))
    ∙ ap (λ bits. (n / 2 ^ b / 2 ^ a % 2 == 1) ∷ bits) (high_split a b n)

twice : (x q : ℕ) → x * (2 * q) ≡ 2 * x * q
twice x q = sym (mul_assoc x 2 q) ∙ ap (λ m. m * q) (mul_comm x 2)

doubled : (width x y : ℕ) → x * 2 ^ suc width + y ≡ 2 * x * 2 ^ width + y
doubled width x y = ap (λ m. m + y) (ap (λ q. x * q) (pow-suc 2 width ∙ mul_comm (2 ^ width) 2) ∙ twice x (2 ^ width))

parity : (x q : ℕ) → (2 * x + q) % 2 ≡ q % 2
parity x q = omega arith

-- What stands above the width does not count.
pub high_above : (width x y : ℕ) → high_bits width (x * 2 ^ width + y) ≡ high_bits width y
high_above zero x y = refl
high_above (suc width) x y =
    ap (λ n. (n / 2 ^ width % 2 == 1) ∷ high_bits width n) (doubled width x y)
    ∙ ap (λ m. (m == 1) ∷ high_bits width (2 * x * 2 ^ width + y)) (ap (λ m. m % 2) (mul-add-div_right (pow_pos width) (2 * x) y) ∙ parity x (y / 2 ^ width))
    ∙ ap (λ bits. (y / 2 ^ width % 2 == 1) ∷ bits) (high_above width (2 * x) y)

-- A number that is put after another has its bits after the other's.
pub high_join : (a b x y : ℕ) → y < 2 ^ b → high_bits (a + b) (x * 2 ^ b + y) ≡ high_bits a x ++ high_bits b y
high_join a b x y h =
    high_split a b (x * 2 ^ b + y)
    ∙ ap (λ m. high_bits a m ++ high_bits b (x * 2 ^ b + y)) (div-mul-add x (2 ^ b) y h)
    ∙ ap (λ bits. high_bits a x ++ bits) (high_above b x y)

-- An octet is its two halves.
pub octet_halves : (octet : ℕ) → high_bits 8 octet ≡ high_bits 4 (octet / 16) ++ high_bits 4 (octet % 16)
octet_halves octet = ap (λ n. high_bits 8 n) (sym (div-add-mod' octet 16)) ∙ high_join 4 4 (octet / 16) (octet % 16) (omega arith)

pub bits_of-append : (xs ys : List ℕ) → bits_of (xs ++ ys) ≡ bits_of xs ++ bits_of ys
bits_of-append [] ys = refl
bits_of-append (x ∷ xs) ys = ap (λ bits. high_bits 8 x ++ bits) (bits_of-append xs ys) ∙ sym (append_assoc (high_bits 8 x) (bits_of xs) (bits_of ys))

pub length-bits_of : (xs : List ℕ) → length (bits_of xs) ≡ 8 * length xs
length-bits_of [] = refl
length-bits_of (x ∷ xs) = length-append (high_bits 8 x) (bits_of xs) ∙ ap (λ n. length (high_bits 8 x) + n) (length-bits_of xs) ∙ omega (arith, length-high_bits 8 x)
