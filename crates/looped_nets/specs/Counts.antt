-- A count as the word of a net: comparisons with constants, and one bit as a number.
use Rattle.std.specs.Prelude.{◌≡◌, ℕ, zero, suc, ◌+◌, ◌*◌, ◌%◌, ◌^◌, ◌<◌, ◌==◌, nat_lt, Bool, true, false, List, [], ◌∷◌, ◌++◌, length, replicate, refl}
use Rattle.std.proofs.Common.{sym, ◌∙◌, ap, arith, eq-eqb}
use Rattle.std.proofs.lemmas.Bool.{eqb-true}
use Rattle.std.proofs.lemmas.Bool.Decides.{nat_tests}
use Rattle.std.proofs.lemmas.Nat.{mod_low}
use Rattle.esi_base.specs.Bits.{number_of, bits_of, same_bits, length-bits_of, number_of-bits_of, bits_of-zero}
use Rattle.esi_base.specs.BitLists.{same_bits-true, same_from_number_of}
use Rattle.element_wires.specs.Wires.{one}

same_test : (x y : Bool) → (x ≡ true → y ≡ true) → (y ≡ true → x ≡ true) → x ≡ y
same_test true y f g = sym (f refl)
same_test false true f g = g refl
same_test false false f g = refl

small : (k n : ℕ) → n < 2 ^ k → n % 2 ^ k ≡ n
small k n h = ap (λ m. m % 2 ^ k) (let e : n ≡ 0 * 2 ^ k + n = omega arith in e) ∙ mod_low 0 k n h

-- a word is the word of a number where it is that number
pub is_number : (k n : ℕ) (word : List Bool) → length word ≡ k → n < 2 ^ k → same_bits word (bits_of k n) ≡ (number_of word == n)
is_number k n word e h =
    let number : number_of (bits_of k n) ≡ n = number_of-bits_of k n ∙ small k n h in
    same_test (same_bits word (bits_of k n)) (number_of word == n)
    (λ t. eq-eqb (number_of word) n (ap number_of ((same_bits-true word (bits_of k n)).0 t) ∙ number))
    (λ t. (same_bits-true word (bits_of k n)).1 (same_from_number_of word (bits_of k n) (e ∙ sym (length-bits_of k n)) (eqb-true (number_of word) n t ∙ sym number)))

pub zeros_number : (n : ℕ) → number_of (replicate n false) ≡ 0
zeros_number zero = refl
zeros_number (suc n) = ap (λ m. 0 + 2 * m) (zeros_number n)

-- one bit below zeros
pub bit_number : (b : Bool) (k : ℕ) → number_of ((b ∷ []) ++ bits_of k 0) ≡ one b
bit_number true k = ap (λ m. 1 + 2 * m) (ap number_of (bits_of-zero k) ∙ zeros_number k)
bit_number false k = ap (λ m. 0 + 2 * m) (ap number_of (bits_of-zero k) ∙ zeros_number k)

pub below_test : (a b : ℕ) → a < b → nat_lt a b ≡ true
below_test a b h = grind (arith, nat_tests)

pub itself_test : (a : ℕ) → nat_lt a a ≡ false
itself_test a = grind (arith, nat_tests)
