-- A number as its parts of equally many bits, least first: limbs are parts of 64 bits, octets of 8.
use Rattle.std.specs.Prelude.{◌≡◌, ℕ, zero, suc, ◌+◌, ◌*◌, ◌/◌, ◌%◌, ◌^◌, ◌<◌, List, [], ◌∷◌, ◌++◌, length, replicate, take, drop, bit_and, bit_or, bit_xor, refl}
use Rattle.std.specs.List.{AllByRecursion}
use Rattle.std.proofs.Common.{sym, ◌∙◌, ap, subst, get_or, set, arith}
use Rattle.std.proofs.lemmas.Nat.{shr-shr, pow_pos, pow-add, mod-pow-add, div-mul-add, mod-mul-add, field_of, and_shr, and_mod, or_shr, or_mod, xor_shr, xor_mod}
use Rattle.std.proofs.Math.Pow.{mod-mod-pow}
use Rattle.std.proofs.Math.Nat.{mul_comm, mul_assoc, mul-add, mod-lt}

-- the number that the parts are
abbrev pub whole : ℕ → List ℕ → ℕ
whole w [] = 0
whole w (x ∷ xs) = x + 2 ^ w * whole w xs

-- part i of a number
abbrev pub part : ℕ → ℕ → ℕ → ℕ
part w n i = n / 2 ^ (w * i) % 2 ^ w

-- the first k parts of a number
abbrev pub parts : ℕ → ℕ → ℕ → List ℕ
parts w zero n = []
parts w (suc k) n = n % 2 ^ w ∷ parts w k (n / 2 ^ w)

-- each part has at most w bits
abbrev pub AreSmall : ℕ → List ℕ → Type 0
AreSmall w xs = AllByRecursion (λ x. x < 2 ^ w) xs

pub whole-zeros : (w k : ℕ) → whole w (replicate k 0) ≡ 0
whole-zeros w zero = refl
whole-zeros w (suc k) = ap (λ n. 0 + 2 ^ w * n) (whole-zeros w k) ∙ omega arith

pub AreSmall-zeros : (w k : ℕ) → AreSmall w (replicate k 0)
AreSmall-zeros w zero = tt
AreSmall-zeros w (suc k) = (pow_pos w, AreSmall-zeros w k)

first_of_whole : (w x n : ℕ) → x < 2 ^ w → (x + 2 ^ w * n) % 2 ^ w ≡ x
first_of_whole w x n h = ap (λ m. m % 2 ^ w) (let e : x + 2 ^ w * n ≡ n * 2 ^ w + x = ap (λ m. x + m) (mul_comm (2 ^ w) n) ∙ omega arith in e) ∙ mod-mul-add n (2 ^ w) x h

rest_of_whole : (w x n : ℕ) → x < 2 ^ w → (x + 2 ^ w * n) / 2 ^ w ≡ n
rest_of_whole w x n h = ap (λ m. m / 2 ^ w) (let e : x + 2 ^ w * n ≡ n * 2 ^ w + x = ap (λ m. x + m) (mul_comm (2 ^ w) n) ∙ omega arith in e) ∙ div-mul-add n (2 ^ w) x h

-- a number is its parts
pub parts-whole : (w : ℕ) (xs : List ℕ) → AreSmall w xs → parts w (length xs) (whole w xs) ≡ xs
parts-whole w [] h = refl
parts-whole w (x ∷ xs) h =
    ap (λ n. n ∷ parts w (length xs) ((x + 2 ^ w * whole w xs) / 2 ^ w)) (first_of_whole w x (whole w xs) h.0)
    ∙ ap (λ n. x ∷ parts w (length xs) n) (rest_of_whole w x (whole w xs) h.0)
    ∙ ap (λ ys. x ∷ ys) (parts-whole w xs h.1)

pub part-zero : (w n : ℕ) → part w n 0 ≡ n % 2 ^ w
part-zero w n = let e : w * 0 ≡ 0 = omega arith in ap (λ k. n / 2 ^ k % 2 ^ w) e ∙ ap (λ k. k % 2 ^ w) (let d : n / 1 ≡ n = omega arith in d)

part-suc : (w n k : ℕ) → part w n (suc k) ≡ part w (n / 2 ^ w) k
part-suc w n k = ap (λ j. n / 2 ^ j % 2 ^ w) (let e : w * suc k ≡ w + w * k = omega arith in e) ∙ sym (ap (λ m. m % 2 ^ w) (shr-shr n w (w * k)))

-- each part stands at its place
pub part-whole : (w : ℕ) (xs : List ℕ) (k : ℕ) → AreSmall w xs → get_or xs k 0 ≡ part w (whole w xs) k
part-whole w [] k h = sym (let e : 0 / 2 ^ (w * k) ≡ 0 = omega arith in ap (λ m. m % 2 ^ w) e ∙ omega arith)
part-whole w (x ∷ xs) zero h = sym (part-zero w (x + 2 ^ w * whole w xs) ∙ first_of_whole w x (whole w xs) h.0)
part-whole w (x ∷ xs) (suc k) h =
    part-whole w xs k h.1
    ∙ sym (part-suc w (x + 2 ^ w * whole w xs) k ∙ ap (λ m. part w m k) (rest_of_whole w x (whole w xs) h.0))

pub length-parts : (w k n : ℕ) → length (parts w k n) ≡ k
length-parts w zero n = refl
length-parts w (suc k) n = ap suc (length-parts w k (n / 2 ^ w))

-- the parts are listed in order
pub get_or-parts : (w k n i d : ℕ) → i < k → get_or (parts w k n) i d ≡ part w n i
get_or-parts w zero n i d h = absurd (omega arith)
get_or-parts w (suc k) n zero d h = sym (part-zero w n)
get_or-parts w (suc k) n (suc i) d h = get_or-parts w k (n / 2 ^ w) i d (omega arith) ∙ sym (part-suc w n i)

-- some bits within a part are those of the number, from the part's place on
pub field_in_part : (n w q r j k at : ℕ) → j + (k + r) ≡ w → w * q + r ≡ at → n / 2 ^ (w * q) % 2 ^ w / 2 ^ r % 2 ^ k ≡ n / 2 ^ at % 2 ^ k
field_in_part n w q r j k at h e =
    ap (λ m. n / 2 ^ (w * q) % 2 ^ m / 2 ^ r % 2 ^ k) (let f : w ≡ (j + k) + r = omega arith in f)
    ∙ ap (λ m. m % 2 ^ k) (field_of (n / 2 ^ (w * q)) (j + k) r)
    ∙ mod-mod-pow (n / 2 ^ (w * q) / 2 ^ r) j k
    ∙ ap (λ m. m % 2 ^ k) (shr-shr n (w * q) r)
    ∙ ap (λ m. n / 2 ^ m % 2 ^ k) e

pub AreSmall-parts : (w k n : ℕ) → AreSmall w (parts w k n)
AreSmall-parts w zero n = tt
AreSmall-parts w (suc k) n = (mod-lt n (pow_pos w), AreSmall-parts w k (n / 2 ^ w))

pub AreSmall-from_get_or : (w : ℕ) (xs : List ℕ) → ((k : ℕ) → get_or xs k 0 < 2 ^ w) → AreSmall w xs
AreSmall-from_get_or w [] h = tt
AreSmall-from_get_or w (x ∷ xs) h = (h 0, AreSmall-from_get_or w xs (λ k. h (suc k)))

pub AreSmall-drop : (w k : ℕ) (xs : List ℕ) → AreSmall w xs → AreSmall w (drop k xs)
AreSmall-drop w zero xs h = h
AreSmall-drop w (suc k) [] h = tt
AreSmall-drop w (suc k) (x ∷ xs) h = AreSmall-drop w k xs h.1

pub AreSmall-take : (w k : ℕ) (xs : List ℕ) → AreSmall w xs → AreSmall w (take k xs)
AreSmall-take w zero xs h = tt
AreSmall-take w (suc k) [] h = tt
AreSmall-take w (suc k) (x ∷ xs) h = (h.0, AreSmall-take w k xs h.1)

pub AreSmall-append : (w : ℕ) (xs ys : List ℕ) → AreSmall w xs → AreSmall w ys → AreSmall w (xs ++ ys)
AreSmall-append w [] ys h g = g
AreSmall-append w (x ∷ xs) ys h g = (h.0, AreSmall-append w xs ys h.1 g)

pub AreSmall-set : (w : ℕ) (xs : List ℕ) (i x : ℕ) → AreSmall w xs → x < 2 ^ w → AreSmall w (set xs i x)
AreSmall-set w [] i x h l = tt
AreSmall-set w (y ∷ xs) zero x h l = (l, h.1)
AreSmall-set w (y ∷ xs) (suc i) x h l = (h.0, AreSmall-set w xs i x h.1 l)

bits_more : (w k : ℕ) → w * suc k ≡ w * k + w
bits_more w k = omega arith

-- the first parts are the number's lowest bits
pub whole-parts : (w k n : ℕ) → whole w (parts w k n) ≡ n % 2 ^ (w * k)
whole-parts w zero n = sym (let e : w * 0 ≡ 0 = omega arith in ap (λ j. n % 2 ^ j) e ∙ let d : n % 1 ≡ 0 = omega arith in d)
whole-parts w (suc k) n =
    ap (λ m. n % 2 ^ w + 2 ^ w * m) (whole-parts w k (n / 2 ^ w))
    ∙ ap (λ m. n % 2 ^ w + m) (mul_comm (2 ^ w) (n / 2 ^ w % 2 ^ (w * k)))
    ∙ sym (ap (λ j. n % 2 ^ j) (bits_more w k) ∙ mod-pow-add n (w * k) w ∙ omega arith)

pub whole-below : (w : ℕ) (xs : List ℕ) → AreSmall w xs → whole w xs < 2 ^ (w * length xs)
whole-below w xs h =
    subst (λ n. n < 2 ^ (w * length xs)) (sym (whole-parts w (length xs) (whole w xs)) ∙ ap (λ ys. whole w ys) (parts-whole w xs h)) (mod-lt (whole w xs) (pow_pos (w * length xs)))

moved_up : (p q a b : ℕ) → p * (a + q * b) ≡ p * a + p * q * b
moved_up p q a b = mul-add p a (q * b) ∙ ap (λ m. p * a + m) (sym (mul_assoc p q b))

-- the parts of a second number stand above those of the first
pub whole-append : (w : ℕ) (xs ys : List ℕ) → whole w (xs ++ ys) ≡ whole w xs + 2 ^ (w * length xs) * whole w ys
whole-append w [] ys = sym (let e : w * 0 ≡ 0 = omega arith in ap (λ j. 0 + 2 ^ j * whole w ys) e ∙ omega arith)
whole-append w (x ∷ xs) ys =
    ap (λ n. x + 2 ^ w * n) (whole-append w xs ys)
    ∙ ap (λ n. x + n) (moved_up (2 ^ w) (2 ^ (w * length xs)) (whole w xs) (whole w ys))
    ∙ ap (λ n. x + (2 ^ w * whole w xs + n * whole w ys)) (sym (ap (λ j. 2 ^ j) (let e : w * suc (length xs) ≡ w + w * length xs = omega arith in e) ∙ pow-add 2 w (w * length xs)))
    ∙ omega arith

-- without its first parts a number is shifted down
pub whole-drop : (w k : ℕ) (xs : List ℕ) → AreSmall w xs → whole w (drop k xs) ≡ whole w xs / 2 ^ (w * k)
whole-drop w zero xs h = sym (let e : w * 0 ≡ 0 = omega arith in ap (λ j. whole w xs / 2 ^ j) e ∙ omega arith)
whole-drop w (suc k) [] h = sym (let e : 0 / 2 ^ (w * suc k) ≡ 0 = omega arith in e)
whole-drop w (suc k) (x ∷ xs) h =
    whole-drop w k xs h.1
    ∙ ap (λ n. n / 2 ^ (w * k)) (sym (rest_of_whole w x (whole w xs) h.0))
    ∙ shr-shr (x + 2 ^ w * whole w xs) w (w * k)
    ∙ ap (λ j. (x + 2 ^ w * whole w xs) / 2 ^ j) (let e : w + w * k ≡ w * suc k = omega arith in e)

-- the first parts of a number are its lowest bits
pub whole-take : (w k : ℕ) (xs : List ℕ) → AreSmall w xs → whole w (take k xs) ≡ whole w xs % 2 ^ (w * k)
whole-take w zero xs h = sym (let e : w * 0 ≡ 0 = omega arith in ap (λ j. whole w xs % 2 ^ j) e ∙ let d : whole w xs % 1 ≡ 0 = omega arith in d)
whole-take w (suc k) [] h = sym (let e : 0 % 2 ^ (w * suc k) ≡ 0 = omega arith in e)
whole-take w (suc k) (x ∷ xs) h =
    ap (λ n. x + 2 ^ w * n) (whole-take w k xs h.1)
    ∙ sym (ap (λ j. (x + 2 ^ w * whole w xs) % 2 ^ j) (bits_more w k)
    ∙ mod-pow-add (x + 2 ^ w * whole w xs) (w * k) w
    ∙ ap (λ n. (n % 2 ^ (w * k)) * 2 ^ w + (x + 2 ^ w * whole w xs) % 2 ^ w) (rest_of_whole w x (whole w xs) h.0)
    ∙ ap (λ n. (whole w xs % 2 ^ (w * k)) * 2 ^ w + n) (first_of_whole w x (whole w xs) h.0)
    ∙ ap (λ n. n + x) (mul_comm (whole w xs % 2 ^ (w * k)) (2 ^ w))
    ∙ omega arith)

-- the bits of two numbers are joined part by part
pub part-and : (w a b k : ℕ) → part w (bit_and a b) k ≡ bit_and (part w a k) (part w b k)
part-and w a b k = ap (λ m. m % 2 ^ w) (and_shr a b (w * k)) ∙ and_mod (a / 2 ^ (w * k)) (b / 2 ^ (w * k)) w

pub part-or : (w a b k : ℕ) → part w (bit_or a b) k ≡ bit_or (part w a k) (part w b k)
part-or w a b k = ap (λ m. m % 2 ^ w) (or_shr a b (w * k)) ∙ or_mod (a / 2 ^ (w * k)) (b / 2 ^ (w * k)) w

pub part-xor : (w a b k : ℕ) → part w (bit_xor a b) k ≡ bit_xor (part w a k) (part w b k)
part-xor w a b k = ap (λ m. m % 2 ^ w) (xor_shr a b (w * k)) ∙ xor_mod (a / 2 ^ (w * k)) (b / 2 ^ (w * k)) w
