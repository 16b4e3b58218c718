-- What is written is the code of the text, and the code of no other octets.
use Rattle.std.specs.Prelude.{ℕ, zero, suc, ◌≡◌, ◌+◌, ◌-◌, ◌*◌, ◌/◌, ◌%◌, ◌^◌, ◌<◌, ◌==◌, Bool, true, false, if◌then◌else◌, List, [], ◌∷◌, ◌++◌, length, take, drop, Ok, refl}
use Rattle.std.proofs.Common.{sym, ◌∙◌, ap, subst, arith, length-append, length-drop}
use Rattle.std.proofs.lemmas.List.{take-append-drop, length-take-le}
use Rattle.std.proofs.lemmas.Nat.{div-mul-add, mod-pow-add}
use Rattle.std.proofs.Math.Nat.{mul-add, mul_assoc, mul_comm, pow-suc}
use Rattle.esi_base.specs.Bits.{bit_value}
use Rattle.hpack_huffman.specs.Code.{high_bits, spelled, bits_of, ones, AreOctets, AreWordsOf}
use Rattle.hpack_huffman.specs.HighBits.{length-bits_of}
use Rattle.hpack_huffman.specs.Decoding.{decoded}
use Rattle.hpack_huffman.specs.DecodingLaws.{decoded_from}
use Rattle.hpack_huffman.specs.Encoding.{number_from, cut, padding_for, padded, encoded}

bit_of : (n : ℕ) → n < 2 → (if n == 1 then 1 else 0) ≡ n
bit_of zero h = refl
bit_of (suc zero) h = refl
bit_of (suc (suc n)) h = absurd (omega arith)

test_of_bit : (x : ℕ) (b : Bool) → ((2 * x + bit_value b) % 2 == 1) ≡ b
test_of_bit x true = ap (λ n. n == 1) (let e : (2 * x + bit_value true) % 2 ≡ 1 = omega arith in e)
test_of_bit x false = ap (λ n. n == 1) (let e : (2 * x + bit_value false) % 2 ≡ 0 = omega arith in e)

shifted_in : (s b q r : ℕ) → (2 * s + b) * q + r ≡ s * (2 * q) + (b * q + r)
shifted_in s b q r =
    ap (λ m. m + r) (mul_comm (2 * s + b) q ∙ mul-add q (2 * s) b ∙ ap (λ m. m + q * b) (mul_comm q (2 * s) ∙ ap (λ m. m * q) (mul_comm 2 s) ∙ mul_assoc s 2 q) ∙ ap (λ m. s * (2 * q) + m) (mul_comm q b))
    ∙ omega arith

doubled : (width : ℕ) → 2 * 2 ^ width ≡ 2 ^ suc width
doubled width = mul_comm 2 (2 ^ width) ∙ sym (pow-suc 2 width)

-- The bits of a number have its lowest bits as their number.
pub number_from-high_bits : (width s n : ℕ) → number_from s (high_bits width n) ≡ s * 2 ^ width + n % 2 ^ width
number_from-high_bits zero s n = omega arith
number_from-high_bits (suc width) s n =
    let bit = n / 2 ^ width % 2 in
    number_from-high_bits width (2 * s + (if bit == 1 then 1 else 0)) n
    ∙ ap (λ b. (2 * s + b) * 2 ^ width + n % 2 ^ width) (bit_of bit (omega arith))
    ∙ shifted_in s bit (2 ^ width) (n % 2 ^ width)
    ∙ ap (λ q. s * q + (bit * 2 ^ width + n % 2 ^ width)) (doubled width)
    ∙ ap (λ m. s * 2 ^ suc width + m) (sym (ap (λ k. n % 2 ^ k) (let e : suc width ≡ 1 + width = omega arith in e) ∙ mod-pow-add n 1 width))

alone : (b : Bool) → 2 * 0 + bit_value b ≡ bit_value b
alone b = omega arith

-- Bits that are read after others are below them.
pub number_from-split : (bits : List Bool) (s : ℕ) → number_from s bits ≡ s * 2 ^ length bits + number_from 0 bits
number_from-split [] s = omega arith
number_from-split (b ∷ bits) s =
    let bit = bit_value b in
    number_from-split bits (2 * s + bit)
    ∙ shifted_in s bit (2 ^ length bits) (number_from 0 bits)
    ∙ ap (λ q. s * q + (bit * 2 ^ length bits + number_from 0 bits)) (doubled (length bits))
    ∙ ap (λ m. s * 2 ^ suc (length bits) + m) (sym (ap (λ n. number_from n bits) (alone b) ∙ number_from-split bits bit))

bit_low : (b : Bool) → bit_value b < 2
bit_low true = omega arith
bit_low false = omega arith

below_twice : (b q r : ℕ) → b < 2 → r < q → b * q + r < 2 * q
below_twice zero q r h l = omega arith
below_twice (suc zero) q r h l = omega arith
below_twice (suc (suc b)) q r h l = absurd (omega arith)

pub number_from-below : (bits : List Bool) → number_from 0 bits < 2 ^ length bits
number_from-below [] = omega arith
number_from-below (b ∷ bits) =
    let bit = bit_value b in
    subst (λ n. n < 2 ^ suc (length bits)) (sym (ap (λ n. number_from n bits) (alone b) ∙ number_from-split bits bit))
    (subst (λ q. bit * 2 ^ length bits + number_from 0 bits < q) (doubled (length bits)) (below_twice bit (2 ^ length bits) (number_from 0 bits) (bit_low b) (number_from-below bits)))

-- The number of bits has them as its bits.
pub high_bits-number_from : (bits : List Bool) (s : ℕ) → high_bits (length bits) (number_from s bits) ≡ bits
high_bits-number_from [] s = refl
high_bits-number_from (b ∷ bits) s =
    let head = 2 * s + bit_value b in
    ap (λ n. (n / 2 ^ length bits % 2 == 1) ∷ high_bits (length bits) (number_from head bits)) (number_from-split bits head)
    ∙ ap (λ m. (m % 2 == 1) ∷ high_bits (length bits) (number_from head bits)) (div-mul-add head (2 ^ length bits) (number_from 0 bits) (number_from-below bits))
    ∙ ap (λ c. c ∷ high_bits (length bits) (number_from head bits)) (test_of_bit s b)
    ∙ ap (λ rest. b ∷ rest) (high_bits-number_from bits head)

pub length-cut : (count : ℕ) (bits : List Bool) → length (cut count bits) ≡ count
length-cut zero bits = refl
length-cut (suc count) bits = ap suc (length-cut count (drop 8 bits))

own_octet : (octet : ℕ) → octet < 2 ^ 8 → 0 * 2 ^ 8 + octet % 2 ^ 8 ≡ octet
own_octet octet h = omega arith

-- Octets are cut from their bits.
pub cut-bits_of : (octets : List ℕ) → AreOctets octets → cut (length octets) (bits_of octets) ≡ octets
cut-bits_of [] h = refl
cut-bits_of (octet ∷ octets) h =
    ap (λ n. n ∷ cut (length octets) (bits_of octets)) (number_from-high_bits 8 0 octet ∙ own_octet octet h.0)
    ∙ ap (λ rest. octet ∷ rest) (cut-bits_of octets h.1)

-- And bits are those of the octets that are cut from them.
pub bits_of-cut : (count : ℕ) (bits : List Bool) → length bits ≡ 8 * count → bits_of (cut count bits) ≡ bits
bits_of-cut zero [] h = refl
bits_of-cut zero (b ∷ bits) h = absurd (omega arith)
bits_of-cut (suc count) bits h =
    let eight : length (take 8 bits) ≡ 8 = length-take-le 8 bits (omega arith) in
    ap (λ k. high_bits k (number_from 0 (take 8 bits)) ++ bits_of (cut count (drop 8 bits))) (sym eight)
    ∙ ap (λ front. front ++ bits_of (cut count (drop 8 bits))) (high_bits-number_from (take 8 bits) 0)
    ∙ ap (λ rest. take 8 bits ++ rest) (bits_of-cut count (drop 8 bits) (omega (arith, length-drop 8 bits)))
    ∙ take-append-drop 8 bits

pub cut_octets : (count : ℕ) (bits : List Bool) → length bits ≡ 8 * count → AreOctets (cut count bits)
cut_octets zero bits h = tt
cut_octets (suc count) bits h =
    let eight : length (take 8 bits) ≡ 8 = length-take-le 8 bits (omega arith) in
    (subst (λ k. number_from 0 (take 8 bits) < 2 ^ k) eight (number_from-below (take 8 bits)), cut_octets count (drop 8 bits) (omega (arith, length-drop 8 bits)))

pub length-ones : (count : ℕ) → length (ones count) ≡ count
length-ones zero = refl
length-ones (suc count) = ap suc (length-ones count)

pub length-padded : (bits : List Bool) → length (padded bits) ≡ length bits + padding_for (length bits)
length-padded bits = length-append bits (ones (padding_for (length bits))) ∙ ap (λ k. length bits + k) (length-ones (padding_for (length bits)))

whole_octets : (n : ℕ) → n + (8 - n % 8) % 8 ≡ 8 * ((n + 7) / 8)
whole_octets n = omega arith

pub octets_padded : (bits : List Bool) → length (padded bits) ≡ 8 * ((length bits + 7) / 8)
octets_padded bits = length-padded bits ∙ whole_octets (length bits)

eighth : (n m : ℕ) → n ≡ 8 * m → n / 8 ≡ m
eighth n m h = omega arith

-- As many octets as hold the words.
pub length-encoded : (text : List ℕ) → length (encoded text) ≡ (length (spelled text) + 7) / 8
unfolding encoded
length-encoded text =
    length-cut (length (padded (spelled text)) / 8) (padded (spelled text))
    ∙ eighth (length (padded (spelled text))) ((length (spelled text) + 7) / 8) (octets_padded (spelled text))

whole_padded : (bits : List Bool) → length (padded bits) ≡ 8 * (length (padded bits) / 8)
whole_padded bits = omega (arith, octets_padded bits)

pub encoded_octets : (text : List ℕ) → AreOctets (encoded text)
unfolding encoded
encoded_octets text = cut_octets (length (padded (spelled text)) / 8) (padded (spelled text)) (whole_padded (spelled text))

-- The code of a text is the code of that text.
pub encoded_words : (text : List ℕ) → AreOctets text → AreWordsOf (bits_of (encoded text)) text
unfolding encoded
encoded_words text octets = record {
  octets = octets;
  padding = padding_for (length (spelled text));
  short = omega arith;
  whole = bits_of-cut (length (padded (spelled text)) / 8) (padded (spelled text)) (whole_padded (spelled text));
}

-- What is written is read again.
pub decoded-encoded : (text : List ℕ) → AreOctets text → decoded (encoded text) ≡ Ok text
decoded-encoded text octets = decoded_from (encoded text) text (encoded_words text octets)

padding_is : (n k c : ℕ) → k < 8 → 8 * c ≡ n + k → (8 - n % 8) % 8 ≡ k
padding_is n k c h e = omega arith

-- No other octets are the code of a text.
pub encoded_alone : (code text : List ℕ) (padding : ℕ) → AreOctets code → padding < 8 → bits_of code ≡ spelled text ++ ones padding → code ≡ encoded text
unfolding encoded
encoded_alone code text padding octets short e =
    let count : 8 * length code ≡ length (spelled text) + padding =
    sym (length-bits_of code) ∙ ap length e ∙ length-append (spelled text) (ones padding) ∙ ap (λ k. length (spelled text) + k) (length-ones padding) in
    let same : padded (spelled text) ≡ bits_of code = ap (λ k. spelled text ++ ones k) (padding_is (length (spelled text)) padding (length code) short count) ∙ sym e in
    let many : length (padded (spelled text)) / 8 ≡ length code = eighth (length (padded (spelled text))) (length code) (ap length same ∙ length-bits_of code) in
    sym (ap (λ k. cut k (padded (spelled text))) many ∙ ap (cut (length code)) same ∙ cut-bits_of code octets)
