-- Steps of writing, one after the other.
use Rattle.std.specs.Prelude.{ℕ, ◌≡◌, ◌+◌, ◌-◌, ◌*◌, ◌/◌, ◌%◌, ◌^◌, ◌<◌, ◌≤◌, Bool, true, List, [], ◌∷◌, ◌++◌, length, take, get_or, min, bit_and, ◌&&◌, nat_lt, Result, Ok, Err, OnOk, refl}
use Rattle.std.specs.Cmp.{booleans_Decides}
use Rattle.std.specs.Cmp.Lexicographic.{pointwise_decides}
use Rattle.std.proofs.Common.{sym, ◌∙◌, ap, subst, append_assoc, append-nil, length-append, lit≤, arith}
use Rattle.std.proofs.lemmas.Bool.{and_parts, ltb-true}
use Rattle.std.proofs.lemmas.List.{take_more, take_all}
use Rattle.std.proofs.lemmas.Nat.{and_mask, div-add-mod', mul-lt, mul-add-lt, pow-add}
use Rattle.std.proofs.Math.Nat.{mod-eq_of_lt, lt_of_lt_of_le}
use Rattle.std.proofs.Math.Pow.{pow_mono, pow-lt}
use Rattle.esi_base.specs.Bits.{same_bits}
use Rattle.esi_base.specs.Parts.{AreSmall-append}
use Rattle.hpack_huffman.specs.Code.{high_bits, bits_of, ones, spelled, word_of, AreOctets}
use Rattle.hpack_huffman.specs.HighBits.{high_split, high_above, high_join, bits_of-append}
use Rattle.hpack_huffman.specs.Tree.{all_below}
use Rattle.hpack_huffman.specs.DecodingLaws.{below_all}
use Rattle.hpack_huffman.specs.Encoding.{encoded}
use Rattle.hpack_huffman.specs.EncodingLaws.{encoded_alone, encoded_words, encoded_octets, length-encoded}
use Rattle.hpack_huffman.specs.Additions.{AddsCode}
use Rattle.hpack_huffman.specs.Puts.{Puts, Fills}
use Rattle.hpack_huffman.proofs.WordTables.{length-word}

-- Nothing is added.
pub puts_none : (old : List ℕ) (bits : List Bool) → Puts old old bits bits
puts_none old bits = record { code = []; octets = tt; added = sym (append-nil old); whole = refl }

-- One step after another.
pub puts_then : (old middle new : List ℕ) (bits between more left : List Bool) → Puts old middle bits between → Puts middle new (between ++ more) left → Puts old new (bits ++ more) left
puts_then old middle new bits between more left h g = record {
  code = h.code ++ g.code;
  octets = AreSmall-append 8 h.code g.code h.octets g.octets;
  added = g.added ∙ ap (λ front. front ++ g.code) h.added ∙ append_assoc old h.code g.code;
  whole =
      ap (λ all. all ++ left) (bits_of-append h.code g.code)
      ∙ append_assoc (bits_of h.code) (bits_of g.code) left
      ∙ ap (λ rest. bits_of h.code ++ rest) g.whole
      ∙ sym (append_assoc (bits_of h.code) between more)
      ∙ ap (λ all. all ++ more) h.whole;
}

octet_of : (n : ℕ) → high_bits 8 n ≡ high_bits 8 (n % 256)
octet_of n = ap (high_bits 8) (sym (div-add-mod' n 256)) ∙ high_above 8 (n / 256) (n % 256)

-- An octet that bits fill is added.
pub puts_octet : (old out new : List ℕ) (bits : List Bool) (number left : ℕ) → Puts old out bits (high_bits left number) → 8 ≤ left → new ≡ out ++ (number / 2 ^ (left - 8) % 256) ∷ [] → Puts old new bits (high_bits (left - 8) number)
puts_octet old out new bits number left h more e =
    let octet = number / 2 ^ (left - 8) % 256 in
    let rest = high_bits (left - 8) number in record {
      code = h.code ++ octet ∷ [];
      octets = AreSmall-append 8 h.code (octet ∷ []) h.octets (omega arith, tt);
      added = e ∙ ap (λ front. front ++ octet ∷ []) h.added ∙ append_assoc old h.code (octet ∷ []);
      whole =
          ap (λ all. all ++ rest) (bits_of-append h.code (octet ∷ []))
          ∙ append_assoc (bits_of h.code) (bits_of (octet ∷ [])) rest
          ∙ ap (λ last. bits_of h.code ++ (last ++ rest)) (append-nil (high_bits 8 octet) ∙ sym (octet_of (number / 2 ^ (left - 8))))
          ∙ ap (λ last. bits_of h.code ++ last) (sym (ap (λ k. high_bits k number) (let k : left ≡ 8 + (left - 8) = omega arith in k) ∙ high_split 8 (left - 8) number))
          ∙ h.whole;
    }

shifted_low : (number count many : ℕ) → number < 2 ^ count → count < 8 → many ≤ 30 → number * 2 ^ many < 2 ^ 64
shifted_low number count many low short few =
    lt_of_lt_of_le
    (mul-lt number (2 ^ many) (2 ^ 7) (2 ^ 31) (lt_of_lt_of_le low (pow_mono (let k : count ≤ 7 = omega arith in k))) (pow-lt (let k : many < 31 = omega arith in k)))
    (lit≤ tt)

pub shifted : (number count many : ℕ) → number < 2 ^ count → count < 8 → many ≤ 30 → number * 2 ^ many % 2 ^ 64 ≡ number * 2 ^ many
shifted number count many low short few = mod-eq_of_lt (shifted_low number count many low short few)

one_shifted : (count : ℕ) → count < 8 → 1 * 2 ^ count % 2 ^ 64 ≡ 2 ^ count
one_shifted count short =
    ap (λ n. n % 2 ^ 64) (let e : 1 * 2 ^ count ≡ 2 ^ count = omega arith in e)
    ∙ mod-eq_of_lt (lt_of_lt_of_le (pow-lt short) (lit≤ tt))

-- A word after bits that wait.
pub word_after : (number count word many : ℕ) → number < 2 ^ count → count < 8 → word < 2 ^ many → many ≤ 30 → high_bits (count + many) (number * 2 ^ many % 2 ^ 64 + word) ≡ high_bits count number ++ high_bits many word
word_after number count word many low short fits few = ap (λ n. high_bits (count + many) (n + word)) (shifted number count many low short few) ∙ high_join count many number word fits

pub sum_low : (number count word many : ℕ) → number < 2 ^ count → count < 8 → word < 2 ^ many → many ≤ 30 → number * 2 ^ many % 2 ^ 64 + word < 2 ^ 64
sum_low number count word many low short fits few =
    let product : number * 2 ^ many < 2 ^ 38 = mul-lt number (2 ^ many) (2 ^ 7) (2 ^ 31) (lt_of_lt_of_le low (pow_mono (let k : count ≤ 7 = omega arith in k))) (pow-lt (let k : many < 31 = omega arith in k)) in
    let word_low : word < 2 ^ 30 = lt_of_lt_of_le fits (pow_mono few) in
    omega arith

-- The lowest bits of a number are its bits.
pub lowest_bits : (number count : ℕ) → count < 8 → high_bits count (bit_and number (1 * 2 ^ count % 2 ^ 64 - 1)) ≡ high_bits count number
lowest_bits number count short =
    ap (λ mask. high_bits count (bit_and number (mask - 1))) (one_shifted count short)
    ∙ ap (high_bits count) (and_mask number count)
    ∙ sym (ap (high_bits count) (sym (div-add-mod' number (2 ^ count))) ∙ high_above count (number / 2 ^ count) (number % 2 ^ count))

-- Bits and the ones that fill their octet.
abbrev fills : ℕ → Bool
fills count = same_bits (high_bits (8 - count) (255 / 2 ^ count)) (ones (8 - count)) && nat_lt (255 / 2 ^ count) (2 ^ (8 - count))

all_fill : all_below fills 8 ≡ true
all_fill = refl

fills_at : (count : ℕ) → count < 8 → (same_bits (high_bits (8 - count) (255 / 2 ^ count)) (ones (8 - count)) ≡ true) × (nat_lt (255 / 2 ^ count) (2 ^ (8 - count)) ≡ true)
fills_at count short = and_parts (same_bits (high_bits (8 - count) (255 / 2 ^ count)) (ones (8 - count))) (nat_lt (255 / 2 ^ count) (2 ^ (8 - count))) (below_all fills 8 count all_fill short)

ones_low : (count : ℕ) → count < 8 → 255 / 2 ^ count < 2 ^ (8 - count)
ones_low count short = ltb-true (255 / 2 ^ count) (2 ^ (8 - count)) (fills_at count short).1

ones_fill : (count : ℕ) → count < 8 → high_bits (8 - count) (255 / 2 ^ count) ≡ ones (8 - count)
ones_fill count short = (pointwise_decides booleans_Decides (high_bits (8 - count) (255 / 2 ^ count)) (ones (8 - count))).0 (fills_at count short).0

below_octet : (number count : ℕ) → number < 2 ^ count → count < 8 → number * 2 ^ (8 - count) + 255 / 2 ^ count < 2 ^ 8
below_octet number count low short =
    subst (λ n. number * 2 ^ (8 - count) + 255 / 2 ^ count < n) (sym (pow-add 2 (8 - count) count) ∙ ap (λ k. 2 ^ k) (let k : 8 - count + count ≡ 8 = omega arith in k))
    (mul-add-lt number (2 ^ (8 - count)) (255 / 2 ^ count) (2 ^ count) low (ones_low count short))

pub filled_shift : (number count : ℕ) → number < 2 ^ count → count < 8 → number * 2 ^ (8 - count) % 2 ^ 64 ≡ number * 2 ^ (8 - count)
filled_shift number count low short =
    let octet : number * 2 ^ (8 - count) < 2 ^ 8 = omega (arith, below_octet number count low short) in mod-eq_of_lt (lt_of_lt_of_le octet (lit≤ tt))

pub filled_low : (number count : ℕ) → number < 2 ^ count → count < 8 → number * 2 ^ (8 - count) % 2 ^ 64 + 255 / 2 ^ count < 2 ^ 8
filled_low number count low short = subst (λ n. n + 255 / 2 ^ count < 2 ^ 8) (sym (filled_shift number count low short)) (below_octet number count low short)

pub filled_bits : (number count : ℕ) → number < 2 ^ count → count < 8 → high_bits 8 (number * 2 ^ (8 - count) % 2 ^ 64 + 255 / 2 ^ count) ≡ high_bits count number ++ ones (8 - count)
filled_bits number count low short =
    ap (λ n. high_bits 8 (n + 255 / 2 ^ count)) (filled_shift number count low short)
    ∙ ap (λ k. high_bits k (number * 2 ^ (8 - count) + 255 / 2 ^ count)) (let k : 8 ≡ count + (8 - count) = omega arith in k)
    ∙ high_join count (8 - count) number (255 / 2 ^ count) (ones_low count short)
    ∙ ap (λ bits. high_bits count number ++ bits) (ones_fill count short)

-- The last octet.
pub fills_octet : (old new : List ℕ) (number count octet : ℕ) → 0 < count → count < 8 → octet < 2 ^ 8 → high_bits 8 octet ≡ high_bits count number ++ ones (8 - count) → new ≡ old ++ octet ∷ [] → Fills old new (high_bits count number)
fills_octet old new number count octet some short low bits added = record {
  padding = 8 - count;
  short = omega arith;
  puts = record { code = octet ∷ []; octets = (low, tt); added = added; whole = append-nil (bits_of (octet ∷ [])) ∙ append-nil (high_bits 8 octet) ∙ bits };
}

pub fills_none : (old : List ℕ) (number count : ℕ) → count ≡ 0 → Fills old old (high_bits count number)
fills_none old number count none = record { padding = 0; short = omega arith; puts = record { code = []; octets = tt; added = sym (append-nil old); whole = sym (ap (λ k. high_bits k number ++ []) none) } }

-- Words, and then the last octet.
pub fills_words : {E : Type 0} (r : Result (Unit {0}) E) (old middle new : List ℕ) (bits left : List Bool) → Puts old middle bits left → OnOk r (Fills middle new left) → OnOk r (Fills old new bits)
fills_words (Ok u) old middle new bits left h g = record { padding = g.padding; short = g.short; puts = puts_then old middle new bits left (ones g.padding) [] h g.puts }
fills_words (Err e) old middle new bits left h g = tt

-- What was written is the code of the text.
pub fills_exact : (old new text : List ℕ) → Fills old new (spelled text) → new ≡ old ++ encoded text
fills_exact old new text h =
    let puts = h.puts in
    puts.added ∙ ap (λ code. old ++ code) (encoded_alone puts.code text h.padding puts.octets h.short (sym (append-nil (bits_of puts.code)) ∙ puts.whole))

pub exact_code : (old new text : List ℕ) → AreOctets text → new ≡ old ++ encoded text → AddsCode text old new
exact_code old new text octets e = record { code = encoded text; octets = encoded_octets text; words = encoded_words text octets; whole = e }

spelled-append : (xs ys : List ℕ) → spelled (xs ++ ys) ≡ spelled xs ++ spelled ys
spelled-append [] ys = refl
spelled-append (x ∷ xs) ys = ap (λ bits. word_of x ++ bits) (spelled-append xs ys) ∙ sym (append_assoc (word_of x) (spelled xs) (spelled ys))

-- One octet more of a text.
pub spelled_more : (text : List ℕ) (i : ℕ) → i < length text → spelled (take (i + 1) text) ≡ spelled (take i text) ++ word_of (get_or text i 0)
spelled_more text i h = ap spelled (take_more text i 0 h) ∙ spelled-append (take i text) (get_or text i 0 ∷ []) ∙ ap (λ bits. spelled (take i text) ++ bits) (append-nil (word_of (get_or text i 0)))

pub puts_more : (old out new text : List ℕ) (left word next : List Bool) (i : ℕ) → i < length text → Puts old out (spelled (take i text)) left → word ≡ word_of (get_or text i 0) → Puts out new (left ++ word) next → Puts old new (spelled (take (i + 1) text)) next
puts_more old out new text left word next i h before is step =
    subst (λ bits. Puts old new bits next) (ap (λ bits. spelled (take i text) ++ bits) is ∙ sym (spelled_more text i h)) (puts_then old out new (spelled (take i text)) left word next before step)

pub puts_all : (old out text : List ℕ) (left : List Bool) (i : ℕ) → length text ≤ i → Puts old out (spelled (take i text)) left → Puts old out (spelled text) left
puts_all old out text left i h before = subst (λ all. Puts old out (spelled all) left) (take_all i text h) before

-- The bits of a text are counted.
pub count_more : (text : List ℕ) (i total many number : ℕ) → i < length text → total ≡ length (spelled (take i text)) → high_bits many number ≡ word_of (get_or text i 0) → total + many ≡ length (spelled (take (i + 1) text))
count_more text i total many number h before is =
    ap (λ n. n + many) before
    ∙ ap (λ n. length (spelled (take i text)) + n) (sym (length-word many number (get_or text i 0) is))
    ∙ sym (ap length (spelled_more text i h) ∙ length-append (spelled (take i text)) (word_of (get_or text i 0)))

pub rounded_up : (n : ℕ) → n / 8 + min 1 (n % 8) ≡ (n + 7) / 8
rounded_up n = omega arith

pub octets_counted : (text : List ℕ) (i total : ℕ) → length text ≤ i → total ≡ length (spelled (take i text)) → (total + 7) / 8 ≡ length (encoded text)
octets_counted text i total h before =
    ap (λ n. (n + 7) / 8) (before ∙ ap (λ all. length (spelled all)) (take_all i text h))
    ∙ sym (length-encoded text)
