-- The tables of the words are the code.
use Rattle.std.specs.Prelude.{ℕ, ◌≡◌, ◌^◌, ◌<◌, ◌≤◌, ◌&&◌, Bool, true, nat_lt, nat_le, List, length, slice_index, refl}
use Rattle.std.specs.Cmp.{booleans_Decides}
use Rattle.std.specs.Cmp.Lexicographic.{pointwise_decides}
use Rattle.std.proofs.Common.{sym, ◌∙◌, ap, subst, arith}
use Rattle.std.proofs.lemmas.Bool.{and_parts, ltb-true}
use Rattle.std.proofs.lemmas.Bool.Decides.{nat_tests}
use Rattle.esi_base.specs.Bits.{same_bits}
use Rattle.hpack_huffman.specs.declared.words.TheConstants.{LENGTHS, NUMBERS}
use Rattle.hpack_huffman.specs.Code.{groups, words, word_in, word_of, high_bits}
use Rattle.hpack_huffman.specs.HighBits.{length-high_bits}
use Rattle.hpack_huffman.specs.Tree.{all_below}
use Rattle.hpack_huffman.specs.DecodingLaws.{below_all}

abbrev is_word : List (ℕ × List Bool) → ℕ → Bool
is_word words s =
    same_bits (high_bits (slice_index LENGTHS s) (slice_index NUMBERS s)) (word_in words s)
    && (nat_lt (slice_index NUMBERS s) (2 ^ slice_index LENGTHS s) && nat_le (slice_index LENGTHS s) 30)

are_words : all_below (is_word words) 257 ≡ true
unfolding words groups
are_words = refl

pub word_is : (s : ℕ) → s < 257 → high_bits (slice_index LENGTHS s) (slice_index NUMBERS s) ≡ word_of s
unfolding word_of
word_is s low =
    let entry = high_bits (slice_index LENGTHS s) (slice_index NUMBERS s) in
    let tests = nat_lt (slice_index NUMBERS s) (2 ^ slice_index LENGTHS s) && nat_le (slice_index LENGTHS s) 30 in
    (pointwise_decides booleans_Decides entry (word_in words s)).0 (and_parts (same_bits entry (word_in words s)) tests (below_all (is_word words) 257 s are_words low)).0

bounds : (s : ℕ) → s < 257 → (nat_lt (slice_index NUMBERS s) (2 ^ slice_index LENGTHS s) ≡ true) × (nat_le (slice_index LENGTHS s) 30 ≡ true)
bounds s low =
    let entry = high_bits (slice_index LENGTHS s) (slice_index NUMBERS s) in
    let fits = nat_lt (slice_index NUMBERS s) (2 ^ slice_index LENGTHS s) in
    let short = nat_le (slice_index LENGTHS s) 30 in
    and_parts fits short (and_parts (same_bits entry (word_in words s)) (fits && short) (below_all (is_word words) 257 s are_words low)).1

pub word_fits : (s : ℕ) → s < 257 → slice_index NUMBERS s < 2 ^ slice_index LENGTHS s
word_fits s low = ltb-true (slice_index NUMBERS s) (2 ^ slice_index LENGTHS s) (bounds s low).0

short_from : (n : ℕ) → nat_le n 30 ≡ true → n ≤ 30
short_from n h = grind (arith, nat_tests)

pub word_short : (s : ℕ) → s < 257 → slice_index LENGTHS s ≤ 30
word_short s low = short_from (slice_index LENGTHS s) (bounds s low).1

pub length-word : (length_ number s : ℕ) → high_bits length_ number ≡ word_of s → length (word_of s) ≡ length_
length-word length_ number s e = sym (ap length e) ∙ length-high_bits length_ number

-- The entries of a symbol are its word.
pub entry_is : (s number length_ : ℕ) → s < 257 → number ≡ slice_index NUMBERS s → length_ ≡ slice_index LENGTHS s → high_bits length_ number ≡ word_of s
entry_is s number length_ low e f = ap (λ n. high_bits length_ n) e ∙ ap (λ k. high_bits k (slice_index NUMBERS s)) f ∙ word_is s low

pub entry_fits : (s number length_ : ℕ) → s < 257 → number ≡ slice_index NUMBERS s → length_ ≡ slice_index LENGTHS s → number < 2 ^ length_
entry_fits s number length_ low e f = subst (λ n. n < 2 ^ length_) (sym e) (subst (λ k. slice_index NUMBERS s < 2 ^ k) (sym f) (word_fits s low))

pub entry_short : (s length_ : ℕ) → s < 257 → length_ ≡ slice_index LENGTHS s → length_ ≤ 30
entry_short s length_ low f = subst (λ k. k ≤ 30) (sym f) (word_short s low)
