-- Writing the code: the words of a text, and ones up to the next octet.
use Rattle.std.specs.Prelude.{ℕ, zero, suc, ◌≡◌, ◌+◌, ◌-◌, ◌*◌, ◌/◌, ◌%◌, Bool, List, [], ◌∷◌, ◌++◌, length, take, drop, refl, codes}
use Rattle.esi_base.specs.Bits.{bit_value}
use Rattle.hpack_huffman.specs.Code.{groups, words, word_of, spelled, ones}

-- The number that bits are, the most significant first.
abbrev pub number_from : ℕ → List Bool → ℕ
number_from sum [] = sum
number_from sum (bit ∷ bits) = number_from (2 * sum + bit_value bit) bits

-- So many octets from the front of bits.
abbrev pub cut : ℕ → List Bool → List ℕ
cut zero bits = []
cut (suc count) bits = number_from 0 (take 8 bits) ∷ cut count (drop 8 bits)

-- As many ones as fill the last octet.
abbrev pub padding_for : ℕ → ℕ
padding_for count = (8 - count % 8) % 8

abbrev pub padded : List Bool → List Bool
padded bits = bits ++ ones (padding_for (length bits))

-- The octets that stand for a text.
unfoldable pub encoded : List ℕ → List ℕ
encoded text = cut (length (padded (spelled text)) / 8) (padded (spelled text))

-- RFC 7541, Appendix C.4.1 writes www.example.com as f1e3 c2e5 f23a 6ba0 ab90 f4ff.
pub encoded_example : encoded (codes "www.example.com") ≡ 0xf1 ∷ 0xe3 ∷ 0xc2 ∷ 0xe5 ∷ 0xf2 ∷ 0x3a ∷ 0x6b ∷ 0xa0 ∷ 0xab ∷ 0x90 ∷ 0xf4 ∷ 0xff ∷ []
unfolding encoded word_of words groups
encoded_example = refl
