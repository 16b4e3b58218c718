-- The Huffman code of header strings (RFC 7541, section 5.2 and Appendix B): which bits stand for which octets.
-- Its symbols are the octets, and 256 for the end of string.
use Rattle.std.specs.Prelude.{ℕ, zero, suc, ◌≡◌, ◌+◌, ◌-◌, ◌*◌, ◌/◌, ◌%◌, ◌^◌, ◌<◌, ◌==◌, Bool, true, if◌then◌else◌, List, [], ◌∷◌, ◌++◌, length, codes, refl}
use Rattle.esi_base.specs.Parts.{AreSmall}

-- The symbols by the length of their words in bits, those of one length in order.
unfoldable pub groups : List (ℕ × List ℕ)
groups =
    (5, codes "012aceiost")
    ∷ (6, codes " %-./3456789=A_bdfghlmnpru")
    ∷ (7, codes ":BCDEFGHIJKLMNOPQRSTUVWYjkqvwxyz")
    ∷ (8, codes "&*,;XZ")
    ∷ (10, codes "!\"()?")
    ∷ (11, codes "'+|")
    ∷ (12, codes "#>")
    ∷ (13, 0 ∷ codes "$@[]~")
    ∷ (14, codes "^}")
    ∷ (15, codes "<`{")
    ∷ (19, 92 ∷ 195 ∷ 208 ∷ [])
    ∷ (20, 128 ∷ 130 ∷ 131 ∷ 162 ∷ 184 ∷ 194 ∷ 224 ∷ 226 ∷ [])
    ∷ (21, 153 ∷ 161 ∷ 167 ∷ 172 ∷ 176 ∷ 177 ∷ 179 ∷ 209 ∷ 216 ∷ 217 ∷ 227 ∷ 229 ∷ 230 ∷ [])
    ∷ (22, 129 ∷ 132 ∷ 133 ∷ 134 ∷ 136 ∷ 146 ∷ 154 ∷ 156 ∷ 160 ∷ 163 ∷ 164 ∷ 169 ∷ 170 ∷ 173 ∷ 178 ∷ 181 ∷ 185 ∷ 186 ∷ 187 ∷ 189 ∷ 190 ∷ 196 ∷ 198 ∷ 228 ∷ 232 ∷ 233 ∷ [])
    ∷ (23, 1 ∷ 135 ∷ 137 ∷ 138 ∷ 139 ∷ 140 ∷ 141 ∷ 143 ∷ 147 ∷ 149 ∷ 150 ∷ 151 ∷ 152 ∷ 155 ∷ 157 ∷ 158 ∷ 165 ∷ 166 ∷ 168 ∷ 174 ∷ 175 ∷ 180 ∷ 182 ∷ 183 ∷ 188 ∷ 191 ∷ 197 ∷ 231 ∷ 239 ∷ [])
    ∷ (24, 9 ∷ 142 ∷ 144 ∷ 145 ∷ 148 ∷ 159 ∷ 171 ∷ 206 ∷ 215 ∷ 225 ∷ 236 ∷ 237 ∷ [])
    ∷ (25, 199 ∷ 207 ∷ 234 ∷ 235 ∷ [])
    ∷ (26, 192 ∷ 193 ∷ 200 ∷ 201 ∷ 202 ∷ 205 ∷ 210 ∷ 213 ∷ 218 ∷ 219 ∷ 238 ∷ 240 ∷ 242 ∷ 243 ∷ 255 ∷ [])
    ∷ (27, 203 ∷ 204 ∷ 211 ∷ 212 ∷ 214 ∷ 221 ∷ 222 ∷ 223 ∷ 241 ∷ 244 ∷ 245 ∷ 246 ∷ 247 ∷ 248 ∷ 250 ∷ 251 ∷ 252 ∷ 253 ∷ 254 ∷ [])
    ∷ (28, 2 ∷ 3 ∷ 4 ∷ 5 ∷ 6 ∷ 7 ∷ 8 ∷ 11 ∷ 12 ∷ 14 ∷ 15 ∷ 16 ∷ 17 ∷ 18 ∷ 19 ∷ 20 ∷ 21 ∷ 23 ∷ 24 ∷ 25 ∷ 26 ∷ 27 ∷ 28 ∷ 29 ∷ 30 ∷ 31 ∷ 127 ∷ 220 ∷ 249 ∷ [])
    ∷ (30, 10 ∷ 13 ∷ 22 ∷ 256 ∷ [])
    ∷ []

-- The lowest bits of a number, as many as the width says, the highest of them first.
abbrev pub high_bits : ℕ → ℕ → List Bool
high_bits zero n = []
high_bits (suc width) n = (n / 2 ^ width % 2 == 1) ∷ high_bits width n

-- The words of one length are consecutive numbers in that many bits.
abbrev pub in_turn : ℕ → ℕ → List ℕ → List (ℕ × List Bool)
in_turn width next [] = []
in_turn width next (symbol ∷ symbols) = (symbol, high_bits width next) ∷ in_turn width (next + 1) symbols

-- The first word of a length is the number after the last of the shorter length, shifted left to its own.
abbrev pub words_from : ℕ → ℕ → List (ℕ × List ℕ) → List (ℕ × List Bool)
words_from width next [] = []
words_from width next (group ∷ groups) =
    let first = next * 2 ^ (group.0 - width) in
    in_turn group.0 first group.1 ++ words_from group.0 (first + length group.1) groups

-- The code: each symbol with its word. The first word is 0 in 5 bits.
unfoldable pub words : List (ℕ × List Bool)
words = words_from 5 0 groups

abbrev pub word_in : List (ℕ × List Bool) → ℕ → List Bool
word_in [] symbol = []
word_in (word ∷ words) symbol = if symbol == word.0 then word.1 else word_in words symbol

-- The bits that stand for a symbol.
unfoldable pub word_of : ℕ → List Bool
word_of symbol = word_in words symbol

-- The bits of a row of symbols, one word after the other.
abbrev pub spelled : List ℕ → List Bool
spelled [] = []
spelled (symbol ∷ symbols) = word_of symbol ++ spelled symbols

-- The bits of octets, the most significant bit of each first.
abbrev pub bits_of : List ℕ → List Bool
bits_of [] = []
bits_of (octet ∷ octets) = high_bits 8 octet ++ bits_of octets

abbrev pub ones : ℕ → List Bool
ones zero = []
ones (suc count) = true ∷ ones count

-- Numbers below 256.
abbrev pub AreOctets : List ℕ → Type 0
AreOctets octets = AreSmall 8 octets

-- The end of string is the symbol after the octets.
abbrev pub end_of_string : ℕ
end_of_string = 256

-- Bits are those of a text: the words of its octets, and fewer than 8 ones as padding.
pub record AreWordsOf (bits : List Bool) (text : List ℕ) : Type 0 where
  pub octets : AreOctets text
  pub padding : ℕ
  pub short : padding < 8
  pub whole : bits ≡ spelled text ++ ones padding

-- The end of string stands among the words.
pub record HoldsEnd (bits : List Bool) : Type 0 where
  pub before : List ℕ
  pub octets : AreOctets before
  pub more : List Bool
  pub whole : bits ≡ spelled before ++ (word_of end_of_string ++ more)

-- The bits are those of no text, and no end of string stands among them: what is left after their words is no padding.
pub record IsUnpadded (bits : List Bool) : Type 0 where
  pub no_text : (text : List ℕ) → AreWordsOf bits text → ⊥
  pub no_end : HoldsEnd bits → ⊥

-- Appendix B writes these as 00000, 010100, 1111000, 1111111000 and thirty ones.
pub word_examples :
    (word_of 48 ≡ high_bits 5 0)
    × (word_of 32 ≡ high_bits 6 20)
    × (word_of 87 ≡ high_bits 7 114)
    × (word_of 33 ≡ high_bits 10 1016)
    × (word_of 256 ≡ ones 30)
unfolding word_of words groups
word_examples = (refl, refl, refl, refl, refl)
