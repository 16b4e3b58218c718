-- A net alone: which nets it reads, which widths they have to have, and what its word is, given theirs.
use Rattle.std.specs.Prelude.{◌≡◌, ℕ, ◌+◌, ◌-◌, ◌^◌, ◌<◌, ◌≤◌, ◌==◌, ◌&&◌, ◌||◌, if◌then◌else◌, nat_lt, not, map, Bool, true, false, List, [], ◌∷◌, ◌++◌, length, slice_range}
use Rattle.std.specs.List.{slice_index_or}
use Rattle.std.specs.Bool.{xor}
use Rattle.esi_base.specs.Bits.{number_of, bits_of, zip_bits, same_bits}
use Rattle.netlist.specs.declared.limits.TheConstants.{MAX_WIDTH, MAX_NUMBER_WIDTH}
use Rattle.netlist.specs.declared.net.Net.{Net}
use Rattle.netlist.specs.declared.net.Net.TheVariants.{Input, Register, Const, Not, And, Or, Xor, Add, Sub, Equal, Less, Choose, Slice, Concat}

-- a word, as its bits, the least significant one first
abbrev pub Bits : Type 0
Bits = List Bool

-- the word at a place of a list, or no bits past its end
abbrev pub word_at : List Bits → ℕ → Bits
word_at words place = slice_index_or words place []

abbrev pub width_at : List ℕ → ℕ → ℕ
width_at widths place = slice_index_or widths place 0

abbrev pub is_input : Net → Bool
is_input (Input width) = true
is_input _ = false

abbrev pub is_register : Net → Bool
is_register (Register reset) = true
is_register _ = false

-- whether the net's word is worked out from other nets': it is neither an input nor a register
abbrev pub is_computed : Net → Bool
is_computed (Input width) = false
is_computed (Register reset) = false
is_computed _ = true

-- the nets that a net reads within a cycle, in the order of its fields
abbrev pub sources : Net → List ℕ
sources (Input width) = []
sources (Register reset) = []
sources (Const word) = []
sources (Not a) = a ∷ []
sources (And a b) = a ∷ b ∷ []
sources (Or a b) = a ∷ b ∷ []
sources (Xor a b) = a ∷ b ∷ []
sources (Add a b) = a ∷ b ∷ []
sources (Sub a b) = a ∷ b ∷ []
sources (Equal a b) = a ∷ b ∷ []
sources (Less a b) = a ∷ b ∷ []
sources (Choose test one other) = test ∷ one ∷ other ∷ []
sources (Slice of high low) = of ∷ []
sources (Concat high low) = high ∷ low ∷ []

-- The word of a net, given its sources' words in their order. Inputs and registers have none of their own.
abbrev pub result_of : Net → List Bits → Bits
result_of (Input width) words = []
result_of (Register reset) words = []
result_of (Const word) words = word
result_of (Not a) words = map not (word_at words 0)
result_of (And a b) words = zip_bits ◌&&◌ (word_at words 0) (word_at words 1)
result_of (Or a b) words = zip_bits ◌||◌ (word_at words 0) (word_at words 1)
result_of (Xor a b) words = zip_bits xor (word_at words 0) (word_at words 1)
result_of (Add a b) words = bits_of (length (word_at words 0)) (number_of (word_at words 0) + number_of (word_at words 1))
result_of (Sub a b) words = bits_of (length (word_at words 0)) (number_of (word_at words 0) + 2 ^ length (word_at words 0) - number_of (word_at words 1))
result_of (Equal a b) words = same_bits (word_at words 0) (word_at words 1) ∷ []
result_of (Less a b) words = nat_lt (number_of (word_at words 0)) (number_of (word_at words 1)) ∷ []
result_of (Choose test one other) words = if number_of (word_at words 0) == 1 then word_at words 1 else word_at words 2
result_of (Slice of high low) words = slice_range (word_at words 0) low (high + 1)
result_of (Concat high low) words = word_at words 1 ++ word_at words 0

-- Whether a net may stand behind the nets of these widths, of which there are `count`: the nets that it
-- reads are among them, and their widths are as its operator asks.
abbrev pub Fits : Net → ℕ → List ℕ → Type 0
Fits (Input width) count widths = (1 ≤ width) × (width ≤ MAX_WIDTH)
Fits (Register reset) count widths = Unit {0}
Fits (Const word) count widths = Unit {0}
Fits (Not a) count widths = a < count
Fits (And a b) count widths = (a < count) × (b < count) × (width_at widths a ≡ width_at widths b)
Fits (Or a b) count widths = (a < count) × (b < count) × (width_at widths a ≡ width_at widths b)
Fits (Xor a b) count widths = (a < count) × (b < count) × (width_at widths a ≡ width_at widths b)
Fits (Add a b) count widths = (a < count) × (b < count) × (width_at widths a ≡ width_at widths b) × (width_at widths a ≤ MAX_NUMBER_WIDTH)
Fits (Sub a b) count widths = (a < count) × (b < count) × (width_at widths a ≡ width_at widths b) × (width_at widths a ≤ MAX_NUMBER_WIDTH)
Fits (Equal a b) count widths = (a < count) × (b < count) × (width_at widths a ≡ width_at widths b)
Fits (Less a b) count widths = (a < count) × (b < count) × (width_at widths a ≡ width_at widths b) × (width_at widths a ≤ MAX_NUMBER_WIDTH)
Fits (Choose test one other) count widths = (test < count) × (one < count) × (other < count) × (width_at widths test ≡ 1) × (width_at widths one ≡ width_at widths other)
Fits (Slice of high low) count widths = (of < count) × (low ≤ high) × (high < width_at widths of)
Fits (Concat high low) count widths = (high < count) × (low < count) × (width_at widths high + width_at widths low ≤ MAX_WIDTH)

-- the width of a net, given the widths of the nets before it
abbrev pub width_in : Net → List ℕ → ℕ
width_in (Input width) widths = width
width_in (Register reset) widths = length reset
width_in (Const word) widths = length word
width_in (Not a) widths = width_at widths a
width_in (And a b) widths = width_at widths a
width_in (Or a b) widths = width_at widths a
width_in (Xor a b) widths = width_at widths a
width_in (Add a b) widths = width_at widths a
width_in (Sub a b) widths = width_at widths a
width_in (Equal a b) widths = 1
width_in (Less a b) widths = 1
width_in (Choose test one other) widths = width_at widths one
width_in (Slice of high low) widths = high - low + 1
width_in (Concat high low) widths = width_at widths high + width_at widths low

-- Whether words are operands that a net's operator takes: the conditions of the operations on words.
abbrev pub Takes : Net → List Bits → Type 0
Takes (Input width) words = ⊥
Takes (Register reset) words = ⊥
Takes (Const word) words = Unit {0}
Takes (Not a) words = length words ≡ 1
Takes (And a b) words = (length words ≡ 2) × (length (word_at words 0) ≡ length (word_at words 1))
Takes (Or a b) words = (length words ≡ 2) × (length (word_at words 0) ≡ length (word_at words 1))
Takes (Xor a b) words = (length words ≡ 2) × (length (word_at words 0) ≡ length (word_at words 1))
Takes (Add a b) words = (length words ≡ 2) × (length (word_at words 0) ≡ length (word_at words 1)) × (length (word_at words 0) ≤ MAX_NUMBER_WIDTH)
Takes (Sub a b) words = (length words ≡ 2) × (length (word_at words 0) ≡ length (word_at words 1)) × (length (word_at words 0) ≤ MAX_NUMBER_WIDTH)
Takes (Equal a b) words = (length words ≡ 2) × (length (word_at words 0) ≡ length (word_at words 1))
Takes (Less a b) words = (length words ≡ 2) × (length (word_at words 0) ≡ length (word_at words 1)) × (length (word_at words 0) ≤ MAX_NUMBER_WIDTH)
Takes (Choose test one other) words = (length words ≡ 3) × (length (word_at words 0) ≡ 1) × (length (word_at words 1) ≡ length (word_at words 2))
Takes (Slice of high low) words = (length words ≡ 1) × (low ≤ high) × (high < length (word_at words 0))
Takes (Concat high low) words = (length words ≡ 2) × (length (word_at words 0) + length (word_at words 1) ≤ MAX_WIDTH)
