-- Numbers as octets, the most significant octet first (RFC 9113, section 2.2), and flags.
use Rattle.std.specs.Prelude.{ℕ, ◌+◌, ◌*◌, ◌/◌, ◌%◌, ◌==◌, List, [], ◌∷◌, Bool, not, bit_and}

-- the number that octets are
abbrev pub u16_of : ℕ → ℕ → ℕ
u16_of a b = a * 256 + b

abbrev pub u32_of : ℕ → ℕ → ℕ → ℕ → ℕ
u32_of a b c d = a * 16777216 + b * 65536 + c * 256 + d

-- the number of 31 bits that four octets are: the first bit is reserved, and ignored
abbrev pub u31_of : ℕ → ℕ → ℕ → ℕ → ℕ
u31_of a b c d = u32_of a b c d % 2147483648

-- the octets of a number below 2^16, 2^24, 2^32
abbrev pub two_octets : ℕ → List ℕ
two_octets n = n / 256 ∷ n % 256 ∷ []

abbrev pub three_octets : ℕ → List ℕ
three_octets n = n / 65536 % 256 ∷ n / 256 % 256 ∷ n % 256 ∷ []

abbrev pub four_octets : ℕ → List ℕ
four_octets n = n / 16777216 ∷ n / 65536 % 256 ∷ n / 256 % 256 ∷ n % 256 ∷ []

-- whether flags have the flag with this mask, of one bit
abbrev pub has : ℕ → ℕ → Bool
has flags mask = not (bit_and flags mask == 0)
