-- Base 128 varints (Protocol Buffers encoding, "Base 128 Varints"): groups of seven bits, the least significant
-- group first, one in each octet; the bit above them says that another octet follows.
use Rattle.std.specs.Prelude.{◌≡◌, ℕ, ◌+◌, ◌*◌, ◌%◌, ◌^◌, ◌<◌, ◌≤◌, ◌⊎◌, Bool, nat_le, List, [], ◌∷◌, ◌++◌, length, refl}
use Rattle.std.specs.List.{AllByRecursion}
use Rattle.proto_wire.specs.declared.limit.TheConstants.{VARINT_OCTETS}
use Rattle.std.proofs.Common.{lit<, lit≤, inl, inr}

-- the number that groups of seven bits are, the least significant group first
unfoldable pub number_of_groups : List ℕ → ℕ
number_of_groups [] = 0
number_of_groups (octet ∷ octets) = octet % 128 + 128 * number_of_groups octets

-- the octet has its continuation bit: another one follows
abbrev pub continues : ℕ → Bool
continues octet = nat_le 128 octet

-- every octet but the last has its continuation bit, and the last has not
unfoldable pub IsChain : List ℕ → Type 0
IsChain [] = ⊥
IsChain (octet ∷ octets) = ((octet < 128) × (octets ≡ [])) ⊎ ((128 ≤ octet) × IsChain octets)

-- At most ten octets are the varint of a number of 64 bits. A number has several: groups that are 0 may follow.
pub record IsVarint (octets : List ℕ) (value : ℕ) : Type 0 where
  pub chain : IsChain octets
  pub short : length octets ≤ VARINT_OCTETS
  pub number : value ≡ number_of_groups octets
  pub fits : value < 2 ^ 64

-- a varint is cut short, at whatever length: each octet up to the end says that another one follows
abbrev pub IsCutVarint : List ℕ → Type 0
IsCutVarint octets = AllByRecursion (λ octet. 128 ≤ octet) octets

-- a chain of octets stands first that is too long or too great to be a varint
pub record IsOversized (octets : List ℕ) : Type 0 where
  pub front : List ℕ
  pub rest : List ℕ
  pub begins : octets ≡ front ++ rest
  pub chain : IsChain front
  pub past : (VARINT_OCTETS < length front) ⊎ (2 ^ 64 ≤ number_of_groups front)

-- 150 is the varint 96 01, as the encoding's own page has it; 96 81 00 is another one of the same number
pub varint_examples : IsVarint (150 ∷ 1 ∷ []) 150 × IsVarint (150 ∷ 129 ∷ 0 ∷ []) 150 × IsCutVarint (150 ∷ 129 ∷ [])
unfolding number_of_groups IsChain
varint_examples = (
  record { chain = inr (lit≤ tt, inl (lit< tt, refl)); short = lit≤ tt; number = refl; fits = lit< tt },
  record { chain = inr (lit≤ tt, inr (lit≤ tt, inl (lit< tt, refl))); short = lit≤ tt; number = refl; fits = lit< tt },
  (lit≤ tt, (lit≤ tt, tt)),
)
