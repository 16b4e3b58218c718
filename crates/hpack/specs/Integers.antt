-- Integers (RFC 7541, section 5.1). A prefix of N bits has the values below 2^N - 1;
-- 2^N - 1 itself there means that further octets follow, seven bits each, the least significant first.
use Rattle.std.specs.Prelude.{◌≡◌, ℕ, ◌+◌, ◌-◌, ◌*◌, ◌%◌, ◌<◌, ◌≤◌, ◌^◌, ◌⊎◌, List, [], ◌∷◌, ◌++◌, length}
use Rattle.hpack.specs.declared.limits.TheConstants.{INTEGER_OCTETS, INTEGER_VALUES}
use Rattle.hpack.specs.declared.stop.BlockRule.{BlockRule}
use Rattle.hpack.specs.declared.stop.BlockRule.TheVariants.{CutOrTooLarge}

-- the value of a prefix of so many bits whose bits are all ones
abbrev pub full_prefix : ℕ → ℕ
full_prefix bits = 2 ^ bits - 1

-- seven bits of each octet, the least significant first
abbrev pub digits : List ℕ → ℕ
digits [] = 0
digits (octet ∷ octets) = octet % 128 + 128 * digits octets

-- one octet or more, of which the last one alone is below 128
abbrev pub IsGroup : List ℕ → Type 0
IsGroup [] = ⊥
IsGroup (octet ∷ []) = octet < 128
IsGroup (octet ∷ next ∷ octets) = (128 ≤ octet) × IsGroup (next ∷ octets)

-- the whole value stands in the prefix
pub record IsShort (bits octet : ℕ) (octets : List ℕ) (n : ℕ) : Type 0 where
  pub below : octet % 2 ^ bits < full_prefix bits
  pub alone : octets ≡ []
  pub value : n ≡ octet % 2 ^ bits

-- the prefix is full, and at most five octets follow; the value is below 2^32
pub record IsLong (bits octet : ℕ) (octets : List ℕ) (n : ℕ) : Type 0 where
  pub is_full : full_prefix bits ≤ octet % 2 ^ bits
  pub group : IsGroup octets
  pub few : length octets ≤ INTEGER_OCTETS
  pub value : n ≡ full_prefix bits + digits octets
  pub small : n < INTEGER_VALUES

-- the octets are the integer, in a prefix of so many bits
abbrev pub IsInteger : ℕ → List ℕ → ℕ → Type 0
IsInteger bits [] n = ⊥
IsInteger bits (octet ∷ octets) n = IsShort bits octet octets n ⊎ IsLong bits octet octets n

-- the octets don't begin with an integer
abbrev pub LacksInteger : ℕ → List ℕ → Type 0
LacksInteger bits octets = (front rest : List ℕ) (n : ℕ) → octets ≡ front ++ rest → IsInteger bits front n → ⊥

-- where an integer is due, its rule is broken exactly where none stands
abbrev pub BreaksInteger : ℕ → BlockRule → List ℕ → Type 0
BreaksInteger bits rule octets = (rule ≡ CutOrTooLarge) × LacksInteger bits octets
