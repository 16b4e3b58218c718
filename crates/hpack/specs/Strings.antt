-- Strings (RFC 7541, section 5.2).
use Rattle.std.specs.Prelude.{◌≡◌, ℕ, ◌<◌, ◌⊎◌, nat_le, Bool, true, false, List, [], ◌∷◌, ◌++◌, length}
use Rattle.hpack.specs.declared.limits.TheConstants.{STRING_BITS}
use Rattle.hpack.specs.declared.stop.BlockRule.{BlockRule}
use Rattle.hpack.specs.declared.stop.BlockRule.TheVariants.{Padding, EndOfString, CutOrTooLarge}
use Rattle.hpack_huffman.specs.Code.{AreWordsOf, HoldsEnd, IsUnpadded, bits_of}
use Rattle.hpack.specs.declared.string.StringHead.{StringHead}
use Rattle.hpack.specs.Integers.{IsInteger, BreaksInteger}
use Rattle.hpack.specs.Readers.{IsSequence, BreaksSequence}

-- the first bit of octets
abbrev pub first_bit : List ℕ → Bool
first_bit [] = false
first_bit (octet ∷ octets) = nat_le 128 octet

-- a bit that is 1 where Huffman coded octets follow, and how many octets follow
pub record IsHead (octets : List ℕ) (head : StringHead) : Type 0 where
  pub coded : head.coded ≡ first_bit octets
  pub count : IsInteger STRING_BITS octets head.count

-- octets stand for the text, as their Huffman code or as they are
abbrev pub IsText : Bool → List ℕ → List ℕ → Type 0
IsText true octets text = AreWordsOf (bits_of octets) text
IsText false octets text = octets ≡ text

-- as many octets as the head counts, which stand for the text
pub record IsBody (head : StringHead) (octets text : List ℕ) : Type 0 where
  pub counted : length octets ≡ head.count
  pub spelled : IsText head.coded octets text

-- the octets are the string
abbrev pub IsString : List ℕ → List ℕ → Type 0
IsString = IsSequence IsHead IsBody

-- the end of string stands in a Huffman code, or what is left after its words is no padding
abbrev pub BreaksCode : BlockRule → List ℕ → Type 0
BreaksCode rule octets = ((rule ≡ EndOfString) × HoldsEnd (bits_of octets)) ⊎ ((rule ≡ Padding) × IsUnpadded (bits_of octets))

-- a Huffman coded body stands whole, and breaks a rule of the code
pub record IsMiscoded (head : StringHead) (rule : BlockRule) (octets : List ℕ) : Type 0 where
  pub body : List ℕ
  pub rest : List ℕ
  pub whole : octets ≡ body ++ rest
  pub counted : length body ≡ head.count
  pub coded : head.coded ≡ true
  pub broken : BreaksCode rule body

-- the string is cut, or its body breaks a rule of the code
abbrev pub BreaksBody : StringHead → BlockRule → List ℕ → Type 0
BreaksBody head rule octets = ((rule ≡ CutOrTooLarge) × (length octets < head.count)) ⊎ IsMiscoded head rule octets

-- a rule is broken where a string is due
abbrev pub BreaksString : BlockRule → List ℕ → Type 0
BreaksString = BreaksSequence (BreaksInteger STRING_BITS) IsHead BreaksBody
