-- What a step of writing adds.
use Rattle.std.specs.Prelude.{ℕ, ◌≡◌, ◌<◌, Bool, List, [], ◌++◌}
use Rattle.hpack_huffman.specs.Code.{AreOctets, bits_of, ones}

-- Octets are added at the end: bits, but for those that are left.
pub record Puts (old new : List ℕ) (bits left : List Bool) : Type 0 where
  pub code : List ℕ
  pub octets : AreOctets code
  pub added : new ≡ old ++ code
  pub whole : bits_of code ++ left ≡ bits

-- Bits are added, and ones that fill their last octet.
pub record Fills (old new : List ℕ) (bits : List Bool) : Type 0 where
  pub padding : ℕ
  pub short : padding < 8
  pub puts : Puts old new (bits ++ ones padding) []
