-- What the calls add at the end of octets.
use Rattle.std.specs.Prelude.{ℕ, ◌≡◌, ◌++◌, Bool, List}
use Rattle.hpack_huffman.specs.Code.{AreWordsOf, AreOctets, bits_of}

-- A text is added whose code the bits are.
pub record AddsText (bits : List Bool) (old new : List ℕ) : Type 0 where
  pub text : List ℕ
  pub words : AreWordsOf bits text
  pub whole : new ≡ old ++ text

-- Octets are added that are the code of a text.
pub record AddsCode (text : List ℕ) (old new : List ℕ) : Type 0 where
  pub code : List ℕ
  pub octets : AreOctets code
  pub words : AreWordsOf (bits_of code) text
  pub whole : new ≡ old ++ code
