-- What all of the code stands on.
use Rattle.std.specs.Prelude.{ℕ, ◌≡◌, List, Ok}
use Rattle.hpack_huffman.specs.Code.{AreOctets, AreWordsOf, bits_of}
use Rattle.hpack_huffman.specs.Decoding.{decoded}
use Rattle.hpack_huffman.specs.Encoding.{encoded}

-- What is written is read again.
abbrev pub ReadAgain : Type 0
ReadAgain = (text : List ℕ) → AreOctets text → decoded (encoded text) ≡ Ok text

-- Octets are the code of at most one text.
abbrev pub OneText : Type 0
OneText = (octets one other : List ℕ) → AreWordsOf (bits_of octets) one → AreWordsOf (bits_of octets) other → one ≡ other

-- A text has one code.
abbrev pub OneCode : Type 0
OneCode = (code text : List ℕ) → AreOctets code → AreWordsOf (bits_of code) text → code ≡ encoded text
