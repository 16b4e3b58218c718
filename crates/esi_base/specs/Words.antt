-- How a word's limbs and width are its bits.
use Rattle.std.specs.Prelude.{◌≤◌, ◌<◌, ◌^◌, Bool, List, length}
use Rattle.esi_base.specs.Parts.{whole, parts}
use Rattle.esi_base.specs.Bits.{number_of, bits_of}
use Rattle.esi_base.specs.Limbs.{IsLimbs}
use Rattle.esi_base.specs.declared.word.Word.TheInside.{Inside}

-- the bits of the limbs, as many as the width says
abbrev pub bits_in : Inside → List Bool
bits_in word = bits_of word.width (whole 64 word.limbs)

-- a width of 1 to 1,024 bits, and limbs whose bits past the width are 0
pub record IsWord (word : Inside) : Type 0 where
  pub limbs : IsLimbs word.limbs
  pub low : 1 ≤ word.width
  pub high : word.width ≤ 1024
  pub within : whole 64 word.limbs < 2 ^ word.width

-- the limbs and the width of a list of bits
unfoldable pub fields_of : List Bool → Inside
fields_of bits = record { limbs = parts 64 16 (number_of bits); width = length bits }
