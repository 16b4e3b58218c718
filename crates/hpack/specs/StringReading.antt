-- Reading a string.
use Rattle.std.specs.Prelude.{ℕ, nat_lt, Bool, true, false, List, length, take, drop, Result, Ok, Err, if◌then◌else◌}
use Rattle.hpack.specs.declared.limits.TheConstants.{STRING_BITS}
use Rattle.hpack.specs.declared.stop.BlockRule.{BlockRule}
use Rattle.hpack.specs.declared.stop.BlockRule.TheVariants.{CutOrTooLarge}
use Rattle.hpack_huffman.specs.Decoding.{decoded}
use Rattle.esi_base.specs.Answers.{◌>>=◌}
use Rattle.hpack.specs.declared.string.StringHead.{StringHead}
use Rattle.hpack.specs.IntegerReading.{integer_at}
use Rattle.hpack.specs.Rules.{text_in_block}
use Rattle.hpack.specs.Strings.{first_bit}

unfoldable pub head_at : List ℕ → Result (StringHead × List ℕ) BlockRule
head_at octets = do
  count ← integer_at STRING_BITS octets
  Ok (record { coded = first_bit octets; count = count.0 }, count.1)

-- so many octets, and those after them
abbrev pub span_at : ℕ → List ℕ → Result (List ℕ × List ℕ) BlockRule
span_at count octets = if nat_lt (length octets) count then Err CutOrTooLarge else Ok (take count octets, drop count octets)

abbrev pub text_of : Bool → List ℕ → Result (List ℕ) BlockRule
text_of true octets = text_in_block (decoded octets)
text_of false octets = Ok octets

unfoldable pub body_at : StringHead → List ℕ → Result (List ℕ × List ℕ) BlockRule
body_at head octets = do
  body ← span_at head.count octets
  text ← text_of head.coded body.0
  Ok (text, body.1)

-- a string, and the octets after it
unfoldable pub string_at : List ℕ → Result (List ℕ × List ℕ) BlockRule
string_at octets = do
  head ← head_at octets
  body_at head.0 head.1
