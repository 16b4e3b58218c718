-- The rules of header blocks: their numbers, and which of them are those of a Huffman code.
use Rattle.std.specs.Prelude.{ℕ, Result, Ok, Err}
use Rattle.hpack_huffman.specs.declared.stop.HuffmanRule.{HuffmanRule}
use Rattle.hpack_huffman.specs.declared.stop.HuffmanRule.TheVariants as huffman
use Rattle.hpack.specs.declared.stop.BlockRule.{BlockRule}
use Rattle.hpack.specs.declared.stop.BlockRule.TheVariants.{Padding, EndOfString, NoSuchEntry, CutOrTooLarge, WrongSizeUpdate, ListTooLarge}

abbrev pub rule_number : BlockRule → ℕ
rule_number Padding = 711
rule_number EndOfString = 712
rule_number NoSuchEntry = 713
rule_number CutOrTooLarge = 714
rule_number WrongSizeUpdate = 715
rule_number ListTooLarge = 716

-- a rule of the Huffman code is one of header blocks
abbrev pub rule_of_code : HuffmanRule → BlockRule
rule_of_code huffman.Padding = Padding
rule_of_code huffman.EndOfString = EndOfString

abbrev pub text_in_block : {A : Type 0} → Result A HuffmanRule → Result A BlockRule
text_in_block (Ok text) = Ok text
text_in_block (Err rule) = Err (rule_of_code rule)
