-- The numbers of the rules.
use Rattle.std.specs.Prelude.{ℕ}
use Rattle.hpack_huffman.specs.declared.stop.HuffmanRule.{HuffmanRule}
use Rattle.hpack_huffman.specs.declared.stop.HuffmanRule.TheVariants.{Padding, EndOfString}

abbrev pub rule_number : HuffmanRule → ℕ
rule_number Padding = 711
rule_number EndOfString = 712
