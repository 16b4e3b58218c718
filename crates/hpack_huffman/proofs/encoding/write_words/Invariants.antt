use Rattle.std.proofs.Common.{take}
use Rattle.hpack_huffman.specs.Code.{high_bits, spelled}
use Rattle.hpack_huffman.specs.Puts.{Puts}
use Rattle.hpack_huffman.proofs.encoding.write_words.Given as goal

abbrev pub invariant-loop-octet : goal.invariant-loop-octet
invariant-loop-octet l = Puts l.fn.out l.out (spelled (take l.octet-index l.text)) (high_bits l.pending.count l.pending.number)
