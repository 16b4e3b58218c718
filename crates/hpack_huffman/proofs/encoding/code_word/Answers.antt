use Rattle.std.proofs.Common.{arith}
use Rattle.hpack_huffman.proofs.WordTables.{entry_is, entry_fits, entry_short}
use Rattle.hpack_huffman.proofs.encoding.code_word.Goals as goal

pub invariant_of-result : goal.invariant_of-result
invariant_of-result c = record {
  fits = entry_fits c.args.octet c.word_number-number.result c.word_length-length.result (omega arith) c.word_number-number.ensures c.word_length-length.ensures;
  short = entry_short c.args.octet c.word_length-length.result (omega arith) c.word_length-length.ensures;
}

pub returns : goal.returns
returns c = entry_is c.args.octet c.word_number-number.result c.word_length-length.result (omega arith) c.word_number-number.ensures c.word_length-length.ensures
