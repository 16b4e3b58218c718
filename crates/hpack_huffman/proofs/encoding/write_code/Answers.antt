use Rattle.hpack_huffman.specs.Code.{high_bits, spelled}
use Rattle.hpack_huffman.proofs.PutsLemmas.{fills_words}
use Rattle.hpack_huffman.proofs.encoding.write_code.Goals as goal

pub returns-in-Ok-clause-ok : goal.returns-in-Ok-clause-ok
returns-in-Ok-clause-ok c =
    fills_words c.fill_octet.result c.args.out.now c.write_words.new.out c.fill_octet.new.out (spelled c.args.text.now) (high_bits c.in-Ok.pending.count c.in-Ok.pending.number) c.in-Ok.ensures.ok c.fill_octet.ensures.ok
