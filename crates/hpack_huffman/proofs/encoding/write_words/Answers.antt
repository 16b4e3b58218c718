use Rattle.hpack_huffman.specs.Code.{high_bits}
use Rattle.hpack_huffman.proofs.PutsLemmas.{puts_more}
use Rattle.hpack_huffman.proofs.encoding.write_words.Goals as goal

pub loop-octet-preserved : goal.loop-octet-preserved
loop-octet-preserved c =
    puts_more c.args.out.now c.loop-octet.out c.write_word.new.out c.args.text.now
    (high_bits c.loop-octet.pending.count c.loop-octet.pending.number) (high_bits c.code_word.result.length c.code_word.result.number) (high_bits c.in-Ok.left.count c.in-Ok.left.number)
    c.loop-octet.octet-index c.loop-octet-test.true c.loop-octet.invariant c.code_word.ensures c.in-Ok.ensures.ok
