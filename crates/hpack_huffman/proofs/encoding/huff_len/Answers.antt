use Rattle.std.proofs.Common.{◌+◌, ◌∙◌, ap, arith}
use Rattle.hpack_huffman.proofs.PutsLemmas.{count_more, octets_counted, rounded_up}
use Rattle.hpack_huffman.proofs.encoding.huff_len.Goals as goal

pub loop-octet-preserved : goal.loop-octet-preserved
loop-octet-preserved c = record {
  counted =
      ap (λ n. c.loop-octet.bits + n) c.from-bits.ensures
      ∙ count_more c.args.text.now c.loop-octet.octet-index c.loop-octet.bits c.code_word.result.length c.code_word.result.number c.loop-octet-test.true c.loop-octet.invariant.counted c.code_word.ensures;
  within = omega arith;
}

pub returns : goal.returns
returns c = c.div_ceil.ensures ∙ rounded_up c.loop-octet.bits ∙ octets_counted c.args.text.now c.loop-octet.octet-index c.loop-octet.bits c.loop-octet-test.false c.loop-octet.invariant.counted
