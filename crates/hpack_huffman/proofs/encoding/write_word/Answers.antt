use Rattle.std.proofs.Common.{IfOk, ◌+◌, ◌*◌, ◌%◌, ◌^◌, ◌∙◌, ap, subst}
use Rattle.hpack_huffman.specs.Code.{high_bits}
use Rattle.hpack_huffman.specs.Puts.{Puts}
use Rattle.hpack_huffman.proofs.PutsLemmas.{word_after}
use Rattle.hpack_huffman.proofs.encoding.write_word.Goals as goal

pub returns-clause-ok : goal.returns-clause-ok
returns-clause-ok c = subst (λ bits. IfOk c.write_octets.result (λ left. Puts c.args.out.now c.write_octets.new.out bits (high_bits left.count left.number)))
    (ap (λ n. high_bits (c.args.pending.count + c.args.word.length) (c.args.pending.number * 2 ^ c.args.word.length % 2 ^ 64 + n)) c.from.ensures
    ∙ word_after c.args.pending.number c.args.pending.count c.args.word.number c.args.word.length c.args.pending.fits c.args.pending.short c.args.word.fits c.args.word.short)
    c.write_octets.ensures.ok
