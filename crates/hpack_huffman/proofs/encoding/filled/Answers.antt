use Rattle.std.proofs.Common.{arith}
use Rattle.hpack_huffman.proofs.PutsLemmas.{filled_low, filled_bits}
use Rattle.hpack_huffman.proofs.encoding.filled.Goals as goal

pub overflow_cast-result-2 : goal.overflow_cast-result-2
overflow_cast-result-2 c = omega (arith, filled_low c.args.pending.number c.args.pending.count c.args.pending.fits c.args.pending.short)

pub returns : goal.returns
returns c = filled_bits c.args.pending.number c.args.pending.count c.args.pending.fits c.args.pending.short
