use Rattle.hpack_huffman.proofs.PutsLemmas.{lowest_bits}
use Rattle.hpack_huffman.proofs.encoding.lowest.Goals as goal

pub returns-clause-bits : goal.returns-clause-bits
returns-clause-bits c = lowest_bits c.args.number c.args.count c.requires
