use Rattle.hpack_huffman.proofs.CodeFacts.{read_again}
use Rattle.hpack_huffman.proofs.laws.code_is_read_again_law.Goals as goal

pub returns : goal.returns
returns c = read_again
