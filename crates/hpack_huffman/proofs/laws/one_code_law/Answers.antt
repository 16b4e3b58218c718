use Rattle.hpack_huffman.proofs.CodeFacts.{one_code}
use Rattle.hpack_huffman.proofs.laws.one_code_law.Goals as goal

pub returns : goal.returns
returns c = one_code
