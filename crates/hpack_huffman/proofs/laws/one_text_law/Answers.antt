use Rattle.hpack_huffman.proofs.CodeFacts.{one_text}
use Rattle.hpack_huffman.proofs.laws.one_text_law.Goals as goal

pub returns : goal.returns
returns c = one_text
