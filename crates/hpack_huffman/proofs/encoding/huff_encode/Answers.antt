use Rattle.std.proofs.Common.{arith}
use Rattle.esi_base.specs.Parts.{AreSmall-from_get_or}
use Rattle.hpack_huffman.proofs.PutsLemmas.{fills_exact, exact_code}
use Rattle.hpack_huffman.proofs.encoding.huff_encode.Goals as goal

pub returns-in-Ok-clause-code : goal.returns-in-Ok-clause-code
returns-in-Ok-clause-code c =
    exact_code c.args.out.now c.write_code.new.out c.args.text.now (AreSmall-from_get_or 8 c.args.text.now (λ k. let f = c.type_inv.text k in omega arith))
    (fills_exact c.args.out.now c.write_code.new.out c.args.text.now c.in-Ok.ensures.ok)

pub returns-in-Ok-clause-exact : goal.returns-in-Ok-clause-exact
returns-in-Ok-clause-exact c = fills_exact c.args.out.now c.write_code.new.out c.args.text.now c.in-Ok.ensures.ok
