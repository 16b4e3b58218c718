use Rattle.std.proofs.Common.{arith, ap, Err}
use Rattle.esi_base.specs.Parts.{AreSmall-from_get_or}
use Rattle.hpack_huffman.proofs.Rows.{text_read, text_unpadded}
use Rattle.hpack_huffman.proofs.AnswerFacts.{stop_meaning}
use Rattle.hpack_huffman.proofs.decoding.read_code.Goals as goal

pub returns-in-Ok-clause-exact : goal.returns-in-Ok-clause-exact
returns-in-Ok-clause-exact c =
    let small = AreSmall-from_get_or 8 c.args.octets.now (λ k. let f = c.type_inv.octets k in omega arith) in
    text_read c.args.octets.now c.args.out.now c.read_octets.new.out c.in-Ok.node small c.in-Ok.ensures.ok (omega arith)

pub returns-in-Ok-2-clause-exact : goal.returns-in-Ok-2-clause-exact
returns-in-Ok-2-clause-exact c =
    let small = AreSmall-from_get_or 8 c.args.octets.now (λ k. let f = c.type_inv.octets k in omega arith) in
    text_unpadded c.args.octets.now c.args.out.now c.read_octets.new.out c.in-Ok.node small c.in-Ok.ensures.ok (omega arith)

pub returns-in-Err-clause-exact : goal.returns-in-Err-clause-exact
returns-in-Err-clause-exact c =
    let small = AreSmall-from_get_or 8 c.args.octets.now (λ k. let f = c.type_inv.octets k in omega arith) in
    stop_meaning c.args.octets.now c.args.out.now c.read_octets.new.out c.in-Err.stop small (λ e. c.in-Err.ensures.end_of_string (ap Err e)) (λ e. c.in-Err.ensures.no_padding (ap Err e))
