-- Octets are at most 255, so that they are those of their number.
use Rattle.std.proofs.Common.{arith}
use Rattle.esi_base.specs.Parts.{AreSmall-from_get_or}
use Rattle.bit_packing.specs.OctetLaws.{word_from-Ok, word_from-packing}
use Rattle.bit_packing.proofs.octets.from_octets.Goals as goal

pub returns-clause-word : goal.returns-clause-word
returns-clause-word c word =
    let small = AreSmall-from_get_or 8 c.args.octets.now (λ k. let f = c.type_inv.octets k in omega arith) in
    rw c.word_of.ensures (word_from-Ok c.args.octets.now c.args.ty.now word small)

pub returns-clause-packing : goal.returns-clause-packing
returns-clause-packing c =
    let small = AreSmall-from_get_or 8 c.args.octets.now (λ k. let f = c.type_inv.octets k in omega arith) in
    word_from-packing c.args.octets.now c.args.ty.now c.word_of.result small c.word_of.ensures
