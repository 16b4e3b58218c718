use Rattle.std.proofs.Common.{◌-◌, ◌^◌, map, not, bit_xor, ap, sym, ◌∙◌}
use Rattle.std.proofs.lemmas.Nat.{xor_lt}
use Rattle.std.proofs.Math.Pow.{ones_lt}
use Rattle.esi_base.specs.Bits.{length-bits_of}
use Rattle.esi_base.specs.BitLists.{bits_of-not}
use Rattle.esi_base.specs.Parts.{whole}
use Rattle.esi_base.proofs.Made.{width_of, word_of_limbs, bits_of_limbs}
use Rattle.esi_base.proofs.word.Word.bit_not.Goals as goal

pub invariant_of-result : goal.invariant_of-result
invariant_of-result c =
    let width = c.self.inside.width in
    let n = whole 64 c.self.inside.limbs in
    word_of_limbs c.not.result width (bit_xor n (2 ^ width - 1)) c.not.ensures
    (xor_lt width n (2 ^ width - 1) c.self.invariant.within (ones_lt width)) c.self.invariant.low c.self.invariant.high

pub returns-clause-bits : goal.returns-clause-bits
returns-clause-bits c =
    let width = c.self.inside.width in
    let n = whole 64 c.self.inside.limbs in
    bits_of_limbs c.not.result width (bit_xor n (2 ^ width - 1)) c.not.ensures
    (xor_lt width n (2 ^ width - 1) c.self.invariant.within (ones_lt width)) c.self.invariant.high
    ∙ bits_of-not width n
    ∙ ap (λ bits. map not bits) c.self.view_is

pub returns-clause-width : goal.returns-clause-width
returns-clause-width c = length-bits_of c.self.inside.width (whole 64 c.not.result) ∙ sym (width_of c.self.inside c.args.self.now c.self.view_is)
