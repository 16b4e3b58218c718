use Rattle.std.proofs.Common.{◌≡◌, ◌+◌, ◌*◌, ◌^◌, ◌++◌, ap, ◌∙◌, arith}
use Rattle.esi_base.specs.Bits.{bits_of, length-bits_of}
use Rattle.esi_base.specs.BitLists.{bits_of-joined, joined-below}
use Rattle.esi_base.specs.Parts.{whole}
use Rattle.esi_base.proofs.Made.{width_of, word_of_limbs, bits_of_limbs}
use Rattle.esi_base.proofs.word.Word.concat.Goals as goal

pub invariant_of-result : goal.invariant_of-result
invariant_of-result c =
    let high = c.self.inside in
    let low = c.low.inside in
    word_of_limbs c.joined.result (high.width + low.width) (whole 64 high.limbs * 2 ^ low.width + whole 64 low.limbs) c.joined.ensures
    (joined-below high.width low.width (whole 64 high.limbs) (whole 64 low.limbs) c.self.invariant.within c.low.invariant.within)
    (omega (arith, c.self.invariant.low))
    (omega (arith, width_of high c.args.self.now c.self.view_is, width_of low c.args.low.now c.low.view_is))

pub returns-clause-bits : goal.returns-clause-bits
returns-clause-bits c =
    let high = c.self.inside in
    let low = c.low.inside in
    let n = whole 64 high.limbs * 2 ^ low.width + whole 64 low.limbs in
    bits_of_limbs c.joined.result (high.width + low.width) n c.joined.ensures
    (joined-below high.width low.width (whole 64 high.limbs) (whole 64 low.limbs) c.self.invariant.within c.low.invariant.within)
    (omega (arith, width_of high c.args.self.now c.self.view_is, width_of low c.args.low.now c.low.view_is))
    ∙ ap (λ k. bits_of k n) (let e : high.width + low.width ≡ low.width + high.width = omega arith in e)
    ∙ bits_of-joined high.width low.width (whole 64 high.limbs) (whole 64 low.limbs) c.low.invariant.within
    ∙ ap (λ bits. bits ++ bits_of high.width (whole 64 high.limbs)) c.low.view_is
    ∙ ap (λ bits. c.args.low.now ++ bits) c.self.view_is

pub returns-clause-width : goal.returns-clause-width
returns-clause-width c =
    length-bits_of (c.self.inside.width + c.low.inside.width) (whole 64 c.joined.result)
    ∙ omega (arith, width_of c.self.inside c.args.self.now c.self.view_is, width_of c.low.inside c.args.low.now c.low.view_is)
