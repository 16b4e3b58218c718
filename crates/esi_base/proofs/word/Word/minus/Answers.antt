use Rattle.std.proofs.Common.{◌<◌, ◌^◌, length, subst, ap, sym, ◌∙◌, arith}
use Rattle.std.proofs.lemmas.Nat.{one_shl}
use Rattle.esi_base.specs.Bits.{number_of, length-bits_of}
use Rattle.esi_base.specs.BitLists.{number_of-below}
use Rattle.esi_base.proofs.word.Word.minus.Goals as goal

pub overflow_sub-lent : goal.overflow_sub-lent
overflow_sub-lent c =
    let width = c.width-width.result in
    let other = c.args.other.now in
    let below : number_of other < 2 ^ width = subst (λ k. number_of other < 2 ^ k) (sym c.requires.same ∙ sym c.width-width.ensures.bits) (number_of-below other) in
    omega (arith, one_shl width 128 (omega (arith, c.width-width.ensures.bits, c.requires.high)), below, c.number-2.ensures, c.from-2.ensures)

pub returns-clause-width : goal.returns-clause-width
returns-clause-width c = ap length c.lowest_bits.ensures ∙ length-bits_of c.width-width.result _ ∙ c.width-width.ensures.bits
