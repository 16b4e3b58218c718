use Rattle.std.proofs.Common.{◌≤◌, sym, ◌∙◌, arith}
use Rattle.std.proofs.Math.Pow.{pow_mono}
use Rattle.std.proofs.Math.Nat.{mod-eq_of_lt, lt_of_lt_of_le}
use Rattle.esi_base.specs.Parts.{whole, part-whole, part-zero}
use Rattle.esi_base.proofs.Made.{width_of, number_in}
use Rattle.esi_base.proofs.word.Word.number.Goals as goal

pub returns : goal.returns
returns c =
    let word = c.self.inside in
    let n = whole 64 word.limbs in
    let narrow : word.width ≤ 64 = omega (arith, width_of word c.args.self.now c.self.view_is) in
    part-whole 64 word.limbs 0 c.self.invariant.limbs.small
    ∙ part-zero 64 n
    ∙ mod-eq_of_lt (lt_of_lt_of_le c.self.invariant.within (pow_mono narrow))
    ∙ sym (number_in word c.args.self.now c.self.invariant c.self.view_is)
