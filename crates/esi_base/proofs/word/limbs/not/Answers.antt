use Rattle.std.proofs.Common.{◌-◌, ◌^◌, get_or, bit_xor, ap, sym, ◌∙◌}
use Rattle.esi_base.specs.Parts.{whole, part, part-xor, part-whole, AreSmall-from_get_or}
use Rattle.esi_base.proofs.Filling.{first_limbs_more, first_limbs_all}
use Rattle.esi_base.proofs.word.limbs.not.Goals as goal

pub loop-at-preserved : goal.loop-at-preserved
loop-at-preserved c =
    let xs = c.args.limbs.now in
    let at = c.loop-at.at in
    let ones = 2 ^ c.args.width - 1 in
    first_limbs_more c.loop-at.out (bit_xor (whole 64 xs) ones) at (bit_xor (get_or xs at 0) c.limb_of_ones.result) c.loop-at-test.true
    (ap (λ m. bit_xor m c.limb_of_ones.result) (part-whole 64 xs at (AreSmall-from_get_or 64 xs c.fits-limbs))
    ∙ ap (λ m. bit_xor (part 64 (whole 64 xs) at) m) c.limb_of_ones.ensures
    ∙ sym (part-xor 64 (whole 64 xs) ones at))
    c.loop-at.invariant

pub returns : goal.returns
returns c = first_limbs_all c.loop-at.out (bit_xor (whole 64 c.args.limbs.now) (2 ^ c.args.width - 1)) c.loop-at.at c.loop-at-test.false c.loop-at.invariant
