use Rattle.std.proofs.Common.{get_or, bit_or, ap, sym, ◌∙◌}
use Rattle.esi_base.specs.Parts.{whole, part, part-or, part-whole}
use Rattle.esi_base.proofs.Filling.{first_limbs_more, first_limbs_all}
use Rattle.esi_base.proofs.word.limbs.or.Goals as goal

pub loop-at-preserved : goal.loop-at-preserved
loop-at-preserved c =
    let xs = c.args.first.now in
    let ys = c.args.second.now in
    let at = c.loop-at.at in
    first_limbs_more c.loop-at.out (bit_or (whole 64 xs) (whole 64 ys)) at (bit_or (get_or xs at 0) (get_or ys at 0)) c.loop-at-test.true
    (ap (λ m. bit_or m (get_or ys at 0)) (part-whole 64 xs at c.requires.first.small)
    ∙ ap (λ m. bit_or (part 64 (whole 64 xs) at) m) (part-whole 64 ys at c.requires.second.small)
    ∙ sym (part-or 64 (whole 64 xs) (whole 64 ys) at))
    c.loop-at.invariant

pub returns : goal.returns
returns c =
    first_limbs_all c.loop-at.out (bit_or (whole 64 c.args.first.now) (whole 64 c.args.second.now)) c.loop-at.at c.loop-at-test.false c.loop-at.invariant
