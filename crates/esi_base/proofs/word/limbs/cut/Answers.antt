use Rattle.std.proofs.Common.{◌≡◌, ◌/◌, ◌%◌, ◌^◌, bit_and, ap, sym, ◌∙◌}
use Rattle.esi_base.specs.Parts.{whole, part}
use Rattle.esi_base.proofs.Shifts.{part-shr, part-mod}
use Rattle.esi_base.proofs.Filling.{first_limbs_more, first_limbs_all}
use Rattle.esi_base.proofs.word.limbs.cut.Goals as goal

pub loop-at-preserved : goal.loop-at-preserved
loop-at-preserved c =
    let n = whole 64 c.args.limbs.now / 2 ^ c.args.from in
    let from : c.limb_from.result ≡ part 64 n c.loop-at.at = c.limb_from.ensures ∙ sym (part-shr 64 (whole 64 c.args.limbs.now) c.args.from c.loop-at.at) in
    first_limbs_more c.loop-at.out (n % 2 ^ c.args.width) c.loop-at.at (bit_and c.limb_from.result c.limb_of_ones.result) c.loop-at-test.true
    (ap (λ m. bit_and m c.limb_of_ones.result) from
    ∙ ap (λ m. bit_and (part 64 n c.loop-at.at) m) c.limb_of_ones.ensures
    ∙ sym (part-mod 64 n c.args.width c.loop-at.at))
    c.loop-at.invariant

pub returns : goal.returns
returns c = first_limbs_all c.loop-at.out (whole 64 c.args.limbs.now / 2 ^ c.args.from % 2 ^ c.args.width) c.loop-at.at c.loop-at-test.false c.loop-at.invariant
