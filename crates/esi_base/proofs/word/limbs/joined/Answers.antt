use Rattle.std.proofs.Common.{◌+◌, ◌*◌, ◌^◌, get_or, bit_or, ap, sym, ◌∙◌}
use Rattle.std.proofs.lemmas.Nat.{or_shifted}
use Rattle.esi_base.specs.Parts.{whole, part, part-or, part-whole, AreSmall-from_get_or}
use Rattle.esi_base.proofs.Filling.{first_limbs_more, first_limbs_all}
use Rattle.esi_base.proofs.word.limbs.joined.Goals as goal

pub loop-at-preserved : goal.loop-at-preserved
loop-at-preserved c =
    let high = whole 64 c.args.high.now * 2 ^ c.args.by in
    let low = whole 64 c.args.low.now in
    let at = c.loop-at.at in
    first_limbs_more c.loop-at.out (high + low) at (bit_or c.limb_above.result (get_or c.args.low.now at 0)) c.loop-at-test.true
    (ap (λ m. bit_or m (get_or c.args.low.now at 0)) c.limb_above.ensures
    ∙ ap (λ m. bit_or (part 64 high at) m) (part-whole 64 c.args.low.now at (AreSmall-from_get_or 64 c.args.low.now c.fits-low))
    ∙ sym (part-or 64 high low at)
    ∙ ap (λ m. part 64 m at) (or_shifted (whole 64 c.args.high.now) c.args.by low c.requires))
    c.loop-at.invariant

pub returns : goal.returns
returns c = first_limbs_all c.loop-at.out (whole 64 c.args.high.now * 2 ^ c.args.by + whole 64 c.args.low.now) c.loop-at.at c.loop-at-test.false c.loop-at.invariant
