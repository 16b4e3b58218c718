use Rattle.std.proofs.Common.{◌∙◌, arith}
use Rattle.esi_base.specs.Parts.{whole, AreSmall-from_get_or}
use Rattle.esi_base.proofs.Filling.{first_limbs_more, first_limbs_all}
use Rattle.esi_base.proofs.OctetLimbs.{octets_of_limb}
use Rattle.esi_base.proofs.word.limbs.from_octets.Goals as goal

pub loop-at-preserved : goal.loop-at-preserved
loop-at-preserved c =
    first_limbs_more c.loop-at.out (whole 8 c.args.octets.now) c.loop-at.at c.limb_of_octets.result c.loop-at-test.true
    (c.limb_of_octets.ensures
    ∙ octets_of_limb c.args.octets.now c.loop-at.at c.min-from.result c.min-end.result
    (AreSmall-from_get_or 8 c.args.octets.now (λ k. let f = c.type_inv.octets k in omega arith)) c.min-from.ensures c.min-end.ensures)
    c.loop-at.invariant

pub returns : goal.returns
returns c = first_limbs_all c.loop-at.out (whole 8 c.args.octets.now) c.loop-at.at c.loop-at-test.false c.loop-at.invariant
