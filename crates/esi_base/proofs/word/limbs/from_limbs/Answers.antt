use Rattle.std.proofs.Common.{◌∙◌, ◌≡◌, get_or, rules, arith}
use Rattle.esi_base.specs.Parts.{whole, part-whole, AreSmall-from_get_or}
use Rattle.esi_base.proofs.Filling.{first_limbs_more, first_limbs_all}
use Rattle.esi_base.proofs.word.limbs.from_limbs.Goals as goal

pub loop-at-preserved : goal.loop-at-preserved
loop-at-preserved c =
    first_limbs_more c.loop-at.out (whole 64 c.args.limbs.now) c.loop-at.at c.unwrap_or.result c.loop-at-test.true
    ((let e : c.unwrap_or.result ≡ get_or c.args.limbs.now c.loop-at.at 0 = search rules in e) ∙ part-whole 64 c.args.limbs.now c.loop-at.at (AreSmall-from_get_or 64 c.args.limbs.now (λ k. let f = c.type_inv.limbs k in omega arith)))
    c.loop-at.invariant

pub returns : goal.returns
returns c = first_limbs_all c.loop-at.out (whole 64 c.args.limbs.now) c.loop-at.at c.loop-at-test.false c.loop-at.invariant
