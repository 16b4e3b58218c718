use Rattle.std.proofs.Common.{◌-◌, ◌*◌, ◌%◌, ◌^◌, ap, sym, ◌∙◌, arith}
use Rattle.esi_base.specs.Parts.{whole, part-whole, AreSmall-from_get_or}
use Rattle.esi_base.proofs.Shifts.{part_above, part_at, part_below}
use Rattle.esi_base.proofs.word.limbs.limb_above.Goals as goal

pub returns-then-by-from : goal.returns-then-by-from
returns-then-by-from c = c.limb_from.ensures ∙ sym (part_above 64 (whole 64 c.args.limbs.now) c.args.by c.args.at c.if-by-from.true)

pub returns-then-by-from-lt-LIMB_BITS : goal.returns-then-by-from-lt-LIMB_BITS
returns-then-by-from-lt-LIMB_BITS c =
    ap (λ m. m * 2 ^ (c.args.by - 64 * c.args.at) % 2 ^ 64) (part-whole 64 c.args.limbs.now 0 (AreSmall-from_get_or 64 c.args.limbs.now c.fits-limbs))
    ∙ sym (part_at 64 (whole 64 c.args.limbs.now) c.args.by c.args.at (omega arith))

pub returns-else-by-from-lt-LIMB_BITS : goal.returns-else-by-from-lt-LIMB_BITS
returns-else-by-from-lt-LIMB_BITS c = sym (part_below 64 (whole 64 c.args.limbs.now) c.args.by c.args.at (omega arith))
