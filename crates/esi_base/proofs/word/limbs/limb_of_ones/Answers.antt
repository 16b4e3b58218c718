use Rattle.std.proofs.Common.{◌-◌, ◌*◌, ap, sym, ◌∙◌, arith}
use Rattle.std.proofs.lemmas.Nat.{one_shl}
use Rattle.esi_base.proofs.Shifts.{ones_past, ones_at, ones_whole}
use Rattle.esi_base.proofs.word.limbs.limb_of_ones.Goals as goal

pub returns-then-width-from : goal.returns-then-width-from
returns-then-width-from c = sym (ones_past 64 c.args.width c.args.at c.if-width-from.true)

pub returns-then-width-from-lt-LIMB_BITS : goal.returns-then-width-from-lt-LIMB_BITS
returns-then-width-from-lt-LIMB_BITS c =
    ap (λ m. m - 1) (one_shl (c.args.width - 64 * c.args.at) 64 c.if-width-from-lt-LIMB_BITS.true)
    ∙ sym (ones_at 64 c.args.width c.args.at (omega arith) (omega arith))

pub returns-else-width-from-lt-LIMB_BITS : goal.returns-else-width-from-lt-LIMB_BITS
returns-else-width-from-lt-LIMB_BITS c = sym (ones_whole 64 c.args.width c.args.at (omega arith))
