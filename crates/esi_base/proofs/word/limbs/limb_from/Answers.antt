use Rattle.std.proofs.Common.{◌≡◌, ◌+◌, ◌*◌, ◌/◌, ◌%◌, ◌^◌, ap, ◌∙◌, arith}
use Rattle.esi_base.specs.Parts.{whole, part}
use Rattle.esi_base.proofs.Shifts.{field_of_two}
use Rattle.esi_base.proofs.word.limbs.limb_from.Goals as goal

pub returns : goal.returns
returns c =
    let n = whole 64 c.args.limbs.now in
    let pair : c.from.result * 2 ^ 64 % 2 ^ 128 + c.from-2.result ≡ part 64 n (c.args.from / 64 + 1) * 2 ^ 64 + part 64 n (c.args.from / 64) = omega (arith, c.limb_at-high.type_inv) in
    ap (λ m. m / 2 ^ (c.args.from % 64) % 2 ^ 64) pair
    ∙ field_of_two 64 n (c.args.from / 64) (c.args.from % 64) c.args.from (omega arith) (omega arith)
