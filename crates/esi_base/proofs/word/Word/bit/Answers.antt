use Rattle.std.proofs.Common.{◌≡◌, ◌<◌, ◌/◌, ◌%◌, ◌^◌, Some, nat_eq, slice_get, length, ap, sym, subst, ◌∙◌, arith}
use Rattle.esi_base.specs.Bits.{length-bits_of, slice_get-bits_of, bit_in_limb}
use Rattle.esi_base.specs.Parts.{whole, part-whole}
use Rattle.esi_base.proofs.word.Word.bit.Goals as goal

pub bounds-self-inside-at : goal.bounds-self-inside-at
bounds-self-inside-at c =
    let wide : length c.args.self.now ≡ c.self.inside.width = ap length (sym c.self.view_is) ∙ length-bits_of c.self.inside.width (whole 64 c.self.inside.limbs) in
    omega (arith, c.self.invariant.high)

pub returns : goal.returns
returns c =
    let limbs = c.self.inside.limbs in
    let wide : length c.args.self.now ≡ c.self.inside.width = ap length (sym c.self.view_is) ∙ length-bits_of c.self.inside.width (whole 64 c.self.inside.limbs) in
    ap (λ bits. slice_get bits c.args.at) (sym c.self.view_is)
    ∙ slice_get-bits_of c.self.inside.width (whole 64 limbs) c.args.at (subst (λ w. c.args.at < w) wide c.requires)
    ∙ ap (λ n. Some (nat_eq n 1)) (sym (ap (λ l. l / 2 ^ (c.args.at % 64) % 2) (part-whole 64 limbs (c.args.at / 64) c.self.invariant.limbs.small) ∙ bit_in_limb (whole 64 limbs) c.args.at))
