use Rattle.std.proofs.Common.{◌≡◌, ◌/◌, ◌%◌, ◌^◌, ◌*◌, ap, sym, ◌∙◌}
use Rattle.std.proofs.Math.Nat.{mod-eq_of_lt}
use Rattle.esi_base.specs.Bits.{number_of, number_of-bits_of}
use Rattle.esi_base.specs.Octets.{octet_in_limb}
use Rattle.esi_base.specs.Parts.{whole, part, part-whole}
use Rattle.esi_base.proofs.word.Word.octet.Goals as goal

pub returns : goal.returns
returns c =
    let limbs = c.self.inside.limbs in
    let number : number_of c.args.self.now ≡ whole 64 limbs =
    sym (ap number_of c.self.view_is) ∙ number_of-bits_of c.self.inside.width (whole 64 limbs) ∙ mod-eq_of_lt c.self.invariant.within in
    ap (λ l. l / 2 ^ (8 * (c.args.at % 8)) % 2 ^ 8) (part-whole 64 limbs (c.args.at / 8) c.self.invariant.limbs.small)
    ∙ octet_in_limb (whole 64 limbs) c.args.at
    ∙ ap (λ n. part 8 n c.args.at) (sym number)
