use Rattle.std.proofs.Common.{◌≡◌, ◌+◌, ◌-◌, ◌*◌, ◌/◌, ◌^◌, ◌≤◌, ◌==◌, ◌↔◌, IsTrue, not, length, ap, sym, ◌∙◌, subst, arith}
use Rattle.esi_base.specs.Parts.{whole, AreSmall-from_get_or}
use Rattle.bit_packing.proofs.OctetWalk.{last_shifted, is_above}
use Rattle.bit_packing.proofs.octets.has_spare.Goals as goal

pub returns : goal.returns
returns c =
    let small = AreSmall-from_get_or 8 c.args.octets.now (λ k. let f = c.type_inv.octets k in omega arith) in
    let last = length c.args.octets.now - 1 in
    let used = c.args.width - 8 * last in
    let shifted : c.from.result / 2 ^ used ≡ whole 8 c.args.octets.now / 2 ^ c.args.width =
    ap (λ n. n / 2 ^ used) c.from.ensures
    ∙ last_shifted c.args.octets.now last used small (omega arith)
    ∙ ap (λ k. whole 8 c.args.octets.now / 2 ^ k) (let e : 8 * last + used ≡ c.args.width = omega arith in e) in
    subst (λ n. IsTrue (not (n == 0)) ↔ (2 ^ c.args.width ≤ whole 8 c.args.octets.now)) (sym shifted) (is_above (whole 8 c.args.octets.now) c.args.width)
