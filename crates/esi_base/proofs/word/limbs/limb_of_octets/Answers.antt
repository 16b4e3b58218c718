use Rattle.std.proofs.Common.{◌≡◌, ◌+◌, ◌-◌, ◌*◌, ◌^◌, ◌<◌, ◌≤◌, length, drop, get_or, ap, ◌∙◌, arith, length-drop}
use Rattle.std.proofs.lemmas.List.{drop_more}
use Rattle.std.proofs.Math.Pow.{pow_mono}
use Rattle.std.proofs.Math.Nat.{lt_of_lt_of_le}
use Rattle.esi_base.specs.Parts.{whole, whole-below, AreSmall-drop, AreSmall-from_get_or}
use Rattle.esi_base.proofs.word.limbs.limb_of_octets.Goals as goal

pub loop-at-preserved : goal.loop-at-preserved
loop-at-preserved c =
    let octets = c.args.octets.now in
    let from = c.loop-at.at - 1 in
    let again : from + 1 ≡ c.loop-at.at = omega arith in
    let rest = drop c.loop-at.at octets in
    let count : 8 * length rest ≤ 56 = omega (arith, length-drop c.loop-at.at octets, c.loop-at.invariant.0) in
    let small : whole 8 rest < 2 ^ 56 =
    lt_of_lt_of_le (whole-below 8 rest (AreSmall-drop 8 c.loop-at.at octets (AreSmall-from_get_or 8 octets (λ k. let f = c.type_inv.octets k in omega arith)))) (pow_mono count) in
    let stands : whole 8 (drop from octets) ≡ get_or octets from 0 + 2 ^ 8 * whole 8 rest =
    ap (λ xs. whole 8 xs) (drop_more octets from 0 (omega (arith, c.loop-at.invariant.0))) ∙ ap (λ k. get_or octets from 0 + 2 ^ 8 * whole 8 (drop k octets)) again in
    (omega (arith, c.loop-at.invariant.0), omega (arith, small, stands, c.loop-at.invariant.1, c.from.ensures))
