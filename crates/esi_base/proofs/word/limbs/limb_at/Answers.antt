use Rattle.std.proofs.Common.{◌≡◌, get_or, ◌∙◌, arith}
use Rattle.std.proofs.lemmas.Grind.{common_steps}
use Rattle.std.proofs.lemmas.Option.{gets}
use Rattle.esi_base.specs.Parts.{part-whole, AreSmall-from_get_or}
use Rattle.esi_base.proofs.word.limbs.limb_at.Goals as goal

pub returns : goal.returns
returns c =
    let read : c.unwrap_or.result ≡ get_or c.args.limbs.now c.args.at 0 = grind (arith, common_steps, gets) in
    read ∙ part-whole 64 c.args.limbs.now c.args.at (AreSmall-from_get_or 64 c.args.limbs.now c.fits-limbs)
