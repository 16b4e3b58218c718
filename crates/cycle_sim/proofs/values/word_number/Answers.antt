use Rattle.std.proofs.Common.{◌^◌, ◌<◌, ◌∙◌}
use Rattle.std.proofs.Math.Nat.{mod-eq_of_lt, lt_of_lt_of_le}
use Rattle.std.proofs.Math.Pow.{pow_mono}
use Rattle.esi_base.specs.Bits.{number_of}
use Rattle.esi_base.specs.BitLists.{number_of-below}
use Rattle.esi_base.specs.Parts.{part-zero}
use Rattle.cycle_sim.proofs.values.word_number.Goals as goal

pub returns : goal.returns
returns c =
    let n = number_of c.args.word.now in
    let below : n < 2 ^ 64 = lt_of_lt_of_le (number_of-below c.args.word.now) (pow_mono c.requires) in
    c.limb.ensures ∙ part-zero 64 n ∙ mod-eq_of_lt below
