use Rattle.std.proofs.Common.{◌/◌, ◌%◌, ◌^◌}
use Rattle.esi_base.specs.Parts.{whole}
use Rattle.esi_base.proofs.Filling.{AreFirstLimbs}
use Rattle.esi_base.proofs.word.limbs.cut.Given as goal

abbrev pub invariant-loop-at : goal.invariant-loop-at
invariant-loop-at l = AreFirstLimbs l.out (whole 64 l.fn.limbs / 2 ^ l.fn.from % 2 ^ l.fn.width) l.at
