use Rattle.esi_base.specs.Parts.{whole}
use Rattle.esi_base.proofs.Filling.{AreFirstLimbs}
use Rattle.esi_base.proofs.word.limbs.from_limbs.Given as goal

abbrev pub invariant-loop-at : goal.invariant-loop-at
invariant-loop-at l = AreFirstLimbs l.out (whole 64 l.fn.limbs) l.at
