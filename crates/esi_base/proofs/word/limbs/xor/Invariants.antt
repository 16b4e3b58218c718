use Rattle.std.proofs.Common.{bit_xor}
use Rattle.esi_base.specs.Parts.{whole}
use Rattle.esi_base.proofs.Filling.{AreFirstLimbs}
use Rattle.esi_base.proofs.word.limbs.xor.Given as goal

abbrev pub invariant-loop-at : goal.invariant-loop-at
invariant-loop-at l = AreFirstLimbs l.out (bit_xor (whole 64 l.fn.first) (whole 64 l.fn.second)) l.at
