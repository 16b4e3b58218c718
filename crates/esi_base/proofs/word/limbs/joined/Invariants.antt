use Rattle.std.proofs.Common.{◌+◌, ◌*◌, ◌^◌}
use Rattle.esi_base.specs.Parts.{whole}
use Rattle.esi_base.proofs.Filling.{AreFirstLimbs}
use Rattle.esi_base.proofs.word.limbs.joined.Given as goal

abbrev pub invariant-loop-at : goal.invariant-loop-at
invariant-loop-at l = AreFirstLimbs l.out (whole 64 l.fn.high * 2 ^ l.fn.by + whole 64 l.fn.low) l.at
