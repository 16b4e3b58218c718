use Rattle.std.proofs.Common.{◌≡◌, ◌≤◌, length, drop}
use Rattle.esi_base.specs.Parts.{whole}
use Rattle.esi_base.proofs.word.limbs.limb_of_octets.Given as goal

abbrev pub invariant-loop-at : goal.invariant-loop-at
invariant-loop-at l = (l.at ≤ length l.octets) × (l.limb ≡ whole 8 (drop l.at l.octets))

abbrev pub decreases-loop-at : goal.decreases-loop-at
decreases-loop-at l = l.at
