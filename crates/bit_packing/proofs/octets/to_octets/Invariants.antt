use Rattle.std.proofs.Common.{◌≡◌, take}
use Rattle.esi_base.specs.Bits.{number_of}
use Rattle.esi_base.specs.Parts.{parts}
use Rattle.bit_packing.proofs.octets.to_octets.Given as goal

abbrev pub invariant-loop-at : goal.invariant-loop-at
invariant-loop-at l = take l.at l.out ≡ parts 8 l.at (number_of l.word)
