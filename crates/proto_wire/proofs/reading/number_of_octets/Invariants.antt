-- The octets after the offset are read.
use Rattle.std.proofs.Common.{◌≡◌, ◌-◌, ◌*◌, ◌^◌, ◌<◌, drop, length}
use Rattle.esi_base.specs.Parts.{whole}
use Rattle.proto_wire.proofs.reading.number_of_octets.Given as goal

abbrev pub invariant-loop-at : goal.invariant-loop-at
invariant-loop-at l = (l.number ≡ whole 8 (drop l.at l.octets)) × (l.number < 2 ^ (8 * (length l.octets - l.at)))
