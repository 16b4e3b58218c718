-- The groups after the offset are read.
use Rattle.std.proofs.Common.{◌≡◌, ◌-◌, ◌*◌, ◌^◌, ◌<◌, drop, length}
use Rattle.proto_wire.specs.Varint.{number_of_groups}
use Rattle.proto_wire.proofs.varint.number_of_groups.Given as goal

abbrev pub invariant-loop-at : goal.invariant-loop-at
invariant-loop-at l = (l.number ≡ number_of_groups (drop l.at l.octets)) × (l.number < 2 ^ (7 * (length l.octets - l.at)))
