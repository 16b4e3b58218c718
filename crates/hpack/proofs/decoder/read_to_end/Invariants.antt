use Rattle.std.proofs.Common.{◌≡◌, length}
use Rattle.hpack.specs.BlockReading.{to_end}
use Rattle.hpack.proofs.decoder.read_to_end.Given as goal

-- what is left, from here, gives what all gives
abbrev pub invariant-loop-rest : goal.invariant-loop-rest
invariant-loop-rest l = to_end (record { headers = l.list; table = l.table }) l.rest ≡ to_end (record { headers = l.fn.list; table = l.fn.table }) l.fn.octets

abbrev pub decreases-loop-rest : goal.decreases-loop-rest
decreases-loop-rest l = length l.rest
