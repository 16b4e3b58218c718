use Rattle.std.proofs.Common.{arith}
use Rattle.esi_base.specs.Bits.{number_of}
use Rattle.bit_packing.proofs.OctetWalk.{octets_more}
use Rattle.bit_packing.proofs.octets.to_octets.Goals as goal

pub loop-at-preserved : goal.loop-at-preserved
loop-at-preserved c = octets_more c.loop-at.out c.loop-at.at (number_of c.args.word.now) c.octet.result (omega arith) c.loop-at.invariant c.octet.ensures
