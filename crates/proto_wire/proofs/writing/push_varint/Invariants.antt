-- What is written and what is left are the whole varint.
use Rattle.proto_wire.specs.WrittenLaws.{Writing}
use Rattle.proto_wire.proofs.writing.push_varint.Given as goal

abbrev pub invariant-loop-rest : goal.invariant-loop-rest
invariant-loop-rest l = Writing l.fn.out l.value l.out l.rest

abbrev pub decreases-loop-rest : goal.decreases-loop-rest
decreases-loop-rest l = l.rest
