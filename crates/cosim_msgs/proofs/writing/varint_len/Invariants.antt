use Rattle.cosim_msgs.proofs.Lengths.{Counting}
use Rattle.cosim_msgs.proofs.writing.varint_len.Given as goal

abbrev pub invariant-loop-rest : goal.invariant-loop-rest
invariant-loop-rest l = Counting l.value l.len l.rest

abbrev pub decreases-loop-rest : goal.decreases-loop-rest
decreases-loop-rest l = l.rest
