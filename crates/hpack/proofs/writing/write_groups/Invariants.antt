use Rattle.hpack.proofs.EncodingLemmas.{AreWritten}
use Rattle.hpack.proofs.writing.write_groups.Given as goal

-- what was written, with the groups of the rest after it, is all
abbrev pub invariant-loop-rest : goal.invariant-loop-rest
invariant-loop-rest l = AreWritten l.fn.out l.out l.fn.n l.rest

abbrev pub decreases-loop-rest : goal.decreases-loop-rest
decreases-loop-rest l = l.rest
