use Rattle.std.proofs.Common.{arith}
use Rattle.hpack.proofs.EncodingLemmas.{plain_text}
use Rattle.hpack.proofs.writing.write_text.Goals as goal

pub returns-in_ok-push_all-clause-written : goal.returns-in_ok-push_all-clause-written
returns-in_ok-push_all-clause-written c =
    plain_text _ _ _ _ c.huff_len-count.result c.huff_len-count.ensures (omega (arith, c.if-count-text.false)) c.in_ok-write_marked-2.ensures.written c.in_ok-push_all.ensures.pushed
