use Rattle.std.proofs.Common.{arith}
use Rattle.std.proofs.lemmas.Result.{on_ok_weaker}
use Rattle.hpack.proofs.EncodingLemmas.{none_written, one_written, all_written}
use Rattle.hpack.proofs.writing.write_groups.Goals as goal

pub loop-rest-init : goal.loop-rest-init
loop-rest-init c = none_written c.args.out.now c.args.n (omega arith)

pub loop-rest-preserved : goal.loop-rest-preserved
loop-rest-preserved c = one_written _ _ _ _ _ c.loop-rest.invariant c.loop-rest-test.true c.in-Ok.ensures.added

pub returns-clause-written : goal.returns-clause-written
returns-clause-written c = on_ok_weaker c.add-2.result (λ e. all_written _ _ _ _ _ c.loop-rest.invariant c.loop-rest-test.false e) c.add-2.ensures.added
