use Rattle.std.proofs.Common.{sym, ◌∙◌}
use Rattle.hpack.proofs.IndexLaws.{known_more}
use Rattle.hpack.proofs.fields.write_known.Goals as goal

pub loop-known-preserved : goal.loop-known-preserved
loop-known-preserved c =
    known_more c.args.table.now c.args.headers.now c.loop-known.known c.index-headers-known.result c.in-Some.index c.args.out.now c.loop-known.out c.write_marked.new.out c.loop-known-test.true c.index-headers-known.is
    (sym c.index_of.ensures ∙ c.in-Some.is) c.in-Ok.ensures.written c.loop-known.invariant
