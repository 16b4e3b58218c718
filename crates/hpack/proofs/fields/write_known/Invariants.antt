use Rattle.hpack.specs.Known.{AreKnown}
use Rattle.hpack.proofs.fields.write_known.Given as goal

abbrev pub invariant-loop-known : goal.invariant-loop-known
invariant-loop-known l = AreKnown l.table l.headers l.known l.fn.out l.out
