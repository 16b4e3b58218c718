use Rattle.hpack.proofs.SpanLaws.{span_is}
use Rattle.hpack.proofs.static_table.span_of.Goals as goal

pub returns : goal.returns
returns c = span_is c.args.name.now c.key_of-key.result c.key_of-key.ensures.key
