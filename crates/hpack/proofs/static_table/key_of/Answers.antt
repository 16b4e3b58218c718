use Rattle.std.proofs.Common.{sym, length, refl}
use Rattle.std.proofs.lemmas.Bool.{eqb-true}
use Rattle.hpack.specs.Spans.{key_of}
use Rattle.hpack.proofs.SpanLaws.{key_none}
use Rattle.hpack.proofs.static_table.key_of.Goals as goal

pub returns-then-is_empty-clause-key : goal.returns-then-is_empty-clause-key
returns-then-is_empty-clause-key c = key_none c.args.name.now (eqb-true (length c.args.name.now) 0 (sym c.if-is_empty.ensures))

pub returns-clause-key : goal.returns-clause-key
unfolding key_of
returns-clause-key c = refl
