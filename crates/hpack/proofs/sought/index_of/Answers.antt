use Rattle.std.proofs.Common.{sym, ◌∙◌}
use Rattle.hpack.specs.Sought.{passes}
use Rattle.hpack.proofs.IndexLaws.{index_static, index_dynamic}
use Rattle.hpack.proofs.sought.index_of.Goals as goal

pub returns-in-Some : goal.returns-in-Some
returns-in-Some c = sym (index_static (passes c.args.sought c.args.header.now) c.args.table.now c.in-Some.index (sym c.in-Some.ensures))

pub returns-in-None : goal.returns-in-None
returns-in-None c = c.index_of.ensures ∙ sym (index_dynamic (passes c.args.sought c.args.header.now) c.args.table.now (sym c.in-None.ensures))
