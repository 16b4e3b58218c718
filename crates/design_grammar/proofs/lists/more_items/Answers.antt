use Rattle.std.proofs.Common.{Err, ap, ◌∙◌}
use Rattle.std.proofs.lemmas.Result.{err_from_is_err_and}
use Rattle.ll1_grammar.specs.Loops.{turning_ended, turning_fails, turning_more, reads_err}
use Rattle.design_grammar.specs.NextToken.{comes, comes_not}
use Rattle.design_grammar.specs.Rules.{designs}
use Rattle.design_grammar.specs.Lists.{one_more, one_more_shorter}
use Rattle.design_grammar.proofs.lists.more_items.Goals as goal

pub loop-alloc-smaller : goal.loop-alloc-smaller
loop-alloc-smaller g c = one_more_shorter g.L.Listed.reader g.met.L.Listed.shorter c.loop-alloc.items c.loop-alloc.cursor c.one_more.new.items c.one_more.new.cursor c.in_ok-one_more.ensures.reads

pub loop-alloc-preserved : goal.loop-alloc-preserved
loop-alloc-preserved g c =
    turning_more designs g.L.Listed.starts (one_more g.L.Listed.reader) g.met.L.Listed.ends _ _ _ _ _ _ c.loop-alloc.invariant (comes g.L.Listed.starts c.loop-alloc.cursor (cc)) c.in_ok-one_more.ensures.reads
    (one_more_shorter g.L.Listed.reader g.met.L.Listed.shorter c.loop-alloc.items c.loop-alloc.cursor c.one_more.new.items c.one_more.new.cursor c.in_ok-one_more.ensures.reads)

pub returns-in_err-one_more-clause-reads : goal.returns-in_err-one_more-clause-reads
returns-in_err-one_more-clause-reads g c =
    let p = err_from_is_err_and c.from_residual.result c.from_residual.ensures.1 in
    reads_err _ c.from_residual.result c.in_err-one_more.field-0.0 c.one_more.new.cursor (p.1 ∙ ap Err p.2)
    (turning_fails designs g.L.Listed.starts (one_more g.L.Listed.reader) g.met.L.Listed.ends _ _ _ _ _ c.loop-alloc.invariant (comes g.L.Listed.starts c.loop-alloc.cursor (cc)) c.in_err-one_more.ensures.reads)

pub returns-clause-reads : goal.returns-clause-reads
returns-clause-reads g c = turning_ended designs g.L.Listed.starts (one_more g.L.Listed.reader) _ _ _ _ c.loop-alloc.invariant (comes_not g.L.Listed.starts c.loop-alloc.cursor (cc))
