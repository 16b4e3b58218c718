use Rattle.std.proofs.Common.{arith}
use Rattle.flat_checks.specs.Marks.{marked_none, sources_next, sources_all}
use Rattle.flat_checks.proofs.marks.mark_sources.Goals as goal

pub loop-element-init : goal.loop-element-init
loop-element-init c = marked_none c.args.marks.now

pub loop-element-preserved : goal.loop-element-preserved
loop-element-preserved c =
    sources_next c.args.marks.now c.loop-element.marks c.mark_all.new.marks c.args.elements.now c.loop-element.element-index c.element-item.result c.as_slice.result.now c.loop-element-test.true c.element-item.is c.as_slice.ensures c.loop-element.invariant
    (c.mark_all.ensures c.if-not-mark_all.false)

pub returns : goal.returns
returns c = λ t. sources_all c.args.marks.now c.loop-element.marks c.args.elements.now c.loop-element.element-index (omega arith) c.loop-element.invariant
