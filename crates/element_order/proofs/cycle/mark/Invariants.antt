use Rattle.std.proofs.Common.{◌≡◌, drop, length}
use Rattle.element_order.specs.Reached.{with_marks}
use Rattle.element_order.proofs.cycle.mark.Given as goal

abbrev pub invariant-loop-element : goal.invariant-loop-element
invariant-loop-element l = record {
  left : with_marks l.marks.items (drop l.element-index l.elements) ≡ with_marks l.fn.marks.items l.elements;
  count : length l.marks.items ≡ length l.fn.marks.items;
}
