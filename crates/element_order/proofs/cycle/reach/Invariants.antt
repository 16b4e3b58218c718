use Rattle.std.proofs.Common.{◌≡◌, drop, length}
use Rattle.element_order.specs.Reached.{all_seen, all_waiting}
use Rattle.element_order.proofs.cycle.reach.Given as goal

abbrev pub invariant-loop-element : goal.invariant-loop-element
invariant-loop-element l = record {
  marks : all_seen l.seen.items (drop l.element-index l.elements) ≡ all_seen l.fn.seen.items l.elements;
  waits : all_waiting l.waiting.items l.seen.items (drop l.element-index l.elements) ≡ all_waiting l.fn.waiting.items l.fn.seen.items l.elements;
  count : length l.seen.items ≡ length l.fn.seen.items;
}
