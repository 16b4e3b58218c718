use Rattle.std.proofs.Common.{◌≡◌, drop, length}
use Rattle.element_order.specs.Worklists.{all_noted}
use Rattle.element_order.proofs.feeds.note_all.Given as goal

abbrev pub invariant-loop-source : goal.invariant-loop-source
invariant-loop-source l = record {
  left : all_noted l.feeds.items (drop l.source-index l.sources) l.element ≡ all_noted l.fn.feeds.items l.sources l.element;
  count : length l.feeds.items ≡ length l.fn.feeds.items;
}
