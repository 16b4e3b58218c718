use Rattle.std.proofs.Common.{◌≡◌, drop}
use Rattle.element_order.specs.Worklists.{AreDue, all_told_waits, all_told_keys}
use Rattle.element_order.proofs.worklist.tell.Given as goal

abbrev pub invariant-loop-element : goal.invariant-loop-element
invariant-loop-element l = record {
  due : AreDue (drop l.element-index l.fed) l.waits.items;
  waits : all_told_waits l.waits.items (drop l.element-index l.fed) ≡ all_told_waits l.fn.waits.items l.fed;
  ready : all_told_keys l.ready.keys l.waits.items (drop l.element-index l.fed) ≡ all_told_keys l.fn.ready.keys l.fn.waits.items l.fed;
}
