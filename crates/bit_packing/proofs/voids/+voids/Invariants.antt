use Rattle.bit_packing.proofs.VoidWalk.{IsWalked, AreWalked}
use Rattle.bit_packing.proofs.voids.+voids.Given as goal

abbrev pub invariant-field_sets_void-loop-field : goal.invariant-field_sets_void-loop-field
invariant-field_sets_void-loop-field l = IsWalked l.word l.fields l.fn.end l.field-index l.at

abbrev pub invariant-item_sets_void-loop : goal.invariant-item_sets_void-loop
invariant-item_sets_void-loop l = AreWalked l.word l.item l.fn.count l.fn.start l.counter l.at
