use Rattle.std.proofs.Common.{drop}
use Rattle.bit_packing.proofs.Laying.{IsLaid, AreLaid}
use Rattle.bit_packing.proofs.packing.+packing.Given as goal

abbrev pub invariant-packed_fields-loop-at : goal.invariant-packed_fields-loop-at
invariant-packed_fields-loop-at l = IsLaid l.word (drop l.at l.fields) (drop l.at l.values) l.fields l.values

abbrev pub invariant-packed_items-loop-value : goal.invariant-packed_items-loop-value
invariant-packed_items-loop-value l = AreLaid l.word l.item (drop l.value-index l.values) l.fn.values
