use Rattle.bit_packing.proofs.Taking.{IsTaken, AreTaken}
use Rattle.bit_packing.proofs.unpacking.+unpacking.Given as goal

abbrev pub invariant-values_below-loop-field : goal.invariant-values_below-loop-field
invariant-values_below-loop-field l = IsTaken l.word l.fields l.fn.end l.field-index l.at l.values

abbrev pub invariant-values_from-loop : goal.invariant-values_from-loop
invariant-values_from-loop l = AreTaken l.word l.item l.fn.count l.fn.start l.counter l.at l.values
