use Rattle.std.specs.Prelude.{◌≡◌, replicate, false}
use Rattle.flat_checks.proofs.marks.no_marks.Given as goal

abbrev pub invariant-loop-channel : goal.invariant-loop-channel
invariant-loop-channel l = l.marks ≡ replicate l._channel false
