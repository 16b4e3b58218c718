use Rattle.std.proofs.Common.{◌≡◌, ◌+◌, ◌-◌, ◌<◌, ◌^◌, length}
use Rattle.small_text.specs.Lines.{lines, numbered_from}
use Rattle.small_text.proofs.text.Lines.next_line.Given as goal

abbrev pub invariant-loop-rest : goal.invariant-loop-rest
invariant-loop-rest l =
    (numbered_from l.number (lines l.rest) ≡ l.fn.self) × (l.number + length l.rest < 2 ^ 32 - 1)

abbrev pub decreases-loop-rest : goal.decreases-loop-rest
decreases-loop-rest l = length l.rest
