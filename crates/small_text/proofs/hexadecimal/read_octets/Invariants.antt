use Rattle.std.proofs.Common.{◌≡◌, length}
use Rattle.small_text.specs.Hexadecimal.{octets_of_digits}
use Rattle.small_text.proofs.Digits.{after}
use Rattle.small_text.proofs.hexadecimal.read_octets.Given as goal

abbrev pub invariant-loop-rest : goal.invariant-loop-rest
invariant-loop-rest l = after l.octets (octets_of_digits l.rest) ≡ octets_of_digits l.part

abbrev pub decreases-loop-rest : goal.decreases-loop-rest
decreases-loop-rest l = length l.rest
