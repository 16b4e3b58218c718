use Rattle.std.proofs.Common.{◌≡◌, ◌++◌, length, take}
use Rattle.small_text.specs.Hexadecimal.{hex_of}
use Rattle.small_text.proofs.hexadecimal.push_hex.Given as goal

abbrev pub invariant-loop-octet : goal.invariant-loop-octet
invariant-loop-octet l =
    (l.out ≡ l.fn.out ++ hex_of (take l.octet-index l.octets)) × (l.len ≡ length l.fn.out)
