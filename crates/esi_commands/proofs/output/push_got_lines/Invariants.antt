-- The piece has the lines of the values before this one.
use Rattle.std.proofs.Common.{◌≡◌, ◌≤◌, length, take}
use Rattle.std.specs.List.{flat_map}
use Rattle.esi_commands.specs.Output.{got_line}
use Rattle.esi_commands.proofs.output.push_got_lines.Given as goal

abbrev pub invariant-loop-count : goal.invariant-loop-count
invariant-loop-count l = (l.piece ≡ flat_map got_line (take l.count l.handed)) × (length l.piece ≤ 65536)
