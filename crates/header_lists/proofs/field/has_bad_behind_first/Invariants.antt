use Rattle.std.proofs.Common.{◌≡◌, length}
use Rattle.std.specs.List.{list_any}
use Rattle.header_lists.specs.Scans.{is_bad_behind_first}
use Rattle.header_lists.proofs.field.has_bad_behind_first.Given as goal

-- what is left, from here, has one exactly where all does
abbrev pub invariant-loop-rest : goal.invariant-loop-rest
invariant-loop-rest l = list_any is_bad_behind_first l.rest ≡ list_any is_bad_behind_first l.octets

abbrev pub decreases-loop-rest : goal.decreases-loop-rest
decreases-loop-rest l = length l.rest
