use Rattle.std.proofs.Common.{◌≡◌, length}
use Rattle.std.specs.List.{list_any}
use Rattle.header_lists.specs.Fields.{is_bad_in_value}
use Rattle.header_lists.proofs.field.is_bad_value.Given as goal

-- what is left, from here, has one exactly where all does
abbrev pub invariant-loop-rest : goal.invariant-loop-rest
invariant-loop-rest l = list_any is_bad_in_value l.rest ≡ list_any is_bad_in_value l.value

abbrev pub decreases-loop-rest : goal.decreases-loop-rest
decreases-loop-rest l = length l.rest
