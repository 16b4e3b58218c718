use Rattle.std.proofs.Common.{◌≡◌, length}
use Rattle.header_lists.specs.HeaderLists.{has_repeated_pseudo}
use Rattle.header_lists.proofs.list.has_repeated_pseudo.Given as goal

-- what is left, from here, repeats one exactly where all does
abbrev pub invariant-loop-rest : goal.invariant-loop-rest
invariant-loop-rest l = has_repeated_pseudo l.rest ≡ has_repeated_pseudo l.headers

abbrev pub decreases-loop-rest : goal.decreases-loop-rest
decreases-loop-rest l = length l.rest
