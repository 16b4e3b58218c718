use Rattle.name_tables.specs.Lists.{repeats}
use Rattle.name_tables.proofs.Walks.{RepeatWalk}
use Rattle.name_tables.proofs.repeats.first_repeat.Given as goal

abbrev pub invariant-loop-mark : goal.invariant-loop-mark
invariant-loop-mark l = RepeatWalk l.fn.first l.marks l.mark-index l.before l.place
