use Rattle.std.proofs.Common.{◌≡◌, ◌+◌, ◌-◌, ◌++◌}
use Rattle.flat_design.specs.Laying.{count_up}
use Rattle.body_plans.proofs.places.add_from.Given as goal

abbrev pub invariant-loop-turn : goal.invariant-loop-turn
invariant-loop-turn l = l.places ++ count_up (l.first + l.turn) (l.count - l.turn) ≡ l.fn.places ++ count_up l.first l.count
