use Rattle.std.proofs.Common.{◌-◌}
use Rattle.cycle_sim.proofs.users.Users.new.Given as goal
use Rattle.cycle_sim.specs.Users.{UsersBelow}

abbrev pub invariant-loop-user : goal.invariant-loop-user
invariant-loop-user l = UsersBelow l.net l.lists.items l.user
