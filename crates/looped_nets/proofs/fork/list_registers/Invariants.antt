use Rattle.std.proofs.Common.{◌≡◌}
use Rattle.looped_nets.specs.Forks.{fork_registers}
use Rattle.looped_nets.proofs.fork.list_registers.Given as goal

abbrev pub invariant-loop-branch : goal.invariant-loop-branch
invariant-loop-branch l = l.nets ≡ fork_registers l._branch
