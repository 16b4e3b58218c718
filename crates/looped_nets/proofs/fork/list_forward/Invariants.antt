use Rattle.std.proofs.Common.{◌≡◌}
use Rattle.looped_nets.specs.Forks.{fork_front}
use Rattle.looped_nets.proofs.fork.list_forward.Given as goal

abbrev pub invariant-loop-branch : goal.invariant-loop-branch
invariant-loop-branch l = l.nets ≡ fork_front l.branch l.registers l.valid l.at
