use Rattle.std.proofs.Common.{◌≡◌, ◌++◌}
use Rattle.looped_nets.specs.Loops.{nets_upto}
use Rattle.looped_nets.specs.Forks.{fork_of, taken_nets, flag_nets}
use Rattle.looped_nets.proofs.fork.list_flags.Given as goal

abbrev pub invariant-loop-branch : goal.invariant-loop-branch
invariant-loop-branch l = l.nets ≡ taken_nets (fork_of l.fork l.readies l.at) ++ nets_upto (flag_nets (fork_of l.fork l.readies l.at)) l.branch
