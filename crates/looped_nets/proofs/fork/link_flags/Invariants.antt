use Rattle.std.proofs.Common.{◌≡◌}
use Rattle.looped_nets.specs.Forks.{fork_linked}
use Rattle.looped_nets.proofs.fork.link_flags.Given as goal

abbrev pub invariant-loop-branch : goal.invariant-loop-branch
invariant-loop-branch l = l.netlist ≡ fork_linked l.initial.netlist l.registers l.at l.branch
