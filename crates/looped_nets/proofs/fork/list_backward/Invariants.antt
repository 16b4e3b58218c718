use Rattle.std.proofs.Common.{◌≡◌, ◌++◌}
use Rattle.looped_nets.specs.Loops.{nets_upto}
use Rattle.looped_nets.specs.Forks.{ForkNets, fork_of, wait_nets, fork_waits, chain, chain_nets}
use Rattle.looped_nets.proofs.fork.list_backward.Given as goal

abbrev pub invariant-loop-branch : goal.invariant-loop-branch
invariant-loop-branch l =
    l.nets ≡ nets_upto (wait_nets (fork_of (record { valid = 0; word = 0; registers = l.registers; forward = 0; backward = l.at }) l.readies 0)) l.branch

abbrev pub invariant-loop-link : goal.invariant-loop-link
invariant-loop-link l =
    let s : ForkNets = fork_of (record { valid = 0; word = 0; registers = l.registers; forward = 0; backward = l.at }) l.readies 0 in
    record { last : l.last ≡ chain s l.link; so_far : l.nets ≡ fork_waits s ++ nets_upto (chain_nets s) l.link }
