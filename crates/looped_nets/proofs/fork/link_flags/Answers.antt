use Rattle.std.proofs.Common.{rules}
use Rattle.looped_nets.specs.Forks.{flag_register, flag_next}
use Rattle.looped_nets.specs.LoopFits.{may_link_more}
use Rattle.looped_nets.proofs.fork.link_flags.Goals as goal

pub set_next-requires : goal.set_next-requires
set_next-requires c = may_link_more c.args.netlist.now c.loop-branch.netlist (flag_register c.args.registers) (flag_next c.args.at) c.args.branches c.loop-branch.branch (search rules) c.requires.link c.loop-branch.invariant
