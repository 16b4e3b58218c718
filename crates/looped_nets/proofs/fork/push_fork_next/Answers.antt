use Rattle.std.proofs.Common.{arith}
use Rattle.looped_nets.specs.ForkFits.{registers_below}
use Rattle.looped_nets.proofs.fork.push_fork_next.Goals as goal

pub link_flags-requires-clause-places : goal.link_flags-requires-clause-places
link_flags-requires-clause-places c =
    let kept = c.len-at.ensures.kept in
    let below = registers_below c.args.netlist.now c.args.fork c.args.readies.now c.len-at.result kept c.len-at.ensures.count c.requires in
    (omega (arith, below, kept.limit), omega (arith, c.len-at.ensures.count, kept.limit))
