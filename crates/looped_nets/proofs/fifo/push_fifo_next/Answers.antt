use Rattle.std.proofs.Common.{arith}
use Rattle.looped_nets.specs.FifoFits.{registers_below}
use Rattle.looped_nets.proofs.fifo.push_fifo_next.Goals as goal

pub link_places-requires-clause-places : goal.link_places-requires-clause-places
link_places-requires-clause-places c =
    let kept = c.len-at.ensures.kept in
    let below = registers_below c.args.netlist.now c.args.fifo c.len-at.result kept c.len-at.ensures.count c.requires in
    (omega (arith, below, kept.limit), omega (arith, c.len-at.ensures.count, kept.limit))
