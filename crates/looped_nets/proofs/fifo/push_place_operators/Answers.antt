use Rattle.std.proofs.Common.{◌≡◌, ◌∙◌, sym, subst, arith, List}
use Rattle.netlist.specs.declared.net.Net.{Net}
use Rattle.netlist.specs.Plans.{Plan}
use Rattle.net_lists.specs.Lists.{with_nets, FitAll}
use Rattle.net_lists.specs.ListLaws.{on_ok}
use Rattle.looped_nets.specs.Fifos.{CanLinkFifo}
use Rattle.looped_nets.specs.FifoFits.{registers_below, next_fits, next_can_link}
use Rattle.looped_nets.proofs.fifo.push_place_operators.Goals as goal

pub list_next-requires-clause-places : goal.list_next-requires-clause-places
list_next-requires-clause-places c =
    let kept = c.len-count.ensures.kept in
    let below = registers_below c.args.netlist.now c.args.fifo c.args.at kept c.requires.place c.requires.ready in
    (omega (arith, below, kept.limit), omega (arith, c.requires.ready.room.below, kept.limit), omega (arith, c.requires.place, kept.limit))

pub push_nets-requires : goal.push_nets-requires
push_nets-requires c =
    subst (λ (ns : List Net). FitAll c.args.netlist.now ns) (sym (c.as_slice.ensures ∙ c.in-Ok.ensures))
    (next_fits c.args.netlist.now c.args.fifo c.args.at c.len-count.ensures.kept c.requires.place c.requires.ready)

pub returns-in-Ok-clause-link : goal.returns-in-Ok-clause-link
returns-in-Ok-clause-link c =
    on_ok c.push_nets.result (c.push_nets.new.netlist ≡ with_nets c.args.netlist.now c.as_slice.result.now) (CanLinkFifo c.push_nets.new.netlist c.args.fifo c.args.at)
    (λ pushed.
    subst (λ (p : Plan). CanLinkFifo p c.args.fifo c.args.at) (sym (subst (λ (ns : List Net). c.push_nets.new.netlist ≡ with_nets c.args.netlist.now ns) (c.as_slice.ensures ∙ c.in-Ok.ensures) pushed))
    (next_can_link c.args.netlist.now c.args.fifo c.args.at c.len-count.ensures.kept c.requires.place c.requires.ready))
    c.push_nets.ensures.pushed
