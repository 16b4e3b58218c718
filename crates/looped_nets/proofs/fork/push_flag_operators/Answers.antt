use Rattle.std.proofs.Common.{◌≡◌, ◌∙◌, sym, subst, length, List}
use Rattle.netlist.specs.declared.net.Net.{Net}
use Rattle.netlist.specs.Plans.{Plan}
use Rattle.net_lists.specs.Lists.{with_nets, FitAll}
use Rattle.net_lists.specs.ListLaws.{on_ok}
use Rattle.looped_nets.specs.Loops.{CanLinkAll}
use Rattle.looped_nets.specs.Forks.{flag_register, flag_next}
use Rattle.looped_nets.specs.ForkFits.{next_fits, next_can_link}
use Rattle.looped_nets.proofs.fork.push_flag_operators.Goals as goal

pub push_nets-requires : goal.push_nets-requires
push_nets-requires c =
    subst (λ (ns : List Net). FitAll c.args.netlist.now ns) (sym (c.as_slice.ensures ∙ c.in-Ok.ensures))
    (next_fits c.args.netlist.now c.args.fork c.args.readies.now c.args.at c.len-count.ensures.kept c.requires.place c.requires.ready)

pub returns-in-Ok-clause-link : goal.returns-in-Ok-clause-link
returns-in-Ok-clause-link c =
    on_ok c.push_nets.result (c.push_nets.new.netlist ≡ with_nets c.args.netlist.now c.as_slice.result.now)
    (CanLinkAll c.push_nets.new.netlist (flag_register c.args.fork.registers) (flag_next c.args.at) (length c.args.readies.now))
    (λ pushed.
    subst (λ (p : Plan). CanLinkAll p (flag_register c.args.fork.registers) (flag_next c.args.at) (length c.args.readies.now))
    (sym (subst (λ (ns : List Net). c.push_nets.new.netlist ≡ with_nets c.args.netlist.now ns) (c.as_slice.ensures ∙ c.in-Ok.ensures) pushed))
    (next_can_link c.args.netlist.now c.args.fork c.args.readies.now c.args.at c.len-count.ensures.kept c.requires.place c.requires.ready))
    c.push_nets.ensures.pushed
