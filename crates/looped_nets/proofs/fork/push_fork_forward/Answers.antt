use Rattle.std.proofs.Common.{◌∙◌, sym, subst, List}
use Rattle.netlist.specs.declared.net.Net.{Net}
use Rattle.net_lists.specs.Lists.{FitAll}
use Rattle.looped_nets.specs.ForkFits.{front_fits}
use Rattle.looped_nets.proofs.fork.push_fork_forward.Goals as goal

pub push_nets-requires : goal.push_nets-requires
push_nets-requires c =
    subst (λ (ns : List Net). FitAll c.args.netlist.now ns) (sym (c.as_slice.ensures ∙ c.in-Ok.ensures))
    (front_fits c.args.netlist.now c.args.branches c.args.registers c.args.valid c.len-first.result c.len-first.ensures.kept c.len-first.ensures.count c.requires)
