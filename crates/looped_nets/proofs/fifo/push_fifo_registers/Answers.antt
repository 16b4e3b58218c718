use Rattle.std.proofs.Common.{◌∙◌, sym, subst, List}
use Rattle.netlist.specs.declared.net.Net.{Net}
use Rattle.net_lists.specs.Lists.{FitAll}
use Rattle.looped_nets.specs.FifoFits.{registers_fit}
use Rattle.looped_nets.proofs.fifo.push_fifo_registers.Goals as goal

pub push_nets-requires : goal.push_nets-requires
push_nets-requires c = subst (λ (ns : List Net). FitAll c.args.netlist.now ns) (sym (c.as_slice.ensures ∙ c.in-Ok.ensures)) (registers_fit c.args.netlist.now c.args.width c.args.depth)
