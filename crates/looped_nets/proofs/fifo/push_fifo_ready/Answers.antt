use Rattle.std.proofs.Common.{◌∙◌, ◌+◌, sym, ap, subst, [], ◌∷◌}
use Rattle.esi_base.specs.Bits.{bits_of}
use Rattle.netlist.specs.Nets.{Bits}
use Rattle.netlist.specs.declared.net.Net.TheVariants.{Const, Equal, Not}
use Rattle.net_lists.specs.Lists.{FitAll}
use Rattle.looped_nets.specs.FifoFits.{back_fits}
use Rattle.looped_nets.proofs.fifo.push_fifo_ready.Goals as goal

pub push_nets-requires : goal.push_nets-requires
push_nets-requires c =
    subst (λ (w : Bits). FitAll c.args.netlist.now (Const w ∷ Equal c.args.registers c.len-first.result ∷ Not (c.len-first.result + 1) ∷ []))
    (sym (c.from_u128-all.ensures ∙ ap (λ k. bits_of k c.args.depth) c.count_width.ensures.bits))
    (back_fits c.args.netlist.now c.args.depth c.args.registers c.len-first.result c.len-first.ensures.kept c.len-first.ensures.count c.requires)
