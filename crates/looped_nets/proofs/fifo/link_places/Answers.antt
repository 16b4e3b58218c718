use Rattle.std.proofs.Common.{rules, sym, subst, refl, ◌+◌, ◌-◌}
use Rattle.netlist.specs.Plans.{Plan, IsNextOf}
use Rattle.looped_nets.specs.Fifos.{place_register, early_next}
use Rattle.looped_nets.specs.LoopFits.{may_link_more, next_behind, same_next}
use Rattle.looped_nets.proofs.fifo.link_places.Goals as goal

pub set_next-requires : goal.set_next-requires
set_next-requires c =
    may_link_more c.args.netlist.now c.loop-place.netlist (place_register c.args.fifo) (early_next c.args.at) (c.args.fifo.depth - 1) c.loop-place.place (search rules) c.requires.link.early c.loop-place.invariant

pub set_next-requires-2 : goal.set_next-requires-2
set_next-requires-2 c = next_behind c.args.netlist.now c.loop-place.netlist (place_register c.args.fifo) (early_next c.args.at) c.loop-place.place _ _ c.requires.link.last c.loop-place.invariant

pub set_next-requires-3 : goal.set_next-requires-3
set_next-requires-3 c =
    subst (λ (p : Plan). IsNextOf p c.args.fifo.registers (c.args.at + 5)) (sym c.set_next-2.ensures)
    (same_next c.loop-place.netlist _ c.args.fifo.registers (c.args.at + 5) refl refl
    (next_behind c.args.netlist.now c.loop-place.netlist (place_register c.args.fifo) (early_next c.args.at) c.loop-place.place _ _ c.requires.link.count c.loop-place.invariant))
