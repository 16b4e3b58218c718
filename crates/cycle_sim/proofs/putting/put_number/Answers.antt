use Rattle.std.proofs.Common.{◌-◌}
use Rattle.esi_base.specs.Bits.{bits_of, length-bits_of}
use Rattle.netlist.specs.Nets.{width_at}
use Rattle.netlist.specs.Plans.{Plan}
use Rattle.cycle_sim.proofs.putting.put_number.Goals as goal
use Rattle.cycle_sim.specs.Turns.{state_from}

pub returns-clause-kept : goal.returns-clause-kept
returns-clause-kept c =
    let plan : Plan = c.args.wiring.now.net in
    let width = width_at plan.widths c.args.net in
    state_from plan c.args.wiring.now.users c.requires.wired.complete.plan_kept c.requires.wired.used c.args.state.now.values c.args.state.now.marks c.args.state.now.waiting c.args.net (bits_of width c.args.number)
    c.store_number.new.state.values c.store_number.new.state.marks c.store_number.new.state.waiting c.requires.state (length-bits_of width c.args.number) c.store_number.ensures.values c.store_number.ensures.marks c.store_number.ensures.waiting
