use Rattle.std.proofs.Common.{◌-◌}
use Rattle.netlist.specs.Plans.{Plan}
use Rattle.cycle_sim.proofs.putting.put_wide.Goals as goal
use Rattle.cycle_sim.specs.Turns.{state_from}

pub returns-clause-kept : goal.returns-clause-kept
returns-clause-kept c =
    let plan : Plan = c.args.wiring.now.net in
    state_from plan c.args.wiring.now.users c.requires.wired.complete.plan_kept c.requires.wired.used c.args.state.now.values c.args.state.now.marks c.args.state.now.waiting c.args.net c.args.word
    c.store.new.state.values c.store.new.state.marks c.store.new.state.waiting c.requires.state c.requires.width c.store.ensures.values c.store.ensures.marks c.store.ensures.waiting
