use Rattle.std.proofs.Common.{◌-◌, length}
use Rattle.netlist.specs.Plans.{Plan}
use Rattle.cycle_sim.specs.Turns.{Turning}
use Rattle.cycle_sim.proofs.cycle.advance.Goals as goal
use Rattle.netlist.specs.Runs.{registers_after}
use Rattle.cycle_sim.specs.Passes.{turning_settled, turning_counted}
use Rattle.cycle_sim.specs.Simulated.{last_of}
use Rattle.cycle_sim.specs.CycleLaws.{turning_begun, ready_after}

pub returns-clause-settled : goal.returns-clause-settled
returns-clause-settled g c =
    let plan : Plan = c.args.wiring.now.net in
    let h = c.requires.wired.complete.plan_kept in
    let last = last_of c.args.started c.args.state.now.values in
    let start = c.args.steps.now in
    let begun = c.begin.ensures.begun in
    let inputs = c.args.inputs.now in
    let t : Turning plan inputs (registers_after plan last) last start c.settle.new.state.values c.settle.new.state.marks c.settle.new.state.waiting (length plan.nets) c.settle.new.steps =
    c.settle.ensures.settled inputs (registers_after plan last) last start
    (turning_begun plan c.args.wiring.now.users h c.requires.wired.used inputs last start c.begin.new.state.values c.offer.new.state.values c.begin.new.state.marks c.begin.new.state.waiting c.offer.new.state.marks c.offer.new.state.waiting
    c.requires.inputs begun c.offer.ensures.offered (c.offer.ensures.begun last begun.inputs begun.begun)) in
    turning_settled plan c.args.wiring.now.users h c.requires.wired.used inputs (registers_after plan last) last start c.settle.new.state.values c.settle.new.state.marks c.settle.new.state.waiting c.settle.new.steps c.settle.ensures.kept.count t

pub returns-clause-steps : goal.returns-clause-steps
returns-clause-steps g c =
    let plan : Plan = c.args.wiring.now.net in
    let h = c.requires.wired.complete.plan_kept in
    let last = last_of c.args.started c.args.state.now.values in
    let start = c.args.steps.now in
    let begun = c.begin.ensures.begun in
    let inputs = c.args.inputs.now in
    let t : Turning plan inputs (registers_after plan last) last start c.settle.new.state.values c.settle.new.state.marks c.settle.new.state.waiting (length plan.nets) c.settle.new.steps =
    c.settle.ensures.settled inputs (registers_after plan last) last start
    (turning_begun plan c.args.wiring.now.users h c.requires.wired.used inputs last start c.begin.new.state.values c.offer.new.state.values c.begin.new.state.marks c.begin.new.state.waiting c.offer.new.state.marks c.offer.new.state.waiting
    c.requires.inputs begun c.offer.ensures.offered (c.offer.ensures.begun last begun.inputs begun.begun)) in
    turning_counted plan c.args.wiring.now.users h c.requires.wired.used inputs (registers_after plan last) last start c.settle.new.state.values c.settle.new.state.marks c.settle.new.state.waiting c.settle.new.steps t

pub returns-clause-ready : goal.returns-clause-ready
returns-clause-ready g c =
    let plan : Plan = c.args.wiring.now.net in
    let h = c.requires.wired.complete.plan_kept in
    let last = last_of c.args.started c.args.state.now.values in
    let start = c.args.steps.now in
    let begun = c.begin.ensures.begun in
    let inputs = c.args.inputs.now in
    let t : Turning plan inputs (registers_after plan last) last start c.settle.new.state.values c.settle.new.state.marks c.settle.new.state.waiting (length plan.nets) c.settle.new.steps =
    c.settle.ensures.settled inputs (registers_after plan last) last start
    (turning_begun plan c.args.wiring.now.users h c.requires.wired.used inputs last start c.begin.new.state.values c.offer.new.state.values c.begin.new.state.marks c.begin.new.state.waiting c.offer.new.state.marks c.offer.new.state.waiting
    c.requires.inputs begun c.offer.ensures.offered (c.offer.ensures.begun last begun.inputs begun.begun)) in
    ready_after plan h inputs last start c.settle.new.state.values c.settle.new.state.marks c.settle.new.state.waiting c.settle.new.steps c.settle.ensures.kept t
