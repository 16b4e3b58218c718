use Rattle.std.proofs.Common.{◌-◌, length, arith, subst, sym, refl}
use Rattle.netlist.specs.Plans.{Plan}
use Rattle.cycle_sim.specs.Turns.{Turning}
use Rattle.cycle_sim.specs.Narrow.{fresh_word}
use Rattle.cycle_sim.proofs.pass.settle.Goals as goal
use Rattle.cycle_sim.specs.Passes.{turn_taken, turn_last}

pub loop-net-preserved : goal.loop-net-preserved
loop-net-preserved g c =
    let plan : Plan = c.args.wiring.now.net in
    record {
      state = c.evaluate.ensures.kept;
      turned = λ inputs held last start t.
          turn_taken plan c.args.wiring.now.users c.requires.wired.complete.plan_kept c.requires.wired.used inputs held last start
          c.loop-net.state.values c.evaluate.new.state.values c.loop-net.state.marks c.take.new.self c.evaluate.new.state.marks c.loop-net.state.waiting c.evaluate.new.state.waiting
          c.loop-net.from c.loop-net.steps c.evaluate.new.steps c.in-Some.net (fresh_word plan c.loop-net.state.values c.in-Some.net)
          c.loop-net.invariant.state c.in-Some.ensures.first refl c.in-Some.ensures.taken c.evaluate.ensures.values c.evaluate.ensures.marks c.evaluate.ensures.waiting c.evaluate.ensures.step
          (c.loop-net.invariant.turned inputs held last start t);
      within = let lt = c.in-Some.ensures.first.within in let n = c.loop-net.invariant.state.mark_count in omega arith;
    }

pub returns-clause-settled : goal.returns-clause-settled
returns-clause-settled g c = λ inputs held last start t.
    let plan : Plan = c.args.wiring.now.net in
    let words = c.loop-net.state.values in
    let waiting = c.loop-net.state.waiting in
    subst (λ ms. Turning plan inputs held last start words ms waiting (length plan.nets) c.loop-net.steps) (sym c.in_default.ensures.taken)
    (turn_last plan c.args.wiring.now.users c.requires.wired.complete.plan_kept c.requires.wired.used inputs held last start words c.loop-net.state.marks waiting c.loop-net.from c.loop-net.steps
    c.loop-net.invariant.within c.in_default.ensures.first (c.loop-net.invariant.turned inputs held last start t))
