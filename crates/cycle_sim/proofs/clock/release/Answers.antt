use Rattle.std.proofs.Common.{◌-◌, arith, refl}
use Rattle.netlist.specs.Nets.{word_at}
use Rattle.netlist.specs.Plans.{Plan}
use Rattle.cycle_sim.proofs.clock.release.Goals as goal
use Rattle.cycle_sim.specs.Clocks.{released_none, released_more, registers_cleared, cleared_more, rest_more}

pub loop-register-init : goal.loop-register-init
loop-register-init c =
    let plan : Plan = c.args.wiring.now.net in
    record {
      state = c.requires.state;
      registers = c.requires.due;
      cleared = λ k l. absurd (omega arith);
      rest = λ k l. refl;
      released = released_none plan c.args.state.now.values c.args.state.now.marks c.args.state.now.waiting c.requires.none_marked;
      within = omega arith;
    }

pub loop-register-preserved : goal.loop-register-preserved
loop-register-preserved c =
    let plan : Plan = c.args.wiring.now.net in
    let at = c.in-Some.register in
    let inv = c.loop-register.invariant in
    record {
      state = c.put_held.ensures.kept;
      registers = registers_cleared plan c.loop-register.due c.take.new.self at inv.registers c.in-Some.ensures.taken;
      cleared = cleared_more c.loop-register.due c.take.new.self c.loop-register.from at c.in-Some.ensures.taken c.in-Some.ensures.first inv.cleared;
      rest = rest_more c.loop-register.due c.take.new.self c.args.due.now c.loop-register.from at c.in-Some.ensures.taken c.in-Some.ensures.first inv.rest;
      released =
          released_more plan c.args.wiring.now.users c.requires.wired.complete.plan_kept c.requires.wired.used c.args.state.now.values c.args.held.now c.args.due.now c.requires.calm c.requires.collected
          c.loop-register.state.values c.put_held.new.state.values c.loop-register.state.marks c.put_held.new.state.marks c.loop-register.state.waiting c.put_held.new.state.waiting c.loop-register.due
          c.loop-register.from at (word_at c.args.held.now at) inv.state c.requires.due inv.registers.count inv.rest c.in-Some.ensures.first refl c.put_held.ensures.values c.put_held.ensures.marks c.put_held.ensures.waiting inv.released;
      within = let lt = c.in-Some.ensures.first.within in let n = inv.registers.count in omega arith;
    }
