use Rattle.std.proofs.Common.{◌≡◌, ◌-◌, length, arith, refl, sym, ◌∙◌}
use Rattle.netlist.specs.Nets.{word_at, width_at}
use Rattle.netlist.specs.Plans.{Plan}
use Rattle.cycle_sim.proofs.clock.collect.Goals as goal
use Rattle.netlist.specs.SettledLaws.{widths_at}
use Rattle.cycle_sim.specs.Clocks.{words_put, collected_more}

pub loop-register-preserved : goal.loop-register-preserved
loop-register-preserved c =
    let plan : Plan = c.args.wiring.now.net in
    let at = c.in-Some.register in
    let next = c.next-next.result in
    let word = word_at c.args.values.now next in
    let wide : length word ≡ width_at plan.widths at =
    widths_at plan.widths c.args.values.now next c.requires.values.wide ∙ c.next-next.ensures.same in
    record {
      held = words_put plan c.args.wiring.now.users c.requires.wired.complete.plan_kept c.requires.wired.used c.loop-register.held c.put_from.new.self at word c.loop-register.invariant.held wide c.put_from.ensures;
      collected =
          collected_more plan c.args.values.now c.args.due.now c.loop-register.held c.put_from.new.self c.loop-register.from at next word c.loop-register.invariant.collected c.in-Some.ensures
          (c.loop-register.invariant.held.count ∙ sym c.requires.due.count) c.next-next.ensures.next refl c.put_from.ensures;
      within = let lt = c.in-Some.ensures.within in let n = c.requires.due.count in omega arith;
    }

pub put_from-requires-clause-width : goal.put_from-requires-clause-width
put_from-requires-clause-width c =
    widths_at c.args.wiring.now.net.widths c.args.values.now c.next-next.result c.requires.values.wide ∙ sym c.width-width.ensures.width

pub put_from-requires-clause-same : goal.put_from-requires-clause-same
put_from-requires-clause-same c =
    widths_at c.args.wiring.now.net.widths c.loop-register.held c.in-Some.register c.loop-register.invariant.held.wide ∙ sym c.next-next.ensures.same ∙ sym c.width-width.ensures.width
