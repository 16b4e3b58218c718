use Rattle.std.proofs.Common.{◌-◌, set, ap, ◌∙◌}
use Rattle.netlist.specs.Nets.{Bits, word_at}
use Rattle.netlist.specs.Plans.{Plan, is_register_at}
use Rattle.cycle_sim.specs.Changes.{marks_put}
use Rattle.cycle_sim.specs.Narrow.{fresh_fits, fresh_is}
use Rattle.cycle_sim.specs.Wired.{users_at, is_other_at}
use Rattle.cycle_sim.proofs.pass.evaluate.Goals as goal

pub put_number-requires-clause-fits : goal.put_number-requires-clause-fits
put_number-requires-clause-fits g c =
    fresh_fits c.args.wiring.now.net c.args.state.now.values c.args.net c.requires.wired.complete.plan_kept c.requires.within c.requires.computed c.requires.state.wide c.fresh_number-number.result c.fresh_number-number.ensures.number

pub returns-then-is_narrow-clause-values : goal.returns-then-is_narrow-clause-values
returns-then-is_narrow-clause-values g c =
    c.put_number.ensures.values ∙ ap (set c.args.state.now.values c.args.net)
    (fresh_is c.args.wiring.now.net c.args.state.now.values c.args.net c.requires.wired.complete.plan_kept c.requires.within c.requires.computed c.requires.state.wide c.fresh_number-number.result c.fresh_number-number.ensures.number)

pub returns-then-is_narrow-clause-marks : goal.returns-then-is_narrow-clause-marks
returns-then-is_narrow-clause-marks g c =
    let plan : Plan = c.args.wiring.now.net in
    c.put_number.ensures.marks
    ∙ ap (λ (w : Bits). marks_put (is_other_at plan.nets) (users_at c.args.wiring.now.users c.args.net) (word_at c.args.state.now.values c.args.net) w c.args.state.now.marks)
    (fresh_is plan c.args.state.now.values c.args.net c.requires.wired.complete.plan_kept c.requires.within c.requires.computed c.requires.state.wide c.fresh_number-number.result c.fresh_number-number.ensures.number)

pub returns-then-is_narrow-clause-waiting : goal.returns-then-is_narrow-clause-waiting
returns-then-is_narrow-clause-waiting g c =
    let plan : Plan = c.args.wiring.now.net in
    c.put_number.ensures.waiting
    ∙ ap (λ (w : Bits). marks_put (is_register_at plan.nets) (users_at c.args.wiring.now.users c.args.net) (word_at c.args.state.now.values c.args.net) w c.args.state.now.waiting)
    (fresh_is plan c.args.state.now.values c.args.net c.requires.wired.complete.plan_kept c.requires.within c.requires.computed c.requires.state.wide c.fresh_number-number.result c.fresh_number-number.ensures.number)
