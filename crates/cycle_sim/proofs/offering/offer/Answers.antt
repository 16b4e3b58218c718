use Rattle.std.proofs.Common.{◌≡◌, ◌<◌, ◌-◌, length, true, get_or, arith, subst, sym, refl}
use Rattle.netlist.specs.Nets.{word_at}
use Rattle.netlist.specs.Plans.{Plan}
use Rattle.cycle_sim.specs.Wired.{AreInputPlaces}
use Rattle.cycle_sim.proofs.offering.offer.Goals as goal
use Rattle.netlist.specs.Reading.{word_read}
use Rattle.cycle_sim.specs.Offers.{offered_more, begun_offered, offer_wide}

pub put-requires-clause-width : goal.put-requires-clause-width
put-requires-clause-width c =
    let plan : Plan = c.args.wiring.now.net in
    let places = c.as_slice-places.result.now in
    let p : AreInputPlaces plan.nets places = subst (AreInputPlaces plan.nets) (sym c.as_slice-places.ensures) c.requires.wired.inputs in
    let lt : c.loop-number.number < length places = let a = p.count in let b = c.requires.inputs.one_each in omega arith in
    offer_wide plan c.args.inputs.now places c.loop-number.number (get_or places c.loop-number.number 0) c.index-inputs-number.result c.requires.wired.complete.plan_kept c.requires.inputs p lt refl
    (word_read c.args.inputs.now c.loop-number.number c.index-inputs-number.result c.loop-number-test.true c.index-inputs-number.is)

pub loop-number-preserved : goal.loop-number-preserved
loop-number-preserved c =
    let plan : Plan = c.args.wiring.now.net in
    let places = c.as_slice-places.result.now in
    let p : AreInputPlaces plan.nets places = subst (AreInputPlaces plan.nets) (sym c.as_slice-places.ensures) c.requires.wired.inputs in
    let number = c.loop-number.number in
    let lt : number < length places = let a = p.count in let b = c.requires.inputs.one_each in omega arith in
    let w = c.index-inputs-number.result in
    let is : w ≡ word_at c.args.inputs.now number = word_read c.args.inputs.now number w c.loop-number-test.true c.index-inputs-number.is in
    let inv = c.loop-number.invariant in
    record {
      state = c.put.ensures.kept;
      offered = offered_more plan c.args.inputs.now c.args.state.now.values c.loop-number.state.values c.put.new.state.values places number (get_or places number 0) w p inv.state.count lt refl is c.put.ensures.values inv.offered;
      begun = λ last keeps b.
          begun_offered plan c.args.wiring.now.users c.requires.wired.complete.plan_kept c.requires.wired.used last c.args.inputs.now c.args.state.now.values c.loop-number.state.values c.put.new.state.values
          c.loop-number.state.marks c.put.new.state.marks c.loop-number.state.waiting c.put.new.state.waiting places number (get_or places number 0) w p inv.state lt refl keeps inv.offered
          c.put.ensures.values c.put.ensures.marks c.put.ensures.waiting (inv.begun last keeps b);
    }
