use Rattle.std.proofs.Common.{◌≡◌, ◌+◌, ◌-◌, ◌++◌, ◌∷◌, [], true, ap, ◌∙◌}
use Rattle.std.specs.Prelude.{if◌then◌else◌}
use Rattle.netlist.specs.Nets.{is_input}
use Rattle.netlist.specs.Plans.{net_at}
use Rattle.cycle_sim.proofs.start.input_places.Goals as goal
use Rattle.netlist.specs.Reading.{net_read}
use Rattle.cycle_sim.specs.Starts.{places_more}

pub loop-place-preserved : goal.loop-place-preserved
loop-place-preserved c =
    let place = c.loop-place.place in
    let places = c.loop-place.places in
    let is : c.index-nets-place.result ≡ net_at c.args.nets.now place = net_read c.args.nets.now place c.index-nets-place.result c.loop-place-test.true c.index-nets-place.is in
    places_more c.args.nets.now places c.note_input.new.places place c.loop-place-test.true
    (c.in_ok-note_input.ensures ∙ ap (λ n. if is_input n then places ++ place ∷ [] else places) is) c.loop-place.invariant
