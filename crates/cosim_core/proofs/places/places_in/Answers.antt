use Rattle.std.proofs.Common.{arith}
use Rattle.netlist.specs.Reading.{net_read}
use Rattle.cosim_core.proofs.Registers.{noted_more, noted_done}
use Rattle.cosim_core.proofs.places.places_in.Goals as goal

pub loop-place-preserved : goal.loop-place-preserved
loop-place-preserved c =
    noted_more c.args.nets.now c.loop-place.places c.note_register.new.places _ c.loop-place.place c.index-nets-place.result c.loop-place-test.true
    (net_read c.args.nets.now c.loop-place.place c.index-nets-place.result c.loop-place-test.true c.index-nets-place.is) c.in_ok-note_register.ensures c.loop-place.invariant

pub returns : goal.returns
returns c = noted_done c.args.nets.now c.loop-place.places _ c.loop-place.place (omega arith) c.loop-place.invariant
