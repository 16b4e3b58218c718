use Rattle.net_lists.specs.ListLaws.{turn, too_many_here, same_refusal, room_there}
use Rattle.netlist.specs.declared.netlist.NetRefused.TheVariants.{TooMany}
use Rattle.net_lists.proofs.push_nets.Goals as goal

pub loop-net-preserved : goal.loop-net-preserved
loop-net-preserved c =
    let next = turn c.args.netlist.now c.loop-net.netlist c.push.new.self c.args.nets.now c.loop-net.net-index c.net-item.result c.loop-net-test.true c.net-item.is c.loop-net.invariant.fit c.loop-net.invariant.so_far c.in-Ok.ensures.pushed in
    record { fit = next.0; so_far = next.1 }

pub returns-in-Err-clause-too_many : goal.returns-in-Err-clause-too_many
returns-in-Err-clause-too_many c = λ e. too_many_here c.args.netlist.now c.loop-net.netlist c.args.nets.now c.loop-net.net-index c.loop-net-test.true c.loop-net.invariant.so_far (c.in-Err.ensures.too_many.0 (same_refusal c.in-Err.refused TooMany e))

pub returns-clause-room : goal.returns-clause-room
returns-clause-room c = room_there c.args.netlist.now c.loop-net.netlist c.args.nets.now c.loop-net.net-index c.loop-net-test.false c.loop-net.invariant.so_far c.len-kept.ensures.kept
