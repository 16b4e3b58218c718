use Rattle.lowered_modules.specs.Interfaces.{ready_of}
use Rattle.lowered_text.specs.LoweredModules.{listed_more, listed_done}
use Rattle.lowered_text.proofs.printing.readies_of.Goals as goal

pub loop-n-preserved : goal.loop-n-preserved
loop-n-preserved c = listed_more ready_of c.args.ports.now c.loop-n.n c.port_at-port.result c.loop-n.readies c.add.new.self c.loop-n-test.true c.port_at-port.ensures c.in_ok-add.ensures.added c.loop-n.invariant

pub returns : goal.returns
returns c = listed_done ready_of c.args.ports.now c.loop-n.n c.loop-n.readies c.loop-n-test.false c.loop-n.invariant
