use Rattle.std.proofs.Common.{arith}
use Rattle.looped_nets.specs.CountBits.{counted_bits, least_counted, width_counted}
use Rattle.looped_nets.proofs.fifo.count_width.Goals as goal

pub returns-clause-bits : goal.returns-clause-bits
returns-clause-bits c = counted_bits c.args.depth

pub returns-clause-room : goal.returns-clause-room
returns-clause-room c = (least_counted c.args.depth c.requires).room

pub returns-clause-least : goal.returns-clause-least
returns-clause-least c = (least_counted c.args.depth c.requires).least

pub returns-clause-low : goal.returns-clause-low
returns-clause-low c = (width_counted c.args.depth c.requires).low

pub returns-clause-high : goal.returns-clause-high
returns-clause-high c = let h = (width_counted c.args.depth c.requires).high in omega (arith, h)
