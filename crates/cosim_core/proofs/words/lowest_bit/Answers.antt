use Rattle.cosim_core.proofs.Steps.{bit_is}
use Rattle.cosim_core.proofs.words.lowest_bit.Goals as goal

pub returns : goal.returns
returns c = bit_is c.args.word c.bit.result c.bit.ensures
