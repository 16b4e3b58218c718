use Rattle.esi_base.specs.Bits.{bits_of-zero}
use Rattle.esi_base.proofs.word.Word.zero.Goals as goal

pub returns : goal.returns
returns c = bits_of-zero c.args.width
