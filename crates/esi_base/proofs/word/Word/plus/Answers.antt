use Rattle.std.proofs.Common.{◌+◌, length, ap, ◌∙◌}
use Rattle.esi_base.specs.Bits.{length-bits_of}
use Rattle.esi_base.proofs.word.Word.plus.Goals as goal

pub returns-clause-width : goal.returns-clause-width
returns-clause-width c = ap length c.lowest_bits.ensures ∙ length-bits_of c.width.result (c.from.result + c.from-2.result) ∙ c.width.ensures.bits
