use Rattle.esi_base.specs.Bits.{length-bits_of}
use Rattle.esi_base.specs.Parts.{whole}
use Rattle.esi_base.proofs.Made.{word_of_limbs, bits_of_limbs}
use Rattle.esi_base.proofs.word.Word.from_limbs.Goals as goal

pub invariant_of-result : goal.invariant_of-result
invariant_of-result c =
    word_of_limbs c.from_limbs.result c.args.width (whole 64 c.args.limbs.now) c.from_limbs.ensures c.requires.fits c.requires.low c.requires.high

pub returns-clause-bits : goal.returns-clause-bits
returns-clause-bits c = bits_of_limbs c.from_limbs.result c.args.width (whole 64 c.args.limbs.now) c.from_limbs.ensures c.requires.fits c.requires.high

pub returns-clause-width : goal.returns-clause-width
returns-clause-width c = length-bits_of c.args.width (whole 64 c.from_limbs.result)
