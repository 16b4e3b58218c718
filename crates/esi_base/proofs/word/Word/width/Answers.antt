use Rattle.std.proofs.Common.{ap, sym, ◌∙◌, length}
use Rattle.esi_base.specs.Bits.{length-bits_of}
use Rattle.esi_base.specs.Parts.{whole}
use Rattle.esi_base.proofs.word.Word.width.Goals as goal

pub returns-clause-bits : goal.returns-clause-bits
returns-clause-bits c =
    sym (ap length (sym c.self.view_is) ∙ length-bits_of c.self.inside.width (whole 64 c.self.inside.limbs))
